-- However a stream is cut, its calls tell what the header reader and then the record reader tell of the whole stream.
-- Proofs: proofs/Cuts.antt.
use Rattle.std.specs.Prelude.{ℕ, zero, suc, ◌+◌, ◌^◌, ◌<◌, ◌≡◌, cond, List, [], ◌∷◌, ◌++◌, length, drop, eqb}
use Rattle.refusals.specs.Refusals.{Answer, refused, given, short_packet}
use Rattle.tiling.specs.Tiling.{Placed, Ending, ended, more, broken, Walk, items, ending}
use Rattle.btsnoop_rules.specs.Header.{header_at}
use Rattle.btsnoop_rules.specs.Record.{record_length, Record}
use Rattle.btsnoop_rules.specs.File.{file_walk}
use Rattle.stream_rules.specs.Stream.{Event, nothing, datalink, part, finished, refusal, end, Stream, refused_at, fresh, take_at, end_at}

-- what a reading tells: the datalink code (none where the header is refused), the finished records with their places,
-- numbers and octets, the start of a packet that 7 then ends, and the final answer
pub record Reading : Type 0 where
  pub codes : List ℕ
  pub records : List (Placed Record)
  pub cut : List ℕ
  pub final : Ending

-- the octets behind the header of a record that 7 refuses
abbrev pub cut_in : List ℕ → Ending → List ℕ
cut_in s (ended q) = []
cut_in s (more q) = []
cut_in s (broken n q) = cond (eqb n short_packet) (drop (q + record_length) s) []

abbrev pub walked : List ℕ → Walk Record → Reading
walked s w = record { codes = []; records = items w; cut = cut_in s (ending w); final = ending w }

abbrev pub with_code : ℕ → Reading → Reading
with_code code r = record { codes = code ∷ r.codes; records = r.records; cut = r.cut; final = r.final }

abbrev pub with_record : Placed Record → Reading → Reading
with_record x r = record { codes = r.codes; records = x ∷ r.records; cut = r.cut; final = r.final }

abbrev pub stopped : List ℕ → Ending → Reading
stopped xs e = record { codes = []; records = []; cut = xs; final = e }

-- the header reader and then the record reader over a whole stream
abbrev pub read_behind : List ℕ → Answer ℕ → Reading
read_behind s (refused n q) = stopped [] (broken n q)
read_behind s (given code) = with_code code (walked s (file_walk s))

abbrev pub read_whole : List ℕ → Reading
read_whole s = read_behind s (header_at s)

-- what calls told, after so many octets of a packet: its parts joined, each at the position where the last ended. Parts
-- elsewhere, or calls without a final answer, are no reading: none of a whole stream ends with "more".
abbrev pub in_place : ℕ → List ℕ → Reading → Reading
in_place position before r = cond (eqb position (length before)) r (stopped [] (more 0))

abbrev pub told : List ℕ → List Event → Reading
told before [] = stopped before (more 0)
told before (nothing ∷ es) = told before es
told before (datalink code ∷ es) = with_code code (told before es)
told before (part position xs ∷ es) = in_place position before (told (before ++ xs) es)
told before (finished p n position xs ∷ es) =
    in_place position before
    (with_record (record { place = p; value = record { numbers = n; packet = before ++ xs } }) (told [] es))
told before (refusal n q ∷ es) = stopped before (broken n q)
told before (end q ∷ es) = stopped before (ended q)

-- calls over what is left of a stream, each with any beginning of what the last one left, until the stream has ended or
-- a refusal was given; and what they hand out
pub data Calls : Stream → List ℕ → List Event → Type 0 where
  call : {st : Stream} {left : List ℕ} {es : List Event} (c more : List ℕ) → left ≡ c ++ more
      → Calls (take_at st c).next (drop (take_at st c).taken c ++ more) es → Calls st left ((take_at st c).event ∷ es)
  over : {st : Stream} → Calls st [] ((end_at st).event ∷ [])
  broke : {octets n q : ℕ} {left : List ℕ} → Calls (refused_at octets n q) left []

-- however a stream is cut, its calls tell what the header reader and then the record reader tell of the whole
abbrev pub CutAnyhow : Type 0
CutAnyhow = (s : List ℕ) (es : List Event) → length s < 2 ^ 63 → Calls fresh s es → told [] es ≡ read_whole s

-- calls with a chunk, each with what the last one left of it
abbrev pub use_up : (Stream → List Event) → ℕ → List ℕ → Stream → List Event
use_up then zero c st = then st
use_up then (suc n) c st = (take_at st c).event ∷ use_up then n (drop (take_at st c).taken c) (take_at st c).next

-- chunk after chunk, and then the stream has ended. A call takes an octet at least, so as many calls as a chunk has
-- octets use it up; one more calls with none left, or with a chunk of none.
abbrev pub drive : List (List ℕ) → Stream → List Event
drive [] st = (end_at st).event ∷ []
drive (c ∷ cs) st = use_up (drive cs) (suc (length c)) c st

abbrev pub joined : List (List ℕ) → List ℕ
joined [] = []
joined (c ∷ cs) = c ++ joined cs

-- chunks of any lengths, each used up before the next
abbrev pub ChunkByChunk : Type 0
ChunkByChunk = (cs : List (List ℕ)) → length (joined cs) < 2 ^ 63 → told [] (drive cs fresh) ≡ read_whole (joined cs)
