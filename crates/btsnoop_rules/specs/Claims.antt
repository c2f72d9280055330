-- What follows from the rules for whole files: acceptance, the walk, both round trips, and surveys in turn.
-- Proofs: proofs/Files.antt and proofs/RoundTrips.antt.
use Rattle.std.specs.Prelude.{ℕ, ◌+◌, ◌^◌, ◌≤◌, ◌<◌, ◌≡◌, true, ◌↔◌, ◌⊎◌, List, [], ◌∷◌, length}
use Rattle.std.specs.Int.Signed.{mag}
use Rattle.refusals.specs.Refusals.{refused, given, record_place}
use Rattle.octets.specs.Numbers.{Octets}
use Rattle.octets.specs.Parts.{part}
use Rattle.tiling.specs.Tiling.{Next, Placed, ended, broken, walk, items, ending, Tiles}
use Rattle.tiling.specs.Claims.{Reached, Final, in_turn, sum}
use Rattle.record_rules.specs.Outputs.{All, values_of, placed_from, length_of, Output, write_all, WrittenAt}
use Rattle.btsnoop_rules.specs.Header.{header_length, served, header_at}
use Rattle.btsnoop_rules.specs.Record.{record_length, end, whole, record_at, packet_at, Record, record_step, WholeAt}
use Rattle.btsnoop_rules.specs.File.{survey_at, file_walk, File, file_at}
use Rattle.btsnoop_rules.specs.Writing.{header_writing, header_written, record_writing, record_written}

-- the record step finds exactly the records that lie whole at a place
pub record FoundExactly (s : List ℕ) (p : ℕ) (r : Record) (q : ℕ) : Type 0 where
  pub found : WholeAt s p r q → record_step s p ≡ given (Next.whole r q)
  pub lies : record_step s p ≡ given (Next.whole r q) → WholeAt s p r q

abbrev pub WholeExactly : Type 0
WholeExactly = (s : List ℕ) (p : ℕ) (r : Record) (q : ℕ) → FoundExactly s p r q

-- a valid header with a code, and whole records that fill the rest
pub record Filled (s : List ℕ) (code : ℕ) (xs : List (Placed Record)) : Type 0 where
  pub header : header_at s ≡ given code
  pub records : Tiles (WholeAt s) header_length xs (length s)

-- a file is accepted exactly when its header is valid and whole records fill the rest; so a file of the header alone is
-- accepted with no records
pub record AcceptedFile (s : List ℕ) : Type 0 where
  pub filled : (file : File) → file_at s ≡ given file
      → (xs : List (Placed Record)) × Filled s file.datalink xs × (length xs ≡ file.records)
  pub accepted : (code : ℕ) (xs : List (Placed Record)) → Filled s code xs
      → file_at s ≡ given (record { datalink = code; records = length xs })

abbrev pub AcceptedExactly : Type 0
AcceptedExactly = (s : List ℕ) → AcceptedFile s

-- walking the record reader from a place finds each of these records, at its place and with its packet's octets, and
-- then the end
pub data Meets (s : List ℕ) : ℕ → List (Placed Record) → Type 0 where
  at_the_end : {p : ℕ} → record_at s p ≡ given end → Meets s p []
  on_record : {p packet q : ℕ} {r : Record} {xs : List (Placed Record)} → record_at s p ≡ given (whole r.numbers packet q)
      → packet_at s p ≡ r.packet → Meets s q xs → Meets s p (record { place = p; value = r } ∷ xs)

-- the walk over an accepted file meets exactly its records
pub record FileMet (s : List ℕ) (xs : List (Placed Record)) : Type 0 where
  pub meets : Meets s header_length xs
  pub passed : items (file_walk s) ≡ xs
  pub ends : ending (file_walk s) ≡ ended (length s)

abbrev pub WalkMeets : Type 0
WalkMeets = (s : List ℕ) (code : ℕ) (xs : List (Placed Record)) → Filled s code xs → FileMet s xs

-- a record that can be written: its numbers fit their fields, and no packet is above its original length
pub record Representable (r : Record) : Type 0 where
  pub included : r.numbers.included ≡ length r.packet
  pub not_above : length r.packet ≤ r.numbers.original
  pub original : r.numbers.original < 2 ^ 32
  pub flags : r.numbers.flags < 2 ^ 32
  pub drops : r.numbers.drops < 2 ^ 32
  pub time : mag r.numbers.time < 2 ^ 63
  pub octets : Octets r.packet

abbrev pub AllRepresentable : List Record → Type 0
AllRepresentable = All Representable

-- the writers as steps of writing a whole file, by their own promises
abbrev pub write_header : List ℕ → (at code : ℕ) → Output
write_header out at code = record { octets = header_written out at code; answer = header_writing (length out) at code }

abbrev pub write_record : List ℕ → (at : ℕ) → Record → Output
write_record out at r =
    record {
      octets =
          record_written out at r.numbers.original r.numbers.flags r.numbers.drops r.numbers.time r.packet;
      answer = record_writing (length out) at r.numbers.original r.packet;
    }

-- a file written at a place of an output: the header and then record after record
abbrev pub write_file : List ℕ → (at code : ℕ) → List Record → Output
write_file out at code rs = write_all write_record (write_header out at code) rs

-- how long a record is
abbrev pub record_size : Record → ℕ
record_size r = record_length + length r.packet

-- the octets of the file so written
abbrev pub written_file : List ℕ → (at code : ℕ) → List Record → List ℕ
written_file out at code rs = part (write_file out at code rs).octets at (header_length + length_of record_size rs)

-- given room, writing a header and any representable records, and then reading, returns them: the octets written are a
-- header and whole records; the check accepts them with the code and the count; the walk meets the records
pub record WriteRead (out : List ℕ) (at code : ℕ) (rs : List Record) : Type 0 where
  pub written : WrittenAt out at (header_length + length_of record_size rs) (write_file out at code rs)
  pub filled : Filled (written_file out at code rs) code (placed_from record_size header_length rs)
  pub accepted : file_at (written_file out at code rs) ≡ given (record { datalink = code; records = length rs })
  pub met : FileMet (written_file out at code rs) (placed_from record_size header_length rs)

abbrev pub WriteThenRead : Type 0
WriteThenRead = (out : List ℕ) (at code : ℕ) (rs : List Record) → served code ≡ true → AllRepresentable rs
    → at + (header_length + length_of record_size rs) ≤ length out → WriteRead out at code rs

-- these records can be written, and rewriting a file from them gives its own octets
pub record Rewritten (s out : List ℕ) (at code : ℕ) (rs : List Record) : Type 0 where
  pub representable : AllRepresentable rs
  pub written : WrittenAt out at (length s) (write_file out at code rs)
  pub same : part (write_file out at code rs).octets at (length s) ≡ s

-- rewriting an accepted file, from its code and the records that its walk passes, gives its own octets
abbrev pub RewriteAccepted : Type 0
RewriteAccepted = (s out : List ℕ) (at : ℕ) (file : File) → Octets s → file_at s ≡ given file → at + length s ≤ length out
    → Rewritten s out at file.datalink (values_of (items (file_walk s)))

-- surveys one after another, each from the place the last reached and none refused before the last, end as one survey
-- with the summed number does; a refusal ends them
abbrev pub SurveysInTurn : Type 0
SurveysInTurn = (s : List ℕ) (n : ℕ) (ms : List ℕ) (p : ℕ)
    → in_turn header_length (length s) (record_step s) n ms p ≡ survey_at s p (sum n ms)

-- a survey gives 17, at its place and with no record counted, exactly when no record may start there
abbrev pub SurveyPlaceExactly : Type 0
SurveyPlaceExactly = (s : List ℕ) (p n : ℕ)
    → (survey_at s p n ≡ record { count = 0; ending = broken record_place p }) ↔ ((p < header_length) ⊎ (length s < p))

-- a survey's count is the number of records between its start and the place that it reached
pub record SurveyCounts (s : List ℕ) (p n : ℕ) : Type 0 where
  pub answer : survey_at s p n ≡ record { count = length (items (walk (record_step s) n p)); ending = ending (walk (record_step s) n p) }
  pub reached : Reached (record_step s) p (walk (record_step s) n p)

abbrev pub SurveyCountsPassed : Type 0
SurveyCountsPassed = (s : List ℕ) (p n : ℕ) → header_length ≤ p → p ≤ length s → SurveyCounts s p n

-- a survey allowed as many records as the input has octets never says "more"
abbrev pub NeverMore : Type 0
NeverMore = (s : List ℕ) (p : ℕ) → header_length ≤ p → p ≤ length s → Final (survey_at s p (length s)).ending

-- nor does the walk behind a valid header
abbrev pub WalkNeverMore : Type 0
WalkNeverMore = (s : List ℕ) (code : ℕ) → header_at s ≡ given code → Final (ending (file_walk s))

-- and that walk never gives 17; so neither does the listing, which shows how it ends
abbrev pub WalkNever17 : Type 0
WalkNever17 = (s : List ℕ) (code q : ℕ) → header_at s ≡ given code → ending (file_walk s) ≡ broken record_place q → ⊥

-- the check of a file never gives 17
abbrev pub CheckNever17 : Type 0
CheckNever17 = (s : List ℕ) (q : ℕ) → file_at s ≡ refused record_place q → ⊥
