-- The numbers that BTSnoop's readers and writers and a listing refuse with, test by test.
-- Assumes nothing.
use Prim.Native.Nat.{ℕ, zero, suc, ◌+◌, ◌-◌}
use mathlib.Core.Path.{◌≡◌, subst}
use mathlib.Core.Bool.{Bool, true, false, cond, ◌&&◌}
use mathlib.Core.List.{List}
use lib.ListN.{length}
use lib.Dec.{leb, eqb}
use Rattle.std.specs.Int.Signed.{le_z}
use Rattle.refusals.specs.Refusals.{Answer, refused, given, record_place, no_room}
use Rattle.refusals.specs.declared.Reason.{Reason}
use Rattle.octets.specs.Numbers.{big, octets_at, number_at}
use Rattle.octets.specs.Parts.{has_room}
use Rattle.tiling.specs.Tiling.{Next, Ending, ended, more, broken, items, ending, used, onward, walk, survey_of, survey}
use Rattle.btsnoop_rules.specs.declared.Numbers.{Numbers}
use Rattle.btsnoop_rules.specs.Header.{header_length, identification_octets, version_number, served, same_octets, header_judged, header_at}
use Rattle.btsnoop_rules.specs.Record.{record_length, numbers_at, Found, end, whole, record_judged, record_placed, record_at, step_on, record_step}
use Rattle.btsnoop_rules.specs.File.{survey_at, file_walk, file_of, behind, file_at}
use Rattle.btsnoop_rules.specs.Writing.{header_writing, record_writing}
use Rattle.btsnoop_earlier.specs.Earlier.{Earlier, refused_in, both_stop, packet_of, decided, earlier_of}
use Rattle.listing_rules.specs.Lines.{listing, listing_writing}
use Rattle.refusal_numbers.specs.Named.{NamedNumber}
use Rattle.refusal_numbers.specs.Claims.{BtsnoopNamed, ListingNamed}
use Rattle.refusal_numbers.proofs.NamedAnswer.{on, NamedAnswer, refuses, gives, either_of, either, told}

header-named : (s : List ℕ) → NamedAnswer (header_at s)
unfolding header_at header_judged
header-named s =
    either (leb header_length (length s))
    (either (same_octets (octets_at s 0 8) identification_octets)
    (either (eqb (number_at big 4 s 8) version_number)
    (either (served (number_at big 4 s 12)) gives (refuses (on Reason.Datalink _)))
    (refuses (on Reason.Version _)))
    (refuses (on Reason.Identification _)))
    (refuses (on Reason.ShortHeader _))

judged-named : (left p : ℕ) (n : Numbers) → NamedAnswer (record_judged left p n)
unfolding record_judged
judged-named left p n =
    either (leb n.included n.original)
    (either (leb (record_length + n.included) left) gives (refuses (on Reason.ShortPacket _)))
    (refuses (on Reason.IncludedAboveOriginal _))

record-named : (s : List ℕ) (p : ℕ) → NamedAnswer (record_at s p)
unfolding record_at
record-named s p =
    either (record_placed s p)
    (either (eqb p (length s)) gives
    (either (leb record_length (length s - p)) (judged-named (length s - p) p (numbers_at s p)) (refuses (on Reason.ShortRecord _))))
    (refuses (on Reason.RecordPlace _))

step-named : (s : List ℕ) (p : ℕ) → NamedAnswer (record_step s p)
step-named s p = go (record_at s p) (record-named s p)
  where
    go : (a : Answer Found) → NamedAnswer a → NamedAnswer (step_on s a)
    go (refused n q) (refuses l) = refuses l
    go (given end) l = gives
    go (given (whole n packet next)) l = gives

-- an ending whose refusal, where it is one, has a named number
data NamedEnding : Ending → Type 0 where
  breaks : {n q : ℕ} → NamedNumber n → NamedEnding (broken n q)
  at_end : {q : ℕ} → NamedEnding (ended q)
  before_end : {q : ℕ} → NamedEnding (more q)

ends_told : {e : Ending} {n q : ℕ} → NamedEnding e → e ≡ broken n q → NamedNumber n
ends_told l e = go (subst NamedEnding e l)
  where
    go : {n q : ℕ} → NamedEnding (broken n q) → NamedNumber n
    go (breaks l) = l

walk-named : {A : Type 0} (step : ℕ → Answer (Next A)) → ((p : ℕ) → NamedAnswer (step p)) → (number p : ℕ) → NamedEnding (ending (walk step number p))
walk-named {A = A} step steps zero p = go (step p)
  where
    go : (a : Answer (Next A)) → NamedEnding (ending (used p a))
    go (refused n q) = before_end
    go (given Next.end) = at_end
    go (given (Next.whole a q)) = before_end
walk-named {A = A} step steps (suc number) p = go (walk-named step steps number) (step p) (steps p)
  where
    go : ((q : ℕ) → NamedEnding (ending (walk step number q))) → (a : Answer (Next A)) → NamedAnswer a → NamedEnding (ending (onward p (walk step number) a))
    go rest (refused n q) (refuses l) = breaks l
    go rest (given Next.end) l = at_end
    go rest (given (Next.whole a q)) l = rest q

survey-named : (s : List ℕ) (p number : ℕ) → NamedEnding (survey_at s p number).ending
unfolding survey_at survey
survey-named s p number = go (leb header_length p && leb p (length s))
  where
    go : (t : Bool) → NamedEnding (cond t (survey_of (walk (record_step s) number p)) (record { count = 0; ending = broken record_place p })).ending
    go true = walk-named (record_step s) (step-named s) number p
    go false = breaks (on Reason.RecordPlace _)

file-named : (s : List ℕ) → NamedAnswer (file_at s)
unfolding file_at file_walk
file-named s = go (header_at s) (header-named s)
  where
    by_ending : (code count : ℕ) (e : Ending) → NamedEnding e → NamedAnswer (file_of code count e)
    by_ending code count (ended q) l = gives
    by_ending code count (more q) l = refuses (on Reason.RecordPlace _)
    by_ending code count (broken n q) (breaks l) = refuses l

    go : (a : Answer ℕ) → NamedAnswer a → NamedAnswer (behind s a)
    go (refused n q) (refuses l) = refuses l
    go (given code) l =
        by_ending code (length (items (walk (record_step s) (length s) header_length))) (ending (walk (record_step s) (length s) header_length))
        (walk-named (record_step s) (step-named s) (length s) header_length)

-- the earlier of two
data NamedSide : Earlier → Type 0 where
  breaks_in : {capture n q : ℕ} → NamedNumber n → NamedSide (refused_in capture n q)
  both : NamedSide both_stop
  one : {capture packet size : ℕ} → NamedSide (packet_of capture packet size)

sides_told : {e : Earlier} {capture n q : ℕ} → NamedSide e → e ≡ refused_in capture n q → NamedNumber n
sides_told l e = go (subst NamedSide e l)
  where
    go : {capture n q : ℕ} → NamedSide (refused_in capture n q) → NamedNumber n
    go (breaks_in l) = l

earlier-named : (first : List ℕ) (first_at : ℕ) (second : List ℕ) (second_at : ℕ) → NamedSide (earlier_of first first_at second second_at)
unfolding earlier_of
earlier-named first first_at second second_at = go (record_at first first_at) (record_at second second_at) (record-named first first_at) (record-named second second_at)
  where
    go : (a b : Answer Found) → NamedAnswer a → NamedAnswer b → NamedSide (decided a b)
    go (refused n q) b (refuses l) r = breaks_in l
    go (given end) (refused n q) l (refuses r) = breaks_in r
    go (given (whole n packet next)) (refused m q) l (refuses r) = breaks_in r
    go (given end) (given end) l r = both
    go (given end) (given (whole m packet next)) l r = one
    go (given (whole n packet next)) (given end) l r = one
    go (given (whole n packet next)) (given (whole m packet' next')) l r = either_of NamedSide (le_z n.time m.time) one one

-- the writers
header_writing-named : (size at code : ℕ) → NamedAnswer (header_writing size at code)
unfolding header_writing
header_writing-named size at code =
    either (served code) (either (has_room size at header_length) gives (refuses (on Reason.NoRoom _))) (refuses (on Reason.Datalink _))

record_writing-named : (size at original : ℕ) (packet : List ℕ) → NamedAnswer (record_writing size at original packet)
unfolding record_writing
record_writing-named size at original packet =
    either (leb (length packet) original)
    (either (has_room size at (record_length + length packet)) gives (refuses (on Reason.NoRoom _)))
    (refuses (on Reason.IncludedAboveOriginal _))

pub btsnoop_named : BtsnoopNamed
btsnoop_named =
    record {
      header = λ s n q. told (header-named s);
      one_record = λ s p n q. told (record-named s p);
      survey = λ s p number n q. ends_told (survey-named s p number);
      file = λ s n q. told (file-named s);
      earlier = λ first first_at second second_at capture n q. sides_told (earlier-named first first_at second second_at);
      writes_header = λ size at code n q. told (header_writing-named size at code);
      writes_record = λ size at original packet n q. told (record_writing-named size at original packet);
    }

-- a listing
pub listing_named : ListingNamed
unfolding listing_writing
listing_named size at s n q = told (go (has_room size at (length (listing s))))
  where
    go : (t : Bool) → NamedAnswer (cond t (given (at + length (listing s))) (refused no_room 0))
    go t = either t gives (refuses (on Reason.NoRoom _))
