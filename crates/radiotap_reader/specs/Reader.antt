-- Document 01, "Radiotap": "The reading walks from one field to the next." What a reader answers that is made over octets in
-- an edition and moved on from field to field.
use Rattle.std.specs.Prelude.{ℕ, zero, suc, ◌≡◌, Bool, true, false, List}
use Rattle.refusals.specs.Refusals.{Answer}
use Rattle.radiotap_rules.specs.declared.Cursor.{Cursor}
use Rattle.radiotap_rules.specs.Rules.{Rules}
use Rattle.radiotap_rules.specs.Reading.{reading, field_of}
use Rattle.radiotap_rules.specs.Steps.{Met, refused_step, over, met, shown_by}
use Rattle.radiotap_place.specs.Places.{fresh_place, answer_at, moved_on}

-- moved on so many times
abbrev pub moved_times : Rules → (edition : ℕ) → List ℕ → (k : ℕ) → Answer Cursor → Answer Cursor
moved_times rules edition s zero place = place
moved_times rules edition s (suc k) place = moved_times rules edition s k (moved_on rules edition s place)

-- what a fresh reader answers after so many moves
abbrev pub answer_after : Rules → (edition : ℕ) → List ℕ → (k : ℕ) → Met
answer_after rules edition s k = answer_at rules edition s (moved_times rules edition s k (fresh_place rules edition s))

-- whether a reader stays at an answer
abbrev pub stays_at : Met → Bool
stays_at (refused_step n q) = true
stays_at (over e) = true
stays_at (met f c) = false

-- a fresh reader stepped k times answers field number k of the reading: the field, then the end or the named stop for
-- ever; over refused octets the refusal at every step. Proof: proofs/Readers.antt.
abbrev pub ReaderAnswers : Type 0
ReaderAnswers = (rules : Rules) (edition : ℕ) (s : List ℕ) (k : ℕ)
    → shown_by (answer_after rules edition s k) ≡ field_of (reading rules edition s) k
