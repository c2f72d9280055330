-- Document 01, "Radiotap": "The reading walks from one field to the next." Where a reader over octets in an edition stands,
-- what it answers there, where it moves on to. A place is a cursor, or the refusal of the octets.
use Rattle.std.specs.Prelude.{ℕ, List}
use Rattle.refusals.specs.Refusals.{Answer, refused, given}
use Rattle.radiotap_rules.specs.declared.Head.{Head}
use Rattle.radiotap_rules.specs.declared.Cursor.{Cursor}
use Rattle.radiotap_rules.specs.Rules.{Rules}
use Rattle.radiotap_rules.specs.Reading.{Reading, refused_before, refused_at_field, read, reading, field_past}
use Rattle.radiotap_rules.specs.Steps.{Met, refused_step, over, met, head_at, first_cursor, step_of}
use Rattle.radiotap_step.specs.Asked.{asked_in}

-- the first place behind a head. (A header that is read has a head.)
abbrev pub first_place : Answer Head → Answer Cursor
first_place (refused n q) = refused n q
first_place (given h) = given (first_cursor h)

-- a header is judged whole first: one that is refused, at a field too, has its refusal for a place
abbrev pub place_by : Answer Head → Reading → Answer Cursor
place_by head (refused_before n q) = refused n q
place_by head (refused_at_field w b p) = refused field_past p
place_by head (read fs e frame) = first_place head

-- the place of a reader made over octets in an edition
unfoldable pub fresh_place : Rules → (edition : ℕ) → List ℕ → Answer Cursor
fresh_place rules edition s = place_by (head_at s) (reading rules edition s)

-- what a reader answers at a place in the edition taken, whatever the place is: its refusal, or the step from its cursor
abbrev pub answer_taken : Rules → (taken : ℕ) → List ℕ → Answer Cursor → Met
answer_taken rules taken s (refused n q) = refused_step n q
answer_taken rules taken s (given c) = step_of rules taken s c

-- in an edition: 15 comes first, whatever the place is
unfoldable pub answer_at : Rules → (edition : ℕ) → List ℕ → Answer Cursor → Met
answer_at rules edition s place = asked_in rules edition (λ taken. answer_taken rules taken s place)

-- a reader that met a field moves on to the cursor behind it; a refusal and the ending stay
abbrev pub moved_by : Answer Cursor → Met → Answer Cursor
moved_by place (refused_step n q) = place
moved_by place (over e) = place
moved_by place (met f c) = given c

unfoldable pub moved_on : Rules → (edition : ℕ) → List ℕ → Answer Cursor → Answer Cursor
moved_on rules edition s place = moved_by place (answer_at rules edition s place)
