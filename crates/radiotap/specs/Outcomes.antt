-- What a walk over all fields leaves: how many there were, the one of a number, and the ending.
use Rattle.std.specs.Prelude.{ℕ, ◌+◌, cond, List, [], ◌∷◌, length, eqb}
use Rattle.refusals.specs.Refusals.{Answer, refused, given}
use Rattle.radiotap_rules.specs.declared.Head.{Head}
use Rattle.radiotap_rules.specs.Reading.{field_past, Field, Ending, Reading, refused_before, refused_at_field, read}
use Rattle.radiotap_rules.specs.Answers.{Summary}

-- a refusal; or how many fields, the ending, and the field of the number asked for
pub data Outcome : Type 0 where
  refused_outcome : (number place : ℕ) → Outcome
  shown_outcome : (fields : ℕ) → Ending → (kept : Field) → Outcome

-- no field: all numbers 0
abbrev pub none_kept : Field
none_kept = record { word = 0; bit = 0; place = 0; octets = [] }

-- the field of number k of a list, where so many fields stand before the list and this one was kept of them
abbrev pub kept_from : (before : ℕ) → Field → (k : ℕ) → List Field → Field
kept_from n kept k [] = kept
kept_from n kept k (f ∷ fs) = kept_from (n + 1) (cond (eqb n k) f kept) k fs

-- what a walk leaves, with so many fields and this one kept before it
abbrev pub outcome_from : (before : ℕ) → Field → (k : ℕ) → Reading → Outcome
outcome_from n kept k (refused_before number place) = refused_outcome number place
outcome_from n kept k (refused_at_field w b p) = refused_outcome field_past p
outcome_from n kept k (read fs e frame) = shown_outcome (n + length fs) e (kept_from n kept k fs)

abbrev pub outcome : (k : ℕ) → Reading → Outcome
outcome k r = outcome_from 0 none_kept k r

-- the header as a whole, by what the walk left
abbrev pub summarised : (pad : ℕ) → Head → Outcome → Answer Summary
summarised pad head (refused_outcome n q) = refused n q
summarised pad head (shown_outcome fields e kept) =
    given (record { fields = fields; ending = e; frame = head.size; pad = pad; words = head.words })
