-- What a walk that keeps the field of a number answers, and the answers by what it leaves.
use Rattle.std.specs.Prelude.{ℕ, cond, ltb, Option, Some, None}
use Rattle.radiotap_rules.specs.Reading.{refused_field, the_field, no_field}
use Rattle.radiotap_rules.specs.Reading.{FieldAnswer as AnswerOf}
use Rattle.radiotap.specs.Outcomes.{Outcome, refused_outcome, shown_outcome}
use Rattle.radiotap_field.specs.declared.Shown.{Shown}
use Rattle.radiotap_field.specs.declared.FieldAnswer.{FieldAnswer}

-- the field that is kept, or the answer where there is none
abbrev pub kept_or : Option Shown → FieldAnswer → FieldAnswer
kept_or (Some f) otherwise = FieldAnswer.Field f
kept_or None otherwise = otherwise

-- a field number, by what a walk that kept its field leaves
abbrev pub numbered_as : ℕ → Outcome → AnswerOf
numbered_as k (refused_outcome n q) = refused_field n q
numbered_as k (shown_outcome fields e kept) = cond (ltb k fields) (the_field kept) (no_field e)
