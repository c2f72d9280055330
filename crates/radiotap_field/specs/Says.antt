-- What the answers to a field number say in document 01's terms, case by case.
use Rattle.std.specs.Prelude.{ℕ, ◌≡◌, List, length, Result, Ok, Err}
use Rattle.octets.specs.Parts.{part}
use Rattle.refusals.specs.Says.{number_of}
use Rattle.refusals.specs.declared.Refusal.{Refusal}
use Rattle.radiotap_rules.specs.Reading.{ended, stopped, refused_field, the_field, no_field}
use Rattle.radiotap_rules.specs.Reading.{Field, FieldAnswer as AnswerOf}
use Rattle.radiotap_field.specs.declared.Shown.{Shown}
use Rattle.radiotap_field.specs.declared.FieldAnswer.{FieldAnswer}

-- a field: its octets are so many of the input from its start on
abbrev pub shown_of : List ℕ → Shown → Field
shown_of s f = record { word = f.word; bit = f.bit; place = f.start; octets = part s f.start f.size }

-- a field number that is not refused: the end, the stop, or the field
abbrev pub answer_of : List ℕ → FieldAnswer → AnswerOf
answer_of s FieldAnswer.End = no_field ended
answer_of s (FieldAnswer.Stop stop) = no_field (stopped stop.word stop.bit)
answer_of s (FieldAnswer.Field f) = the_field (shown_of s f)

-- a field number: what it is answered with, or the refusal
abbrev pub field_says : List ℕ → Result FieldAnswer Refusal → AnswerOf
field_says s (Ok answer) = answer_of s answer
field_says s (Err r) = refused_field (number_of r.reason) r.place

-- a field's size is the number of its octets
abbrev pub AnswerSized : List ℕ → FieldAnswer → Type 0
AnswerSized s FieldAnswer.End = Unit {0}
AnswerSized s (FieldAnswer.Stop stop) = Unit {0}
AnswerSized s (FieldAnswer.Field f) = length (part s f.start f.size) ≡ f.size

abbrev pub FieldSized : List ℕ → Result FieldAnswer Refusal → Type 0
FieldSized s (Ok answer) = AnswerSized s answer
FieldSized s (Err r) = Unit {0}
