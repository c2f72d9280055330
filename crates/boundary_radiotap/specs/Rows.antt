-- The C boundary: the struct that each radiotap answer is returned as, field by field. Kind 0 is a refusal, 1 values, 2
-- the end, 4 read and stopped at a named bit; a field that the kind has no value for is 0.
use Rattle.std.specs.Prelude.{ℕ, ◌≡◌, List, length, Result}
use Rattle.refusals.specs.Refusals.{Answer, refused, given}
use Rattle.refusals.specs.declared.Refusal.{Refusal}
use Rattle.radiotap_rules.specs.Reading.{Ending, ended, stopped, refused_field, the_field, no_field}
use Rattle.radiotap_rules.specs.Reading.{FieldAnswer as FieldOf}
use Rattle.radiotap_rules.specs.Answers.{Summary, no_word, the_word}
use Rattle.radiotap_rules.specs.Answers.{Word as WordOf}
use Rattle.radiotap_field.specs.declared.FieldAnswer.{FieldAnswer}
use Rattle.radiotap_field.specs.Says.{field_says, FieldSized}
use Rattle.boundary_radiotap.specs.declared.Radiotap.{Radiotap}
use Rattle.boundary_radiotap.specs.declared.Word.{Word}
use Rattle.boundary_radiotap.specs.declared.Field.{Field}

-- the kind, and the word and bit of the stop
abbrev pub ending_kind : Ending → ℕ
ending_kind ended = 1
ending_kind (stopped w b) = 4

abbrev pub ending_word : Ending → ℕ
ending_word ended = 0
ending_word (stopped w b) = w

abbrev pub ending_bit : Ending → ℕ
ending_bit ended = 0
ending_bit (stopped w b) = b

-- zalghimo_radiotap
abbrev pub shown_row : (kind fields frame word bit pad words : ℕ) → Radiotap
shown_row kind fields frame word bit pad words =
    record {
      kind = kind;
      number = 0;
      place = 0;
      fields = fields;
      frame = frame;
      word = word;
      bit = bit;
      pad = pad;
      words = words;
    }

abbrev pub radiotap_row : Answer Summary → Radiotap
radiotap_row (refused n q) =
    record { kind = 0; number = n; place = q; fields = 0; frame = 0; word = 0; bit = 0; pad = 0; words = 0 }
radiotap_row (given m) =
    shown_row (ending_kind m.ending) m.fields m.frame (ending_word m.ending) (ending_bit m.ending) m.pad m.words

-- zalghimo_word
abbrev pub word_row : Answer WordOf → Word
word_row (refused n q) = record { kind = 0; number = n; place = q; value = 0 }
word_row (given no_word) = record { kind = 2; number = 0; place = 0; value = 0 }
word_row (given (the_word w)) = record { kind = 1; number = 0; place = 0; value = w }

-- zalghimo_field
abbrev pub field_row : FieldOf → Field
field_row (refused_field n q) = record { kind = 0; number = n; place = q; word = 0; bit = 0; start = 0; size = 0 }
field_row (no_field ended) = record { kind = 2; number = 0; place = 0; word = 0; bit = 0; start = 0; size = 0 }
field_row (no_field (stopped w b)) = record { kind = 4; number = 0; place = 0; word = w; bit = b; start = 0; size = 0 }
field_row (the_field f) =
    record { kind = 1; number = 0; place = 0; word = f.word; bit = f.bit; start = f.place; size = length f.octets }

-- the row of a field reader's answer, whatever the input, where the field's size is the number of its octets
abbrev pub FieldRow : Result FieldAnswer Refusal → Field → Type 0
FieldRow answer r = (s : List ℕ) → FieldSized s answer → r ≡ field_row (field_says s answer)
