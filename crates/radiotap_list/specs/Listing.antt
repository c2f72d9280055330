-- What a list of a header's fields is made of: the room for them, and the fields that steps from a cursor meet.
use Rattle.std.specs.Prelude.{ℕ, zero, suc, List, [], ◌∷◌}
use Rattle.refusals.specs.Refusals.{Answer, refused, given}
use Rattle.radiotap_rules.specs.declared.Cursor.{Cursor}
use Rattle.radiotap_rules.specs.Rules.{Rules}
use Rattle.radiotap_rules.specs.Reading.{Field}
use Rattle.radiotap_rules.specs.Steps.{Met, refused_step, over, met, step_of}
use Rattle.radiotap_rules.specs.Answers.{Summary}

-- the room for a header's fields, in a list that has room for so many: none where the header is refused
abbrev pub room_for : Answer Summary → (most : ℕ) → ℕ
room_for (refused n p) most = 0
room_for (given m) most = most

-- the field that a step meets and those behind it; none where it meets no field
abbrev pub fields_behind : (Cursor → List Field) → Met → List Field
fields_behind behind (refused_step n p) = []
fields_behind behind (over e) = []
fields_behind behind (met f c) = f ∷ behind c

-- the fields that so many steps from a cursor meet, one after another
abbrev pub first_fields : Rules → (edition : ℕ) → List ℕ → (k : ℕ) → Cursor → List Field
first_fields rules edition s zero c = []
first_fields rules edition s (suc k) c = fields_behind (first_fields rules edition s k) (step_of rules edition s c)
