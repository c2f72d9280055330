-- What a reader holds and answers in document 01's terms.
use Rattle.std.specs.Prelude.{ℕ, ◌≡◌, Bool, List, Result}
use Rattle.refusals.specs.Says.{says}
use Rattle.refusals.specs.declared.Refusal.{Refusal}
use Rattle.std.specs.Borrow.{Bor}
use Rattle.radiotap_rules.specs.Table.{our_rules}
use Rattle.radiotap_rules.specs.Steps.{Met}
use Rattle.radiotap_step.specs.declared.Step.{Step}
use Rattle.radiotap_step.specs.Says.{step_says}
use Rattle.radiotap_place.specs.Places.{fresh_place, answer_at, moved_on}
use Rattle.radiotap_reader.specs.declared.FieldReader.{FieldReader}
use Rattle.radiotap_reader.specs.Reader.{stays_at}

-- a reader made over octets in an edition: it holds both, and the place before the first field
abbrev pub NewReader : Bor (List ℕ) → (edition : ℕ) → FieldReader → Type 0
NewReader header edition r =
    (r.header ≡ header) × (r.edition ≡ edition) × (says r.place ≡ fresh_place our_rules edition header.now)

-- what a reader answers: what is answered at its place, in its edition
abbrev pub reader_answer : FieldReader → Met
reader_answer r = answer_at our_rules r.edition r.header.now (says r.place)

-- a reader moved on: it holds the same header and edition, and the place behind what it answered
abbrev pub MovedReader : FieldReader → FieldReader → Type 0
MovedReader before r =
    (r.header ≡ before.header) × (r.edition ≡ before.edition)
    × (says r.place ≡ moved_on our_rules before.edition before.header.now (says before.place))

-- whether a reader stays at an answer, whatever the input
abbrev pub StaysSays : Result Step Refusal → Bool → Type 0
StaysSays answer r = (s : List ℕ) → r ≡ stays_at (step_says s answer)
