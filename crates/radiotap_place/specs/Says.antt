-- What a reader's place says in document 01's terms, behind an answer.
use Rattle.std.specs.Prelude.{ℕ, ◌≡◌, List, Result}
use Rattle.refusals.specs.Says.{says}
use Rattle.refusals.specs.declared.Refusal.{Refusal}
use Rattle.radiotap_rules.specs.declared.Cursor.{Cursor}
use Rattle.radiotap_step.specs.declared.Step.{Step}
use Rattle.radiotap_step.specs.Says.{step_says}
use Rattle.radiotap_place.specs.Places.{moved_by}

-- behind an answer, whatever the input: the place moved on by it
abbrev pub BehindSays : Result Step Refusal → Result Cursor Refusal → Result Cursor Refusal → Type 0
BehindSays answer place r = (s : List ℕ) → says r ≡ moved_by (says place) (step_says s answer)
