-- What a step's answer says in document 01's terms, case by case.
use Rattle.std.specs.Prelude.{ℕ, ◌+◌, ◌≡◌, List, Result, Ok, Err}
use Rattle.refusals.specs.Says.{number_of}
use Rattle.refusals.specs.declared.Refusal.{Refusal}
use Rattle.octets.specs.Parts.{part}
use Rattle.radiotap_rules.specs.Reading.{ended, stopped}
use Rattle.radiotap_rules.specs.declared.Cursor.{Cursor}
use Rattle.radiotap_rules.specs.Steps.{Met, refused_step, over, met}
use Rattle.radiotap_rules.specs.Answers.{Layout}
use Rattle.radiotap_step.specs.Met.{met_laid}
use Rattle.radiotap_step.specs.declared.Step.{Step}

-- the end, a stop, or a field: its octets are so many of the input from its start on
abbrev pub met_of : List ℕ → Step → Met
met_of s Step.End = over ended
met_of s (Step.Stop stop) = over (stopped stop.word stop.bit)
met_of s (Step.Field f) =
    met (record { word = f.word; bit = f.bit; place = f.start; octets = part s f.start f.size }) f.next

-- a step: what is met, or the refusal
abbrev pub step_says : List ℕ → Result Step Refusal → Met
step_says s (Ok step) = met_of s step
step_says s (Err r) = refused_step (number_of r.reason) r.place

-- a field's size is what the cursor behind it has passed from the field's start on
abbrev pub MetSized : Step → Type 0
MetSized Step.End = Unit {0}
MetSized (Step.Stop stop) = Unit {0}
MetSized (Step.Field f) = f.next.at ≡ f.start + f.size

abbrev pub StepSized : Result Step Refusal → Type 0
StepSized (Ok step) = MetSized step
StepSized (Err r) = Unit {0}

-- at a set bit, whatever the input: what is met by where the bit's field lies
abbrev pub MeetSays : Cursor → (word bit bits : ℕ) → Layout → Result Step Refusal → Type 0
MeetSays c word bit bits lay r = ((s : List ℕ) → step_says s r ≡ met_laid s c word bit bits lay) × StepSized r
