-- What the plan of a header says in document 01's terms, case by case.
use Rattle.std.specs.Prelude.{ℕ, ◌≡◌, true, false, Option, Some, None}
use Rattle.radiotap_rules.specs.Table.{our_rules}
use Rattle.radiotap_rules.specs.Reading.{fixed_length}
use Rattle.radiotap_rules.specs.Rewriting.{last_end}
use Rattle.radiotap_rules.specs.Writing.{writable, plan, summed}
use Rattle.radiotap_plan.specs.declared.Plan.{Plan}

-- a bit that the edition doesn't know; or the header's length, which ends at the last field, and the summed length
abbrev pub PlanSays : (edition word : ℕ) → Option Plan → Type 0
PlanSays edition word None = writable our_rules edition word ≡ false
PlanSays edition word (Some p) =
    (writable our_rules edition word ≡ true)
    × (p.size ≡ last_end fixed_length (plan our_rules edition word))
    × (p.summed ≡ summed (plan our_rules edition word))
