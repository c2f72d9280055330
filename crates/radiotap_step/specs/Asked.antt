-- A step asked in an edition: 15, at place 0, comes before all else, as in document 01's order of radiotap reading.
use Rattle.std.specs.Prelude.{ℕ, cond, List}
use Rattle.radiotap_rules.specs.declared.Cursor.{Cursor}
use Rattle.radiotap_rules.specs.Rules.{Rules, edition_taken, served}
use Rattle.radiotap_rules.specs.Reading.{edition_above}
use Rattle.radiotap_rules.specs.Steps.{Met, refused_step, step_of}

-- what is met in the edition taken, where 15 does not refuse the edition asked for; edition 0 asks for the default
abbrev pub asked_in : Rules → (edition : ℕ) → ((taken : ℕ) → Met) → Met
asked_in rules edition inTaken =
    cond (served rules edition) (inTaken (edition_taken rules.reading_default edition)) (refused_step edition_above 0)

-- a step from a cursor, whatever it holds
unfoldable pub step_in : Rules → (edition : ℕ) → List ℕ → Cursor → Met
step_in rules edition s c = asked_in rules edition (λ taken. step_of rules taken s c)
