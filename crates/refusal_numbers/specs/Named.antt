-- The reasons that have a name, and the numbers that these have.
use Rattle.std.specs.Prelude.{ℕ, ◌≡◌}
use Rattle.refusals.specs.Says.{number_of}
use Rattle.refusals.specs.declared.Reason.{Reason}

-- a reason that has a name: any but `Other`
abbrev pub Named : Reason → Type 0
Named (Reason.Other n) = ⊥
Named r = Unit {0}

-- a number that a reason with a name has
pub record NamedNumber (n : ℕ) : Type 0 where
  pub reason : Reason
  pub named : Named reason
  pub number : number_of reason ≡ n
