-- Laws of the decision between two captures.
-- Assumes nothing.
use Prim.Native.Nat.{ℕ}
use mathlib.Core.Path.{◌≡◌, refl}
use Rattle.std.specs.Prelude.{Option, Some, None}
use Rattle.refusals.specs.Refusals.{Answer, refused, given}
use Rattle.btsnoop_rules.specs.Record.{Found}
use Rattle.btsnoop_record.specs.declared.Record.{Record}
use Rattle.btsnoop_record.specs.Says.{found_of}
use Rattle.btsnoop_earlier.specs.Earlier.{decided, refused_in}

-- the second capture's refusal, whatever the first has
pub second_refused : (o : Option Record) (n q : ℕ) → refused_in 2 n q ≡ decided (given (found_of o)) (refused n q)
second_refused None n q = refl
second_refused (Some r) n q = refl

-- what is decided of equal answers
pub decided_of : {x x' y y' : Answer Found} → x ≡ x' → y ≡ y' → decided x y ≡ decided x' y'
decided_of p q = cc
