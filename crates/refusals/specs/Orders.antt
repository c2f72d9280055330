-- Document 01, "Refusal numbers": each is given exactly when its condition holds and no earlier one in the order does.
use Rattle.std.specs.Prelude.{◌≡◌, ◌↔◌}
use Rattle.refusals.specs.Refusals.{Answer}

-- one answer of an order: it is given exactly when its condition holds; where it does not, what the rest of the order says
pub record Exactly {A : Type 0} (this : Answer A) (condition : Type 0) (rest : Answer A → Type 0) (answer : Answer A) : Type 0 where
  pub here : (answer ≡ this) ↔ condition
  pub otherwise : (condition → ⊥) → rest answer

-- the order's end: the answer that is given where no condition before it holds
abbrev pub Otherwise : {A : Type 0} → Answer A → Answer A → Type 0
Otherwise this answer = answer ≡ this
