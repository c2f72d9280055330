-- An answer whose refusal, where it is one, has a named number.
-- Assumes nothing.
use Prim.Native.Nat.{ℕ}
use mathlib.Core.Path.{◌≡◌, refl, subst}
use mathlib.Core.Bool.{Bool, true, false, cond}
use Rattle.refusals.specs.Refusals.{Answer, refused, given}
use Rattle.refusals.specs.Says.{number_of}
use Rattle.refusals.specs.declared.Reason.{Reason}
use Rattle.refusal_numbers.specs.Named.{Named, NamedNumber}

-- the number of a reason with a name
pub on : (r : Reason) → Named r → NamedNumber (number_of r)
on r named = record { reason = r; named = named; number = refl }

-- an answer whose refusal, where it is one, has a named number
pub data NamedAnswer {A : Type 0} : Answer A → Type 0 where
  refuses : {n q : ℕ} → NamedNumber n → NamedAnswer (refused n q)
  gives : {v : A} → NamedAnswer (given v)

-- what holds of two values holds of either
pub either_of : {A : Type 0} (P : A → Type 0) (t : Bool) {a b : A} → P a → P b → P (cond t a b)
either_of P true l r = l
either_of P false l r = r

-- either of two such answers
pub either : {A : Type 0} (t : Bool) {a b : Answer A} → NamedAnswer a → NamedAnswer b → NamedAnswer (cond t a b)
either {A = A} t l r = either_of (λ (x : Answer A). NamedAnswer x) t l r

-- what such an answer tells
pub told : {A : Type 0} {a : Answer A} {n q : ℕ} → NamedAnswer a → a ≡ refused n q → NamedNumber n
told l e = go (subst (λ a. NamedAnswer a) e l)
  where
    go : {A : Type 0} {n q : ℕ} → NamedAnswer {A = A} (refused n q) → NamedNumber n
    go (refuses l) = l
