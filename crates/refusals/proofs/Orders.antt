-- Refusals in an order: what an answer tells of one test, and of those behind it.
-- Assumes nothing.
use Prim.Native.Nat.{ℕ, ◌<◌}
use mathlib.Core.Path.{◌≡◌, refl, sym, subst, ◌∙◌}
use mathlib.Core.Bool.{Bool, true, false, cond}
use mathlib.Core.Logic.{◌↔◌}
use native.Mathlib.Omega.{arith}
use lib.Dec.{leb, eqb}
use borrow.Author.Tests.{leb-false, lt-leb, eqb-false, ne_eqb}
use Rattle.refusals.specs.Refusals.{Answer, refused, given}
use Rattle.refusals.specs.Orders.{Exactly}

-- cases that tell what is answered, and one of them that is there: an answer is given exactly in its case
pub by_cases : {A : Type 0} (Case : A → Type 0) (x : A) → ((a : A) → Case a → x ≡ a) → (a : A) × Case a → (b : A)
    → (x ≡ b) ↔ Case b
by_cases Case x told found b = (λ e. subst Case (sym (told found.0 found.1) ∙ e) found.1, told b)

-- a value that is given passed the test, and is what stands behind it
pub chosen : {A : Type 0} (t : Bool) (n q : ℕ) {x : Answer A} {a : A} → cond t x (refused n q) ≡ given a
    → (t ≡ true) × (x ≡ given a)
chosen true n q e = (refl, e)
chosen false n q e = let z : ◌≡◌ {A = ℕ} 0 1 = cc in absurd (omega arith)

-- one test of an order: its answer where the test fails, and otherwise an order that never gives the same
pub exactly : {A : Type 0} (t : Bool) (x y : Answer A) {C : Type 0} {rest : Answer A → Type 0} → ((t ≡ false) ↔ C)
    → (x ≡ y → ⊥) → rest x → Exactly y C rest (cond t x y)
exactly true x y test other r =
    record {
      here = (λ e. absurd (other e), λ h. let e = test.1 h in let z : ◌≡◌ {A = ℕ} 0 1 = cc in absurd (omega arith));
      otherwise = λ h. r;
    }
exactly false x y test other r =
    record { here = (λ e. test.0 refl, λ h. refl); otherwise = λ h. absurd (h (test.0 refl)) }

-- the same where the answer is given when the test passes
pub exactly-met : {A : Type 0} (t : Bool) (x y : Answer A) {C : Type 0} {rest : Answer A → Type 0} → ((t ≡ true) ↔ C)
    → (x ≡ y → ⊥) → rest x → Exactly y C rest (cond t y x)
exactly-met false x y test other r =
    record {
      here = (λ e. absurd (other e), λ h. let e = test.1 h in let z : ◌≡◌ {A = ℕ} 0 1 = cc in absurd (omega arith));
      otherwise = λ h. r;
    }
exactly-met true x y test other r =
    record { here = (λ e. test.0 refl, λ h. refl); otherwise = λ h. absurd (h (test.0 refl)) }

-- neither of two answers that a test chooses from, where both are others
pub neither : {A : Type 0} (t : Bool) {x y z : Answer A} → (x ≡ z → ⊥) → (y ≡ z → ⊥) → cond t x y ≡ z → ⊥
neither true f g e = f e
neither false f g e = g e

-- no value is a refusal, and refusals of two numbers differ
pub not_refused : {A : Type 0} {a : A} {n q : ℕ} → ◌≡◌ {A = Answer A} (given a) (refused n q) → ⊥
not_refused e = let z : ◌≡◌ {A = ℕ} 0 1 = cc in omega arith

pub other-number : {A : Type 0} {n m q r : ℕ} → (n ≡ m → ⊥) → ◌≡◌ {A = Answer A} (refused n q) (refused m r) → ⊥
other-number h e = h (cc)

-- when the tests of two numbers fail
pub leb_fails : (a b : ℕ) → (leb a b ≡ false) ↔ (b < a)
leb_fails a b = (leb-false a b, lt-leb a b)

pub eqb_fails : (a b : ℕ) → (eqb a b ≡ false) ↔ (a ≡ b → ⊥)
eqb_fails a b = (eqb-false a b, ne_eqb a b)
