-- When each answer of an update is given.
-- Assumes nothing.
use Prim.Native.Nat.{ℕ, ◌+◌, ◌^◌, ◌≤◌}
use mathlib.Core.Path.{◌≡◌, refl}
use mathlib.Core.Bool.{Bool, true, false, cond, ◌&&◌}
use mathlib.Core.Logic.{◌↔◌, ◌⊎◌, inl, inr}
use native.Mathlib.Omega.{arith}
use lib.Dec.{ltb}
use borrow.Author.Tests.{ltb-false, le-ltb}
use Rattle.refusals.specs.Refusals.{refused, given}
use Rattle.refusals.proofs.Orders.{exactly, neither, not_refused, other-number, eqb_fails}
use Rattle.tally_rules.specs.declared.Tally.{Tally}
use Rattle.tally_rules.specs.Tally.{sum_broken, sum_past, added, adds_up, fits, updating}
use Rattle.tally_rules.specs.Orders.{SumBreaks, SumPasses, UpdateExactly}

-- of two tests one fails where either does
either_fails : (t u : Bool) {A B : Type 0} → ((t ≡ false) ↔ A) → ((u ≡ false) ↔ B) → ((t && u) ≡ false) ↔ (A ⊎ B)
either_fails true u {A} {B} f g = (λ e. inr (g.0 e), one)
  where
    one : A ⊎ B → u ≡ false
    one (inl a) = let e = f.1 a in let z : ◌≡◌ {A = ℕ} 0 1 = cc in absurd (omega arith)
    one (inr b) = g.1 b
either_fails false u f g = (λ e. inl (f.0 refl), λ h. refl)

adds_up_fails : (t : Tally) → (adds_up t ≡ false) ↔ SumBreaks t
adds_up_fails t = either_fails _ _ (eqb_fails (t.sent + t.received) t.records) (eqb_fails (t.commands + t.«data») t.records)

-- a sum fails its test where it passes 2^64 − 1
sum_fails : (n : ℕ) → (ltb n (2 ^ 64) ≡ false) ↔ (2 ^ 64 ≤ n)
sum_fails n = (ltb-false n (2 ^ 64), le-ltb n (2 ^ 64))

fits_fails : (t : Tally) → (fits t ≡ false) ↔ SumPasses t
fits_fails t =
    either_fails _ _
    (either_fails _ _
    (either_fails _ _
    (either_fails _ _
    (either_fails _ _
    (either_fails _ _ (either_fails _ _ (sum_fails t.records) (sum_fails t.received)) (sum_fails t.commands))
    (sum_fails t.octets))
    (sum_fails t.lost))
    (sum_fails t.truncated))
    (sum_fails t.sent))
    (sum_fails t.«data»)

pub update_exactly : UpdateExactly
unfolding updating
update_exactly t e =
    exactly (adds_up t) (cond (fits (added t e)) (given (added t e)) (refused sum_past 0)) (refused sum_broken 0) (adds_up_fails t)
    (neither (fits (added t e)) not_refused (other-number (λ z. omega (arith, z))))
    (exactly (fits (added t e)) (given (added t e)) (refused sum_past 0) (fits_fails (added t e)) not_refused refl)
