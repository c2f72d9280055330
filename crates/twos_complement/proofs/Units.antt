-- Signed numbers in units of d + 1, such as seconds of microseconds or a high half above a low one.
use Prim.Native.Nat.{ℕ, suc, ◌+◌, ◌-◌, ◌*◌, ◌<◌, ◌≤◌}
use mathlib.Core.Path.{◌≡◌, ap, ◌∙◌}
use mathlib.Core.Bool.{Bool, cond}
use native.Mathlib.Omega.{arith}
use native.Mathlib.Nat.{suc-mul}
use borrow.Author.Tests.{lt-ltb, le-ltb}
use lib.IntN.{ℤ, pos, negsuc, neg_ℤ, sub_ℕ, ◌+ℤ◌, ◌*ℤ◌}

-- a difference of two numbers
pub sub-down : (a b : ℕ) → b ≤ a → sub_ℕ a b ≡ pos (a - b)
sub-down a b h = ap (λ (t : Bool). cond t (negsuc (b - suc a)) (pos (a - b))) (le-ltb a b h)

pub sub-under : (a b : ℕ) → a < b → sub_ℕ a b ≡ negsuc (b - suc a)
sub-under a b h = ap (λ (t : Bool). cond t (negsuc (b - suc a)) (pos (a - b))) (lt-ltb a b h)

module _ (d n : ℕ) where
  -- −(n + 1) units
  pub negative_units : negsuc n *ℤ pos (suc d) ≡ negsuc (n * suc d + d)
  negative_units = ap (λ (x : ℕ). neg_ℤ (pos x)) e
    where
      e : suc n * suc d ≡ suc (n * suc d + d)
      e = suc-mul n (suc d) ∙ omega arith

  -- and u above them
  pub units_up : (u : ℕ) → u < suc d → negsuc n *ℤ pos (suc d) +ℤ pos u ≡ negsuc (n * suc d + (d - u))
  units_up u h =
      ap (λ (z : ℤ). z +ℤ pos u) negative_units
      ∙ sub-under u (suc (n * suc d + d)) (omega arith)
      ∙ ap negsuc e
    where
      e : suc (n * suc d + d) - suc u ≡ n * suc d + (d - u)
      e = omega arith
