-- Laws of items that lie end to end.
-- Assumes nothing.
use Prim.Native.Nat.{ℕ, zero, suc, ◌+◌, ◌-◌, ◌≤◌, ◌<◌}
use mathlib.Core.Path.{◌≡◌, refl}
use mathlib.Core.List.{List}
use native.Mathlib.Omega.{arith}
use lib.ListN.{length}
use Rattle.refusals.specs.Refusals.{Answer, refused, given}
use Rattle.tiling.specs.Tiling.{Next, Placed, ended, ending, used, onward, walk, Tiles, none, one}

-- items that lie end to end do so for any other meaning of lying whole that follows
pub tiles-map : {A : Type 0} {L M : ℕ → A → ℕ → Type 0} → ((p : ℕ) (a : A) (q : ℕ) → L p a q → M p a q)
    → {p q : ℕ} {xs : List (Placed A)} → Tiles L p xs q → Tiles M p xs q
tiles-map f none = none
tiles-map f (one {p} {q} {r} {a} h t) = one (f p a q h) (tiles-map f t)

-- where no item is empty, there are no more than the octets that they fill
pub tiles-long : {A : Type 0} {L : ℕ → A → ℕ → Type 0} → ((p : ℕ) (a : A) (q : ℕ) → L p a q → p < q)
    → {p q : ℕ} {xs : List (Placed A)} → Tiles L p xs q → p + length xs ≤ q
tiles-long f none = omega arith
tiles-long f (one {p} {q} {r} {a} h t) = let l = tiles-long f t in omega (arith, f p a q h)

-- a walk that ends does so where the step finds the end
module _ {A : Type 0} (step : ℕ → Answer (Next A)) (q : ℕ) where
  pub walk-ended : (n p : ℕ) → ending (walk step n p) ≡ ended q → step q ≡ given Next.end
  walk-ended zero p = go (step p) refl
    where
      go : (x : Answer (Next A)) → step p ≡ x → ending (used p x) ≡ ended q → step q ≡ given Next.end
      go (refused k r) e h = let z : ◌≡◌ {A = ℕ} 0 1 = cc in absurd (omega arith)
      go (given Next.end) e h = cc
      go (given (Next.whole a r)) e h = let z : ◌≡◌ {A = ℕ} 0 1 = cc in absurd (omega arith)
  walk-ended (suc n) p = go (walk-ended n) (step p) refl
    where
      go : ((r : ℕ) → ending (walk step n r) ≡ ended q → step q ≡ given Next.end)
          → (x : Answer (Next A)) → step p ≡ x → ending (onward p (walk step n) x) ≡ ended q → step q ≡ given Next.end
      go rest (refused k r) e h = let z : ◌≡◌ {A = ℕ} 0 1 = cc in absurd (omega arith)
      go rest (given Next.end) e h = cc
      go rest (given (Next.whole a r)) e h = rest r h
