-- The walk over a whole file, over any step that goes forward.
-- Assumes nothing.
use Prim.Native.Nat.{ℕ, ◌≤◌}
use mathlib.Core.Path.{◌≡◌, subst}
use mathlib.Core.Logic.{◌↔◌}
use mathlib.Core.List.{List}
use native.Mathlib.Omega.{arith}
use Rattle.refusals.specs.Refusals.{Answer, given}
use Rattle.tiling.specs.Tiling.{Next, Placed, ended, items, ending, walk, Tiles}
use Rattle.tiling.specs.Claims.{Forward, Reached}
use Rattle.tiling.proofs.Walks.{count_is_passed, tiles-walk}
use Rattle.tiling.proofs.Tilings.{tiles-map, tiles-long, walk-ended}

module _ {A : Type 0} (low high : ℕ) (step : ℕ → Answer (Next A)) (Lies : ℕ → A → ℕ → Type 0) (fw : Forward low high step)
    (exact : (p : ℕ) (a : A) (q : ℕ) → Lies p a q ↔ (step p ≡ given (Next.whole a q))) where
  -- a walk over items that fill the rest passes them, and then ends
  pub filled-walk : low ≤ high → (xs : List (Placed A)) → Tiles Lies low xs high
      → (items (walk step high low) ≡ xs) × (ending (walk step high low) ≡ ended high)
  filled-walk l xs t =
      let few = tiles-long (λ p a q h. fw.onward ((exact p a q).0 h)) t in
      tiles-walk low high step fw low xs high l (tiles-map (λ p a q. (exact p a q).0) t) (omega arith)

  -- and a walk that ends passed items that fill the rest
  pub walk-filled : (q : ℕ) → ending (walk step high low) ≡ ended q → Tiles Lies low (items (walk step high low)) high
  walk-filled q e =
      let r : Reached step low (walk step high low) = count_is_passed low high step high low in
      let here : q ≡ r.place = rw e at r.ends in
      let last : q ≡ high = fw.is_end (walk-ended step q high low e) in
      let there : r.place ≡ high = omega arith in
      subst (Tiles Lies low (items (walk step high low))) there (tiles-map (λ p a q. (exact p a q).1) r.tiles)
