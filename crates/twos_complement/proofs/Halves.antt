-- A signed number of 64 bits from its halves: as `signed64` reckons it, the high half with its sign, 2^32 times, and the
-- low half above it; and as its callers hold it.
use Prim.Native.Nat.{ℕ, suc, ◌+◌, ◌-◌, ◌*◌, ◌^◌, ◌<◌, ◌≤◌}
use mathlib.Core.Path.{◌≡◌, refl, sym, ap, ap₂, subst, ◌∙◌}
use mathlib.Core.Bool.{Bool, true, false}
use mathlib.Core.List.{List}
use native.Mathlib.Omega.{arith}
use borrow.Author.Tests.{ltb-true, ltb-false}
use lib.Dec.{ltb}
use lib.IntN.{ℤ, pos, negsuc, ◌+ℤ◌, ◌*ℤ◌}
use mir.Syntax.{w64}
use mir.Val.{SFits, to_z, of_z}
use mir.Facts.{to_z-of_z}
use Rattle.octets.specs.Numbers.{big, number_at}
use Rattle.octets.specs.Signed.{signed, from_halves}
use Rattle.octets.proofs.Signs.{halves_at}
use Rattle.twos_complement.proofs.Signs.{fits_as, signed_below, signed_above}
use Rattle.twos_complement.proofs.Units.{negative_units, units_up}

-- with the high half read as z: each step fits 64 bits, and the last is the number
pub record Steps (high low : ℕ) (z : ℤ) : Type 0 where
  pub high_fits : SFits w64 z
  pub low_fits : SFits w64 (pos low)
  pub product-fits : SFits w64 (z *ℤ pos (2 ^ 32))
  pub sum_fits : SFits w64 (z *ℤ pos (2 ^ 32) +ℤ pos low)
  pub whole : z *ℤ pos (2 ^ 32) +ℤ pos low ≡ from_halves high low

module _ (high low : ℕ) (h : high < 2 ^ 32) (l : low < 2 ^ 32) where
  steps_not_negative : high < 2 ^ 31 → Steps high low (pos high)
  unfolding from_halves
  steps_not_negative small =
      let below : high * 2 ^ 32 + low < 2 ^ 63 = omega arith in
      record {
        high_fits = record { sfits = omega arith };
        low_fits = record { sfits = omega arith };
        product-fits = record { sfits = omega arith };
        sum_fits = record { sfits = below };
        whole = sym (signed_below 64 (high * 2 ^ 32 + low) below);
      }

  steps-negative : 2 ^ 31 ≤ high → Steps high low (negsuc (2 ^ 32 - suc high))
  unfolding from_halves
  steps-negative large =
      let k = 2 ^ 32 - suc high in
      let d = 2 ^ 32 - 1 in
      let up = units_up d k low (omega arith) in
      let above : 2 ^ 63 ≤ high * 2 ^ 32 + low = omega arith in
      let same : k * suc d + (d - low) ≡ 2 ^ 64 - suc (high * 2 ^ 32 + low) = omega arith in
      record {
        high_fits = record { sfits = omega arith };
        low_fits = record { sfits = omega arith };
        product-fits = fits_as (negative_units d k) (record { sfits = omega arith });
        sum_fits = fits_as up (record { sfits = omega arith });
        whole = up ∙ ap negsuc same ∙ sym (signed_above 64 (high * 2 ^ 32 + low) above);
      }

  by_sign : (t : Bool) → ltb high (2 ^ 31) ≡ t → Steps high low (signed 32 high)
  by_sign true t =
      let small = ltb-true high (2 ^ 31) t in
      subst (Steps high low) (sym (signed_below 32 high small)) (steps_not_negative small)
  by_sign false t =
      let large = ltb-false high (2 ^ 31) t in
      subst (Steps high low) (sym (signed_above 32 high large)) (steps-negative large)

  pub steps : Steps high low (signed 32 high)
  steps = by_sign (ltb high (2 ^ 31)) refl

-- what `signed64` gave for the halves at a place and behind it, as its caller holds it: the number of the eight octets there
pub signed64_at : (s : List ℕ) (p q : ℕ) → p + 4 ≡ q → {high low : ℕ} {z : ℤ} → SFits w64 z → z ≡ from_halves high low
    → high ≡ number_at big 4 s p → low ≡ number_at big 4 s q → to_z w64 (of_z w64 z) ≡ signed 64 (number_at big 8 s p)
signed64_at s p q at fits e h l = to_z-of_z fits ∙ e ∙ ap₂ from_halves h l ∙ halves_at s p q at
