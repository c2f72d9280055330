-- The field of a time, from the whole seconds since field 0.
use Prim.Native.Nat.{ℕ, zero, suc, ◌+◌, ◌-◌, ◌*◌, ◌^◌, ◌<◌}
use mathlib.Core.Path.{◌≡◌, refl, ap, ap₂, sym, ◌∙◌}
use mathlib.Core.Bool.{Bool, true, false}
use native.Mathlib.Omega.{arith}
use borrow.Author.Tests.{ltb-true, ltb-false}
use lib.Dec.{ltb}
use lib.IntN.{ℤ, pos, negsuc, neg_ℤ, sub_ℕ, ◌+ℤ◌, ◌-ℤ◌, ◌*ℤ◌, +ℤ_assoc, +ℤ_comm, +ℤ_one, +ℤ-neg_ℤ_cancel, suc_ℤ-*ℤ}
use lib.Signed.{lt_z}
use mir.Syntax.{w64}
use mir.Val.{SFits, to_z}
use mir.Facts.{to_z-of_z, to_z_pos}
use Rattle.twos_complement.proofs.Signs.{fits_as, kept}
use Rattle.twos_complement.proofs.Units.{sub-down, sub-under, units_up}
use Rattle.capture_time.specs.Time.{unix_epoch, per_second, last_microsecond, field_of, unwritable}
use Rattle.capture_time.proofs.Signed.{held}
use Rattle.capture_time.proofs.Laws.{negative-seconds, field-negative, difference_fits, writable}

-- u microseconds after −(n + 1) seconds
pub up_from : (n u : ℕ) → u < per_second
    → negsuc n *ℤ pos per_second +ℤ pos u ≡ negsuc (n * per_second + (last_microsecond - u))
up_from n u h = units_up last_microsecond n u h

-- C is e seconds
module _ (e u : ℕ) (h : u < per_second) (c : e * per_second ≡ unix_epoch) where
  since_by : (n : ℕ) (t : Bool) → ltb e (suc n) ≡ t
      → sub_ℕ (unix_epoch + u) (suc n * per_second) ≡ sub_ℕ e (suc n) *ℤ pos per_second +ℤ pos u
  since_by n true t =
      let l : e < suc n = ltb-true e (suc n) t in
      let k = suc n - suc e in
      let m : suc n * per_second - suc (unix_epoch + u) ≡ k * per_second + (last_microsecond - u) = omega arith in
      sub-under (unix_epoch + u) (suc n * per_second) (omega arith)
      ∙ ap negsuc m
      ∙ sym (ap (λ (z : ℤ). z *ℤ pos per_second +ℤ pos u) (sub-under e (suc n) l) ∙ up_from k u h)
  since_by n false t =
      let m : unix_epoch + u - suc n * per_second ≡ (e - suc n) * per_second + u = omega (arith, ltb-false e (suc n) t) in
      sub-down (unix_epoch + u) (suc n * per_second) (omega (arith, ltb-false e (suc n) t))
      ∙ ap pos m
      ∙ sym (ap (λ (z : ℤ). z *ℤ pos per_second +ℤ pos u) (sub-down e (suc n) (ltb-false e (suc n) t)))

  pub since : (s : ℤ) → field_of s u ≡ (s +ℤ pos e) *ℤ pos per_second +ℤ pos u
  since (pos n) = ap pos m
    where
      m : n * per_second + u + unix_epoch ≡ (n + e) * per_second + u
      m = omega arith
  since (negsuc n) = field-negative n u ∙ since_by n (ltb e (suc n)) refl

-- ---- whole seconds z whose field fits

module _ (u : ℕ) (h : u < per_second) where
  size-before : (n : ℕ) → SFits w64 (negsuc n *ℤ pos per_second +ℤ pos u)
      → n * per_second + (last_microsecond - u) < 2 ^ 63
  size-before n f = (fits_as (sym (up_from n u h)) f).sfits

  whole-fits : (z : ℤ) → SFits w64 (z *ℤ pos per_second +ℤ pos u) → SFits w64 z
  whole-fits (pos n) f = let b : n * per_second + u < 2 ^ 63 = f.sfits in record { sfits = omega arith }
  whole-fits (negsuc n) f = let b = size-before n f in record { sfits = omega arith }

  next_fits : (z : ℤ) → SFits w64 (z *ℤ pos per_second +ℤ pos u) → SFits w64 (z +ℤ pos 1)
  next_fits (pos n) f = let b : n * per_second + u < 2 ^ 63 = f.sfits in record { sfits = omega arith }
  next_fits (negsuc n) f = let b = size-before n f in difference_fits 1 (suc n) (omega arith) (omega arith)

  next_product-fits : (z : ℤ) → SFits w64 (z *ℤ pos per_second +ℤ pos u) → lt_z z (pos 0) ≡ true
      → SFits w64 ((z +ℤ pos 1) *ℤ pos per_second)
  next_product-fits (pos n) f t = let l : n < 0 = ltb-true n 0 t in absurd (omega arith)
  next_product-fits (negsuc zero) f t = record { sfits = omega arith }
  next_product-fits (negsuc (suc n)) f t =
      let b = size-before (suc n) f in
      fits_as (ap (λ (x : ℤ). x *ℤ pos per_second) (+ℤ_one (negsuc (suc n))) ∙ negative-seconds n)
      (record { sfits = omega arith })

-- u microseconds after z seconds lie so much before the next second
from_the_next : (z : ℤ) (u : ℕ)
    → (z +ℤ pos 1) *ℤ pos per_second +ℤ (pos u -ℤ pos per_second) ≡ z *ℤ pos per_second +ℤ pos u
from_the_next z u =
    ap (λ (x : ℤ). x *ℤ pos per_second +ℤ (pos u -ℤ pos per_second)) (+ℤ_one z)
    ∙ ap (λ (x : ℤ). x +ℤ (pos u -ℤ pos per_second)) (suc_ℤ-*ℤ z (pos per_second))
    ∙ +ℤ_assoc (z *ℤ pos per_second) (pos per_second) (pos u -ℤ pos per_second)
    ∙ ap (λ (x : ℤ). z *ℤ pos per_second +ℤ x)
    (sym (+ℤ_assoc (pos per_second) (pos u) (neg_ℤ (pos per_second)))
    ∙ ap (λ (x : ℤ). x -ℤ pos per_second) (+ℤ_comm (pos per_second) (pos u))
    ∙ +ℤ-neg_ℤ_cancel (pos u) (pos per_second))

-- ---- the numbers that the code holds, of a time that can be written, where C is e seconds

abbrev whole : ℤ → ℕ → ℤ
whole s e = held (held s +ℤ pos e)

module _ (s : ℤ) (f : SFits w64 s) (u : ℕ) (w : unwritable s u ≡ false) (e : ℕ) (c : e * per_second ≡ unix_epoch) where
  few : u < per_second
  few = (writable s u w).0

  fits : SFits w64 (field_of s u)
  fits = (writable s u w).1

  field_is : (s +ℤ pos e) *ℤ pos per_second +ℤ pos u ≡ field_of s u
  field_is = sym (since e u few c s)

  sum_is : held s +ℤ pos e ≡ s +ℤ pos e
  sum_is = ap (λ (z : ℤ). z +ℤ pos e) (to_z-of_z f)

  sum_fits : SFits w64 (s +ℤ pos e)
  sum_fits = whole-fits u few (s +ℤ pos e) (fits_as field_is fits)

  whole_is : whole s e ≡ s +ℤ pos e
  whole_is = kept sum_is sum_fits

  microseconds_are : to_z w64 u ≡ pos u
  microseconds_are = let h = few in to_z_pos w64 (omega arith)

  -- before field 0
  module _ (t : lt_z (whole s e) (pos 0) ≡ true) where
    next : SFits w64 (s +ℤ pos e +ℤ pos 1)
    next = next_fits u few (s +ℤ pos e) (fits_as field_is fits)

    next_is : whole s e +ℤ pos 1 ≡ s +ℤ pos e +ℤ pos 1
    next_is = ap (λ (z : ℤ). z +ℤ pos 1) whole_is

    next_product : SFits w64 ((s +ℤ pos e +ℤ pos 1) *ℤ pos per_second)
    next_product =
        next_product-fits u few (s +ℤ pos e) (fits_as field_is fits) (ap (λ (z : ℤ). lt_z z (pos 0)) (sym whole_is) ∙ t)

    next_product_is : held (whole s e +ℤ pos 1) *ℤ pos per_second ≡ (s +ℤ pos e +ℤ pos 1) *ℤ pos per_second
    next_product_is = ap (λ (z : ℤ). z *ℤ pos per_second) (kept next_is next)

    rest : SFits w64 (pos u -ℤ pos per_second)
    rest = let h = few in difference_fits u per_second (omega arith) (omega arith)

    rest_is : to_z w64 u -ℤ pos per_second ≡ pos u -ℤ pos per_second
    rest_is = ap (λ (z : ℤ). z -ℤ pos per_second) microseconds_are

    before_is : held (held (whole s e +ℤ pos 1) *ℤ pos per_second) +ℤ held (to_z w64 u -ℤ pos per_second) ≡ field_of s u
    before_is =
        ap₂ ◌+ℤ◌ (kept next_product_is next_product) (kept rest_is rest) ∙ from_the_next (s +ℤ pos e) u ∙ field_is

    pub before-fits : SFits w64 (held (held (whole s e +ℤ pos 1) *ℤ pos per_second) +ℤ held (to_z w64 u -ℤ pos per_second))
    before-fits = fits_as before_is fits

    pub field-before :
        held (held (held (whole s e +ℤ pos 1) *ℤ pos per_second) +ℤ held (to_z w64 u -ℤ pos per_second)) ≡ field_of s u
    field-before = kept before_is fits
