-- Signed numbers as the code holds them, once over the width: written to bits by `of_z`, and read back by `to_z`.
use Prim.Native.Nat.{ℕ, suc, ◌-◌, ◌^◌, ◌<◌, ◌≤◌}
use mathlib.Core.Path.{◌≡◌, refl, sym, ap, subst, ◌∙◌}
use mathlib.Core.Bool.{Bool, true, false, cond}
use native.Mathlib.Omega.{arith}
use borrow.Author.Tests.{lt-ltb, le-ltb, ltb-true}
use lib.Dec.{T, ltb}
use lib.IntN.{ℤ, pos, negsuc, nat_abs}
use lib.Signed.{lt_z, non_neg}
use mir.Syntax.{Width, w8, w16, w32, w64, w128}
use mir.Val.{bits, hbits, Fits, SFits, to_z, of_z, sel}
use mir.ValLaws.{half_full}
use mir.Facts.{to_z_pos, to_z-of_z}
use Rattle.octets.specs.Signed.{signed, unsigned}

-- ---- what equals a number that fits

pub fits_as : {w : Width} {x z : ℤ} → x ≡ z → SFits w z → SFits w x
fits_as {w} e f = subst (SFits w) (sym e) f

pub kept : {w : Width} {x z : ℤ} → x ≡ z → SFits w z → to_z w (of_z w x) ≡ z
kept {w} e f = ap (λ (y : ℤ). to_z w (of_z w y)) e ∙ to_z-of_z f

-- and may be cast to an unsigned number, if it is n
pub casts : {w : Width} {x : ℤ} (n : ℕ) → x ≡ pos n → Fits w n → T (non_neg x) × Fits w (nat_abs x)
casts {w} n e f = subst (λ (z : ℤ). T (non_neg z) × Fits w (nat_abs z)) (sym e) (tt, f)

-- ---- bits

sel-cond : (t : Bool) (x y : ℤ) → sel t x y ≡ cond t x y
sel-cond true x y = refl
sel-cond false x y = refl

-- the machine's signed reading of bits is `signed`
pub to_z-signed : (w : Width) (n : ℕ) → to_z w n ≡ signed (bits w) n
unfolding signed
to_z-signed w8 n = sel-cond (ltb n (2 ^ 7)) (pos n) (negsuc (2 ^ 8 - suc n))
to_z-signed w16 n = sel-cond (ltb n (2 ^ 15)) (pos n) (negsuc (2 ^ 16 - suc n))
to_z-signed w32 n = sel-cond (ltb n (2 ^ 31)) (pos n) (negsuc (2 ^ 32 - suc n))
to_z-signed w64 n = sel-cond (ltb n (2 ^ 63)) (pos n) (negsuc (2 ^ 64 - suc n))
to_z-signed w128 n = sel-cond (ltb n (2 ^ 127)) (pos n) (negsuc (2 ^ 128 - suc n))

-- the signed number of bits below half the range, and from there on
pub signed_below : (b n : ℕ) → n < 2 ^ (b - 1) → signed b n ≡ pos n
unfolding signed
signed_below b n h = ap (λ (t : Bool). cond t (pos n) (negsuc (2 ^ b - suc n))) (lt-ltb n (2 ^ (b - 1)) h)

pub signed_above : (b n : ℕ) → 2 ^ (b - 1) ≤ n → signed b n ≡ negsuc (2 ^ b - suc n)
unfolding signed
signed_above b n h = ap (λ (t : Bool). cond t (pos n) (negsuc (2 ^ b - suc n))) (le-ltb n (2 ^ (b - 1)) h)

-- a signed number read from bits, as its caller stores it: that of the bits it read
pub stored : {w : Width} {z : ℤ} {n m : ℕ} → SFits w z → z ≡ signed (bits w) n → n ≡ m
    → to_z w (of_z w z) ≡ signed (bits w) m
stored {w} f e same = to_z-of_z f ∙ e ∙ ap (signed (bits w)) same

-- ---- a number by its sign, as the code finds it

-- −(rest + 1), whose bits turned over are rest
pub record Negative (w : Width) (z : ℤ) : Type 0 where
  pub rest : ℕ
  pub is : z ≡ negsuc rest
  pub half : rest < 2 ^ hbits w
  pub fits : rest < 2 ^ bits w
  pub complement : to_z w ((2 ^ bits w - 1) - of_z w z) ≡ pos rest
  pub bits_of : (2 ^ bits w - 1) - rest ≡ unsigned (bits w) z

pub negative : (w : Width) (z : ℤ) → SFits w z → lt_z (to_z w (of_z w z)) (pos 0) ≡ true → Negative w z
negative w (pos n) f t =
    let none : n < 0 = ltb-true n 0 (ap (λ (x : ℤ). lt_z x (pos 0)) (sym (to_z-of_z f)) ∙ t) in
    absurd (omega arith)
negative w (negsuc k) f t =
    let small : k < 2 ^ bits w = half_full w f.sfits in
    let back : (2 ^ bits w - 1) - (2 ^ bits w - suc k) ≡ k = omega arith in
    record {
      rest = k;
      is = refl;
      half = f.sfits;
      fits = small;
      complement = ap (to_z w) back ∙ to_z_pos w f.sfits;
      bits_of = omega arith;
    }

-- rest, which is its own bits
pub record NotNegative (w : Width) (z : ℤ) : Type 0 where
  pub rest : ℕ
  pub is : z ≡ pos rest
  pub fits : rest < 2 ^ bits w
  pub itself : to_z w (of_z w z) ≡ pos rest

pub not_negative : (w : Width) (z : ℤ) → SFits w z → lt_z (to_z w (of_z w z)) (pos 0) ≡ false → NotNegative w z
not_negative w (pos n) f t = record { rest = n; is = refl; fits = half_full w f.sfits; itself = to_z-of_z f }
not_negative w (negsuc k) f t =
    let below : true ≡ false = ap (λ (x : ℤ). lt_z x (pos 0)) (sym (to_z-of_z f)) ∙ t in
    let z : ◌≡◌ {A = ℕ} 0 1 = cc in
    absurd (omega arith)
