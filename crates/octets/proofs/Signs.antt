-- Two's complement at any number of bits: the bits come back, and so does the number. At 64 bits by its halves.
use Prim.Native.Nat.{ℕ, suc, ◌+◌, ◌-◌, ◌*◌, ◌^◌, ◌<◌, ◌≤◌}
use mathlib.Core.Path.{◌≡◌, refl, sym, ap, ◌∙◌}
use mathlib.Core.Bool.{Bool, true, false, cond}
use mathlib.Core.List.{List}
use native.Mathlib.Omega.{arith}
use lib.IntN.{ℤ, pos, negsuc}
use lib.Signed.{mag}
use lib.Dec.{ltb}
use native.Mathlib.Nat.{pow-succ'}
use borrow.Author.Tests.{lt-ltb, le-ltb, ltb-true, ltb-false}
use Rattle.octets.specs.Numbers.{big, number, octets_after, octets_at, number_at}
use Rattle.octets.specs.Signed.{signed, unsigned, from_halves}
use Rattle.octets.specs.Claims.{SignedByHalves, TwosComplementAt, TwosComplement}
use Rattle.octets.proofs.Laws.{octets-further, number-joined}

module _ (b : ℕ) where
  half : 2 ^ (suc b - 1) ≡ 2 ^ b
  half = ap (λ (k : ℕ). 2 ^ k) (omega arith)

  whole : 2 ^ suc b ≡ 2 * 2 ^ b
  whole = pow-succ' 2 b

  to_bits : (n : ℕ) → n < 2 ^ suc b → (t : Bool) → unsigned (suc b) (cond t (pos n) (negsuc (2 ^ suc b - suc n))) ≡ n
  to_bits n h true = refl
  to_bits n h false = omega arith

  in_range : (n : ℕ) → n < 2 ^ suc b → (t : Bool) → ltb n (2 ^ (suc b - 1)) ≡ t
      → mag (cond t (pos n) (negsuc (2 ^ suc b - suc n))) < 2 ^ (suc b - 1)
  in_range n h true e = ltb-true n (2 ^ (suc b - 1)) e
  in_range n h false e = omega (arith, ltb-false n (2 ^ (suc b - 1)) e, half, whole)

  from_bits : (z : ℤ) → mag z < 2 ^ (suc b - 1) → signed (suc b) (unsigned (suc b) z) ≡ z
  unfolding signed
  from_bits (pos n) h = rw (lt-ltb n (2 ^ (suc b - 1)) h)
  from_bits (negsuc k) h =
      let above : 2 ^ (suc b - 1) ≤ 2 ^ suc b - suc k = omega (arith, half, whole) in
      let back : 2 ^ suc b - suc (2 ^ suc b - suc k) ≡ k = omega (arith, half, whole) in
      rw (le-ltb (2 ^ suc b - suc k) (2 ^ (suc b - 1)) above, back)

  bits_fit : (z : ℤ) → mag z < 2 ^ (suc b - 1) → unsigned (suc b) z < 2 ^ suc b
  bits_fit (pos n) h = omega (arith, half, whole)
  bits_fit (negsuc k) h = omega (arith, half, whole)

  twos_complement_at : TwosComplementAt (suc b)
  unfolding signed
  twos_complement_at =
      record {
        to_bits = λ n h. to_bits n h (ltb n (2 ^ (suc b - 1)));
        from_bits = from_bits;
        range = λ n h. in_range n h (ltb n (2 ^ (suc b - 1))) refl;
        fits = bits_fit;
      }

pub twos_complement : TwosComplement
twos_complement = twos_complement_at

-- ---- a number by its halves

pub signed_by_halves : SignedByHalves
unfolding from_halves
signed_by_halves o high low _ four =
    ap (λ (k : ℕ). signed 64 (number o high * 256 ^ k + number o low)) (sym four)
    ∙ ap (signed 64) (sym (number-joined o high low))

-- the same for halves that stand at a place and behind it
pub halves_at : (s : List ℕ) (p q : ℕ) → p + 4 ≡ q
    → from_halves (number_at big 4 s p) (number_at big 4 s q) ≡ signed 64 (number_at big 8 s p)
unfolding number_at
halves_at s p q at =
    ap (λ (low : List ℕ). from_halves (number big (octets_at s p 4)) (number big low))
    (ap (λ (k : ℕ). octets_at s k 4) (sym at) ∙ octets-further s p 4 0 4)
    ∙ signed_by_halves big (octets_at s p 4) (octets_after s p 4 4) refl refl
