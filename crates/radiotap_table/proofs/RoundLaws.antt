-- The next multiple of a power of two, by a mask.
-- Assumes nothing.
use Rattle.std.proofs.Common.{◌≡◌, ℕ, ◌+◌, ◌-◌, ◌^◌, Bool, true, false, ◌||◌, eqb, sym, refl, subst, arith, pow_pos, eqb-true}
use native.Mathlib.Nat.{add-div_right}
use lib.Bits.{bit_and, bit_or, and_mask, or_add_and}
use lib.Pow.{split}
use Rattle.radiotap_rules.specs.Rules.{alignment_ok}
use Rattle.radiotap_rules.specs.Reading.{aligned}

-- a power of two
abbrev Power : ℕ → Type 0
Power a = (k : ℕ) × (2 ^ k ≡ a)

-- an alignment is a power of two
alignment-power : (a : ℕ) → alignment_ok a ≡ true → Power a
alignment-power a = go (eqb a 1) (eqb a 2) (eqb a 4) (eqb a 8) (power 0) (power 1) (power 2) (power 3)
  where
    power : (k : ℕ) → eqb a (2 ^ k) ≡ true → Power a
    power k e = (k, sym (eqb-true a (2 ^ k) e))

    go : (t u v w : Bool) → (t ≡ true → Power a) → (u ≡ true → Power a) → (v ≡ true → Power a) → (w ≡ true → Power a)
        → (t || u || v || w) ≡ true → Power a
    go true u v w p q r s e = p refl
    go false true v w p q r s e = q refl
    go false false true w p q r s e = r refl
    go false false false w p q r s e = s e

-- the mask of a power of two is the remainder, so what is left is the multiple below
power_masked : (k at : ℕ) → at + (2 ^ k - 1) - bit_and (at + (2 ^ k - 1)) (2 ^ k - 1) ≡ aligned (2 ^ k) at
power_masked k at =
    let past : ℕ = at + (2 ^ k - 1) in
    omega (arith, and_mask past k, split past k)

-- less what the mask keeps, the last place before the next multiple is that multiple
pub alignment_masked : (a at : ℕ) → alignment_ok a ≡ true → at + (a - 1) - bit_and (at + (a - 1)) (a - 1) ≡ aligned a at
alignment_masked a at ok =
    let p = alignment-power a ok in
    subst (λ (x : ℕ). at + (x - 1) - bit_and (at + (x - 1)) (x - 1) ≡ aligned x at) p.1 (power_masked p.0 at)

-- the mask of a power of two, laid over a place, fills up to the next multiple
power-filled : (k last : ℕ) → bit_or last (2 ^ k - 1) + 1 ≡ aligned (2 ^ k) (last + 1)
power-filled k last =
    let past : last + 1 + (2 ^ k - 1) ≡ last + 2 ^ k = omega (arith, pow_pos k) in
    rw (past, add-div_right last (pow_pos k)) (omega (arith, pow_pos k, or_add_and last (2 ^ k - 1), and_mask last k, split last k))

-- so behind the last place that is not free, the next multiple of an alignment is found by its mask
pub alignment-filled : (a last : ℕ) → alignment_ok a ≡ true → bit_or last (a - 1) + 1 ≡ aligned a (last + 1)
alignment-filled a last ok =
    let p = alignment-power a ok in
    subst (λ (x : ℕ). bit_or last (x - 1) + 1 ≡ aligned x (last + 1)) p.1 (power-filled p.0 last)

-- the same for 32 bits
pub masked_whole : (at : ℕ) → at + 4294967295 - bit_and (at + 4294967295) 4294967295 ≡ aligned 4294967296 at
masked_whole at = power_masked 32 at
