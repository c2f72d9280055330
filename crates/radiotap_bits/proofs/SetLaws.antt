-- The zeros below a number's lowest set bit, and the next set bit of a word.
-- Assumes nothing.
use Rattle.std.proofs.Common.{◌≡◌, ℕ, zero, suc, ◌+◌, ◌-◌, ◌/◌, ◌%◌, ◌^◌, ◌<◌, ◌≤◌, true, false, eqb, sym, refl, ap, ◌∙◌, pow-suc, div-one, arith, shr-shr, shr_lt}
use native.Mathlib.Nat.{zero-div}
use lib.Count.{count_trailing_zeros, under}
use Rattle.radiotap_rules.specs.Reading.{bit_set, word_bits}
use Rattle.radiotap_bits.specs.Bits.{NextSet}

-- a bit from a place on is a bit of the number shifted right by that place
pub bit_shifted : (n k i j : ℕ) → k + j ≡ i → bit_set n i ≡ bit_set (n / 2 ^ k) j
bit_shifted n k i j e = rw (← e) (ap (λ (m : ℕ). eqb (m % 2) 1) (sym (shr-shr n k j)))

-- bit 0 is the remainder by 2
pub bit-zero : (n : ℕ) → bit_set n 0 ≡ eqb (n % 2) 1
bit-zero n = ap (λ (m : ℕ). eqb (m % 2) 1) (div-one n)

-- no bit of 0 is set
pub none-set : (i : ℕ) → bit_set 0 i ≡ false
none-set i = ap (λ (m : ℕ). eqb (m % 2) 1) (zero-div (2 ^ i))

-- the bits below the lowest set one are clear
pub trailing_clear : (k n i : ℕ) → i < count_trailing_zeros k n → bit_set n i ≡ false
unfolding count_trailing_zeros
trailing_clear zero n i h = absurd (omega arith)
trailing_clear (suc k) n i h = go i (n % 2) refl h (trailing_clear k (n / 2))
  where
    go : (i d : ℕ) → n % 2 ≡ d → i < under d (count_trailing_zeros k (n / 2)) → ((j : ℕ) → j < count_trailing_zeros k (n / 2) → bit_set (n / 2) j ≡ false)
        → bit_set n i ≡ false
    go zero zero e h rest = bit-zero n ∙ ap (λ (m : ℕ). eqb m 1) e
    go (suc i) zero e h rest = bit_shifted n 1 (suc i) i (omega arith) ∙ rest i (omega arith)
    go i (suc d) e h rest = absurd (omega arith)

-- the bit behind them is set
pub trailing_set : (k n : ℕ) → count_trailing_zeros k n < k → bit_set n (count_trailing_zeros k n) ≡ true
unfolding count_trailing_zeros
trailing_set zero n h = absurd (omega arith)
trailing_set (suc k) n h = go (n % 2) refl h (trailing_set k (n / 2))
  where
    t : ℕ
    t = count_trailing_zeros k (n / 2)

    go : (d : ℕ) → n % 2 ≡ d → under d t < suc k → (t < k → bit_set (n / 2) t ≡ true) → bit_set n (under d t) ≡ true
    go zero e h rest = bit_shifted n 1 (suc t) t (omega arith) ∙ rest (omega arith)
    go (suc zero) e h rest = bit-zero n ∙ ap (λ (m : ℕ). eqb m 1) e
    go (suc (suc d)) e h rest = absurd (omega arith)

-- in a number above 0 the lowest set bit lies inside its bits
pub trailing_below : (m k n : ℕ) → m ≤ k → 0 < n → n < 2 ^ m → count_trailing_zeros k n < m
unfolding count_trailing_zeros
trailing_below zero k n h p l = absurd (omega arith)
trailing_below (suc m) zero n h p l = absurd (omega arith)
trailing_below (suc m) (suc k) n h p l = go (n % 2) refl (λ q. trailing_below m k (n / 2) (omega arith) q (omega (arith, pow-suc 2 m)))
  where
    go : (d : ℕ) → n % 2 ≡ d → (0 < n / 2 → count_trailing_zeros k (n / 2) < m) → under d (count_trailing_zeros k (n / 2)) < suc m
    go zero e rest = omega (arith, rest (omega arith))
    go (suc d) e rest = omega arith

-- from past the word's bits on there is none
pub next_past : (word from : ℕ) → word_bits ≤ from → NextSet word from word_bits
next_past word from h = record {
  clear = λ i l u. absurd (omega arith);
  set = λ l. absurd (omega arith);
  low = λ l. absurd (omega arith);
  high = omega arith;
}

-- where nothing is left, there is none
pub next_none : (word from : ℕ) → word / 2 ^ from ≡ 0 → NextSet word from word_bits
next_none word from e = record {
  clear = λ i l u.
      bit_shifted word from i (i - from) (omega arith)
      ∙ ap (λ (m : ℕ). bit_set m (i - from)) e
      ∙ none-set (i - from);
  set = λ l. absurd (omega arith);
  low = λ l. absurd (omega arith);
  high = omega arith;
}

-- the lowest set bit of what is left is the next one
pub next_found : (word from : ℕ) → from ≤ word_bits → word < 2 ^ word_bits → 0 < word / 2 ^ from
    → NextSet word from (from + count_trailing_zeros word_bits (word / 2 ^ from))
next_found word from h fits p =
    let rest : ℕ = word / 2 ^ from in
    let zeros : ℕ = count_trailing_zeros word_bits rest in
    let sum : word_bits - from + from ≡ word_bits = omega arith in
    let left : rest < 2 ^ (word_bits - from) = shr_lt (word_bits - from) from (rw sum fits) in
    let inside : zeros < word_bits - from = trailing_below (word_bits - from) word_bits rest (omega arith) p left in record {
      clear = λ i l u. bit_shifted word from i (i - from) (omega arith) ∙ trailing_clear word_bits rest (i - from) (omega arith);
      set = λ l. bit_shifted word from (from + zeros) zeros refl ∙ trailing_set word_bits rest (omega arith);
      low = λ l. omega arith;
      high = omega arith;
    }
