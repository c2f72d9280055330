-- How each presence word numbers its bits: from 0 again, or on past the table, where no edition knows a field.
-- Assumes nothing.
use Prim.Native.Nat.{ℕ, zero, suc, ◌+◌, ◌≤◌, ◌<◌}
use mathlib.Core.Path.{◌≡◌, refl, ap}
use mathlib.Core.Bool.{Bool, true, false, cond}
use mathlib.Core.Logic.{◌⊎◌, inl, inr}
use mathlib.Core.List.{List, [], ◌∷◌}
use native.Mathlib.Omega.{arith}
use native.Mathlib.Nat.{div-eq_of_lt, mod-eq_of_lt}
use lib.ListN.{get_or}
use Rattle.radiotap_rules.specs.Rules.{Rules, knows, table_ok}
use Rattle.radiotap_rules.specs.Reading.{bit_set, word_bits, word_at, bit_at, first_number, row_number}
use Rattle.radiotap_rules.specs.Words.{position, StartsAgain, Continued, NumbersExactly}
use Rattle.radiotap_rules.proofs.TableTests.{known-low, unknown-high}

module _ (words : List ℕ) where
  -- the number of a word's bit 0, by bit 29 of the word before it
  first_by : (n : ℕ) (t : Bool) → bit_set (get_or words n 0) 29 ≡ t
      → first_number words (suc n) ≡ cond t 0 (first_number words n + word_bits)
  first_by n t e = ap (λ (t : Bool). cond t 0 (first_number words n + word_bits)) e

  -- a word that starts again numbers its bits from 0, a continued one from 32 or more
  pub starts_at_0 : (word : ℕ) → StartsAgain words word → first_number words word ≡ 0
  starts_at_0 zero again = refl
  starts_at_0 (suc n) again = first_by n true again

  pub goes_on : (word : ℕ) → Continued words word → word_bits ≤ first_number words word
  goes_on zero on = absurd on
  goes_on (suc n) on = omega (arith, first_by n false on)

  -- every word is one of both
  pub either-word : (word : ℕ) → StartsAgain words word ⊎ Continued words word
  either-word zero = inl tt
  either-word (suc n) = go (bit_set (get_or words n 0) 29) refl
    where
      go : (t : Bool) → bit_set (get_or words n 0) 29 ≡ t → StartsAgain words (suc n) ⊎ Continued words (suc n)
      go true e = inl e
      go false e = inr e

  -- the number of a bit by its word
  number_of : (word bit : ℕ) → bit < word_bits → row_number words (position word bit) ≡ first_number words word + bit
  number_of word bit h =
      let w : word_at (position word bit) ≡ word = omega arith in
      let b : bit_at (position word bit) ≡ bit = omega arith in
      rw (w, b)

module _ (rules : Rules) (ok : table_ok rules ≡ true) (edition : ℕ) (words : List ℕ) where
  -- a field that an edition knows is in a word that starts again
  pub known-again : (word bit : ℕ) → knows rules edition (first_number words word + bit) ≡ true → StartsAgain words word
  known-again word bit known = go (either-word words word)
    where
      go : StartsAgain words word ⊎ Continued words word → StartsAgain words word
      go (inl again) = again
      go (inr on) = absurd (omega (arith, goes_on words word on, known-low rules edition (first_number words word + bit) ok known))

  -- and has the row of its bit
  pub number_bit : (q : ℕ) → knows rules edition (row_number words q) ≡ true → row_number words q ≡ bit_at q
  number_bit q known = omega (arith, starts_at_0 words (word_at q) (known-again (word_at q) (bit_at q) known))

-- a position of the one presence word is its bit: it has the row of that number
pub number-alone : (word q : ℕ) → q < word_bits → row_number (word ∷ []) q ≡ q
number-alone word q l =
    let w : word_at q ≡ 0 = div-eq_of_lt l in
    rw (w, mod-eq_of_lt l) (omega arith)

-- each word numbers its bits as document 02 says
pub numbers-exactly : NumbersExactly
numbers-exactly rules ws word bit ok h =
    record {
      again = (λ e. again-from (either-word ws word) e, λ again. omega (arith, number, starts_at_0 ws word again));
      on = (λ past. on_from (either-word ws word) past, λ on. omega (arith, number, goes_on ws word on));
      none = λ on edition. unknown-high rules edition (row_number ws (position word bit)) ok (omega (arith, number, goes_on ws word on));
    }
  where
    number : row_number ws (position word bit) ≡ first_number ws word + bit
    number = number_of ws word bit h

    again-from : StartsAgain ws word ⊎ Continued ws word → row_number ws (position word bit) ≡ bit → StartsAgain ws word
    again-from (inl again) e = again
    again-from (inr on) e = absurd (omega (arith, number, goes_on ws word on))

    on_from : StartsAgain ws word ⊎ Continued ws word → 32 ≤ row_number ws (position word bit) → Continued ws word
    on_from (inl again) past = absurd (omega (arith, number, starts_at_0 ws word again))
    on_from (inr on) past = on
