-- The bits of a presence word: the set ones, those that an edition knows, what the word carries, and what stops a walk in a
-- continued word.
use Rattle.std.specs.Prelude.{◌≡◌, ℕ, ◌-◌, ◌^◌, ◌<◌, ◌≤◌, Bool, true, false, not, ◌&&◌, ◌||◌, ◌==◌, bit_and, Option, MatchOption}
use Rattle.std.specs.Int.Count.{count_trailing_zeros}
use Rattle.radiotap_rules.specs.Rules.{knows}
use Rattle.radiotap_rules.specs.Table.{our_rules}
use Rattle.radiotap_rules.specs.Reading.{bit_set, word_bits}

-- the first set bit of a word from a bit on: set, and every bit before it clear; past the word's bits where there is none
pub record NextSet (word from next : ℕ) : Type 0 where
  pub clear : (i : ℕ) → from ≤ i → i < next → bit_set word i ≡ false
  pub set : next < word_bits → bit_set word next ≡ true
  pub low : next < word_bits → from ≤ next
  pub high : next ≤ word_bits

-- the lowest of the bits that are left, and the bits that are then left
abbrev pub TakesLowest : (left : ℕ) → Option ℕ → (left' : ℕ) → Type 0
TakesLowest left next left' =
    MatchOption next (left ≡ 0)
    (λ bit. (0 < left) × (bit ≡ count_trailing_zeros word_bits left) × (left' ≡ bit_and left (left - 1)))

-- a word whose set bits are those that an edition knows
abbrev pub KnownBits : (edition word : ℕ) → Type 0
KnownBits edition word = (bit : ℕ) → bit < word_bits → bit_set word bit ≡ knows our_rules edition bit

-- bits 29 and 31 carry no field
abbrev pub bare : ℕ → Bool
bare bit = bit == 29 || bit == 31

-- whether a bit of a word carries a field, known or not
abbrev pub carries_field : (word bit : ℕ) → Bool
carries_field word bit = bit_set word bit && not (bare bit)

-- the first bit of a word that carries a field which is none of the known; past the word's bits where there is none
pub record StopsAt (word known stop : ℕ) : Type 0 where
  pub below : (bit : ℕ) → bit < stop → bit < word_bits → carries_field word bit ≡ true → bit_set known bit ≡ true
  pub carries : stop < word_bits → carries_field word stop ≡ true
  pub unknown : stop < word_bits → bit_set known stop ≡ false
  pub high : stop ≤ word_bits

-- what is left to be shown of a word from a bit on: its bits that carry a field, below the one that stops a walk
pub record LeftFrom (word stop from left : ℕ) : Type 0 where
  pub small : left < 2 ^ word_bits
  pub before : (bit : ℕ) → bit < from → bit_set left bit ≡ false
  pub behind : (bit : ℕ) → from ≤ bit → bit < stop → bit < word_bits → bit_set left bit ≡ carries_field word bit
  pub past : (bit : ℕ) → stop ≤ bit → bit < word_bits → bit_set left bit ≡ false

-- what a word carries: the unknown bits are those of its fields that are none of the known, the lowest of them stops a walk,
-- and all that is shown is left
pub record Carries (word known shown unknown : ℕ) : Type 0 where
  pub small : unknown < 2 ^ word_bits
  pub strange : (bit : ℕ) → bit < word_bits → bit_set unknown bit ≡ (carries_field word bit && not (bit_set known bit))
  pub stops : StopsAt word known (count_trailing_zeros word_bits unknown)
  pub left : LeftFrom word (count_trailing_zeros word_bits unknown) 0 shown

-- the bits by which a word behind another stops a walk since it is continued: those that carry a field, where bit 29 of the
-- other is clear
pub record Continues (before word unknown : ℕ) : Type 0 where
  pub small : unknown < 2 ^ word_bits
  pub strange : (bit : ℕ) → bit < word_bits → bit_set unknown bit ≡ (carries_field word bit && not (bit_set before 29))
