-- The bits that an edition knows, gathered row by row.
-- Assumes nothing.
use Rattle.std.proofs.Common.{◌≡◌, ℕ, ◌+◌, ◌*◌, ◌%◌, ◌^◌, ◌<◌, ◌≤◌, true, false, eqb, sym, ap, ◌∙◌, bit_or, arith, w32}
use borrow.Author.Count.{below_more}
use Rattle.std.proofs.lemmas.Nat.Bits.{bit_at_set_same, bit_at_set_other}
use Rattle.radiotap_rules.specs.Rules.{knows}
use Rattle.radiotap_rules.specs.Table.{our_rules}
use Rattle.radiotap_rules.specs.Reading.{bit_set, word_bits}
use Rattle.radiotap_bits.proofs.SetLaws.{none-set}

-- of the bits below one those that the edition knows are set, and no others
pub record KnownBelow (edition row bits : ℕ) : Type 0 where
  pub told : (b : ℕ) → b < row → bit_set bits b ≡ knows our_rules edition b
  pub none : (b : ℕ) → row ≤ b → bit_set bits b ≡ false

module _ (edition : ℕ) where
  pub known_none : KnownBelow edition 0 0
  known_none = record { told = λ b h. absurd (omega arith); none = λ b h. none-set b }

  module _ {row bits : ℕ} (k : KnownBelow edition row bits) where
    -- a row that the edition knows sets its bit
    pub known_set : row < word_bits → knows our_rules edition row ≡ true → KnownBelow edition (row + 1) (bit_or bits (1 * 2 ^ row % 2 ^ 32))
    known_set inside e =
        let with : ℕ = bit_or bits (1 * 2 ^ row % 2 ^ 32) in
        let same : bit_set with row ≡ true = ap (λ (d : ℕ). eqb d 1) (bit_at_set_same w32 bits row inside) in
        let other : (b : ℕ) → (b ≡ row → ⊥) → bit_set with b ≡ bit_set bits b = λ b h. ap (λ (d : ℕ). eqb d 1) (bit_at_set_other w32 bits row inside b h) in
        record {
          told = below_more (λ (b : ℕ). bit_set with b ≡ knows our_rules edition b) row (λ b low. other b (λ z. omega arith) ∙ k.told b low) (same ∙ sym e);
          none = λ b h. other b (λ z. omega arith) ∙ k.none b (omega arith);
        }

    -- one that it doesn't know sets none
    pub known_clear : knows our_rules edition row ≡ false → KnownBelow edition (row + 1) bits
    known_clear e =
        record {
          told = below_more (λ (b : ℕ). bit_set bits b ≡ knows our_rules edition b) row k.told (k.none row (omega arith) ∙ sym e);
          none = λ b h. k.none b (omega arith);
        }
