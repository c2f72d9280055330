-- The set bits of a word one after another: the lowest of those that are left is the next one.
-- Assumes nothing.
use Rattle.std.proofs.Common.{◌≡◌, ℕ, ◌+◌, ◌-◌, ◌^◌, ◌<◌, ◌≤◌, true, false, bit_and, refl, sym, ◌∙◌, arith}
use native.Mathlib.Decide.{dec_lt}
use lib.Bits.{and_le_l}
use lib.Count.{count_trailing_zeros, trailing_le}
use Rattle.radiotap_rules.specs.Reading.{bit_set, word_bits}
use Rattle.radiotap_bits.specs.Bits.{NextSet}
use Rattle.radiotap_bits.proofs.SetLaws.{trailing_clear, trailing_set, trailing_below}
use Rattle.radiotap_bits.proofs.LeftLaws.{cleared_low, cleared_high}

-- the lowest set bit
abbrev pub lowest : ℕ → ℕ
lowest n = count_trailing_zeros word_bits n

-- the bits that are left of a word are its own from the lowest of them on
pub record BitsLeft (word left : ℕ) : Type 0 where
  pub small : left < 2 ^ word_bits
  pub same : (i : ℕ) → lowest left ≤ i → i < word_bits → bit_set left i ≡ bit_set word i

module _ (word : ℕ) where
  -- at first all are left
  pub bits_all : {left : ℕ} → left ≡ word → word < 2 ^ word_bits → BitsLeft word left × NextSet word 0 (lowest left)
  bits_all {left} e fits = rw e (
    record { small = fits; same = λ i l h. refl },
    record {
      clear = λ i l h. trailing_clear word_bits word i h;
      set = trailing_set word_bits word;
      low = λ l. omega arith;
      high = trailing_le word_bits word;
    },
  )

  module _ {left : ℕ} (b : BitsLeft word left) (some : 0 < left) where
    abbrev rest : ℕ
    rest = bit_and left (left - 1)

    lowest_inside : lowest left < word_bits
    lowest_inside = trailing_below word_bits word_bits left (omega arith) some b.small

    later : lowest left < lowest rest
    later = go (dec_lt (lowest left) (lowest rest))
      where
        go : Dec (lowest left < lowest rest) → lowest left < lowest rest
        go (yes h) = h
        go (no h) =
            let low = cleared_low word_bits left (lowest rest) (omega (arith, lowest_inside)) (omega arith) in
            let z : ◌≡◌ true false = sym (trailing_set word_bits rest (omega (arith, lowest_inside))) ∙ low in
            absurd (cc z)

    kept : (i : ℕ) → lowest rest ≤ i → i < word_bits → bit_set rest i ≡ bit_set word i
    kept i l h = cleared_high word_bits left i lowest_inside (omega (arith, later)) ∙ b.same i (omega (arith, later)) h

    -- without the lowest of them, the next one is the lowest
    without_lowest : BitsLeft word rest × NextSet word (lowest left + 1) (lowest rest)
    without_lowest = (
      record { small = omega (arith, and_le_l left (left - 1), b.small); same = kept },
      record {
        clear = λ i l h.
            sym (b.same i (omega arith) (omega (arith, trailing_le word_bits rest)))
            ∙ sym (cleared_high word_bits left i lowest_inside (omega arith))
            ∙ trailing_clear word_bits rest i h;
        set = λ l. sym (kept (lowest rest) (omega arith) l) ∙ trailing_set word_bits rest l;
        low = λ l. omega (arith, later);
        high = trailing_le word_bits rest;
      },
    )

    -- the bit that is taken, what is then left, and the next one
    pub bits_next : {bit left' : ℕ} → bit ≡ lowest left → left' ≡ bit_and left (left - 1)
        → (bit < word_bits) × BitsLeft word left' × NextSet word (bit + 1) (lowest left')
    bits_next e e' = rw (e, e') (lowest_inside, without_lowest.0, without_lowest.1)
