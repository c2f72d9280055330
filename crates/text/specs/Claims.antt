-- What decimal text says: read as digits, it is the number; and known texts. Proofs: proofs/Reading.antt.
use Rattle.std.specs.Prelude.{ℕ, ◌+◌, ◌-◌, ◌*◌, ◌≤◌, ◌<◌, ◌≡◌, List, [], ◌∷◌, pos, negsuc}
use Rattle.text.specs.Decimal.{decimal, signed_decimal}

-- the number that digits give behind one that was read already
abbrev pub value_from : ℕ → List ℕ → ℕ
value_from v [] = v
value_from v (x ∷ xs) = value_from (10 * v + (x - 48)) xs

-- every octet is a digit
abbrev pub Digits : List ℕ → Type 0
Digits [] = Unit {0}
Digits (x ∷ xs) = (48 ≤ x) × (x < 58) × Digits xs

-- no zero stands in front of another digit
abbrev pub NoZeroInFront : List ℕ → Type 0
NoZeroInFront [] = ⊥
NoZeroInFront (x ∷ []) = Unit {0}
NoZeroInFront (x ∷ y ∷ xs) = 48 < x

-- the text of a number: digits, with no zero in front, that give the number
pub record Reads (n : ℕ) : Type 0 where
  pub digits : Digits (decimal n)
  pub front : NoZeroInFront (decimal n)
  pub value : value_from 0 (decimal n) ≡ n

abbrev pub DecimalReads : Type 0
DecimalReads = (n : ℕ) → Reads n

-- known texts: `0`, `10`, `-1` and `-120`
pub record Texts : Type 0 where
  pub text_0 : signed_decimal (pos 0) ≡ 0x30 ∷ []
  pub text_10 : signed_decimal (pos 10) ≡ 0x31 ∷ 0x30 ∷ []
  pub minus_1 : signed_decimal (negsuc 0) ≡ 0x2D ∷ 0x31 ∷ []
  pub minus_120 : signed_decimal (negsuc 119) ≡ 0x2D ∷ 0x31 ∷ 0x32 ∷ 0x30 ∷ []
