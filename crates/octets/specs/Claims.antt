-- The laws of numbers in octets, each once over the width and the order. Proofs: proofs/Laws.antt, Signs.antt.
use Rattle.std.specs.Prelude.{ℕ, suc, ◌<◌, ◌^◌, ◌+◌, ◌-◌, ◌*◌, ◌≡◌, List, length, ℤ}
use Rattle.std.specs.Int.Signed.{mag}
use Rattle.octets.specs.Numbers.{Order, number, joined, octets_of, Octets}
use Rattle.octets.specs.Signed.{signed, unsigned, from_halves}

-- read after write: a number that fits the width comes back
abbrev pub ReadAfterWrite : Type 0
ReadAfterWrite = (o : Order) (w n : ℕ) → n < 256 ^ w → number o (octets_of o w n) ≡ n

-- write after read: octets come back
abbrev pub WriteAfterRead : Type 0
WriteAfterRead = (o : Order) (s : List ℕ) → Octets s → octets_of o (length s) (number o s) ≡ s

-- range: a number of so many octets is below 256 to that power
abbrev pub Range : Type 0
Range = (o : Order) (s : List ℕ) → Octets s → number o s < 256 ^ length s

-- the octets of a number are as many as the width, and octets
pub record WrittenOctets (o : Order) (w n : ℕ) : Type 0 where
  pub long : length (octets_of o w n) ≡ w
  pub octets : Octets (octets_of o w n)

abbrev pub Written : Type 0
Written = (o : Order) (w n : ℕ) → WrittenOctets o w n

-- a number by its high and its low octets, however many and in either order
abbrev pub NumberJoined : Type 0
NumberJoined = (o : Order) (high low : List ℕ) → number o (joined o high low) ≡ number o high * 256 ^ length low + number o low

-- request W-203: for all halves, in either order, what they make is the signed number of the eight octets. A half is
-- given by its four octets; every number of 32 bits has such (ReadAfterWrite).
abbrev pub SignedByHalves : Type 0
SignedByHalves = (o : Order) (high low : List ℕ) → length high ≡ 4 → length low ≡ 4
    → from_halves (number o high) (number o low) ≡ signed 64 (number o (joined o high low))

-- two's complement at any number of bits from 1 on: the bits come back, and so does the number
pub record TwosComplementAt (bits : ℕ) : Type 0 where
  pub to_bits : (n : ℕ) → n < 2 ^ bits → unsigned bits (signed bits n) ≡ n
  pub from_bits : (z : ℤ) → mag z < 2 ^ (bits - 1) → signed bits (unsigned bits z) ≡ z
  pub range : (n : ℕ) → n < 2 ^ bits → mag (signed bits n) < 2 ^ (bits - 1)
  pub fits : (z : ℤ) → mag z < 2 ^ (bits - 1) → unsigned bits z < 2 ^ bits

abbrev pub TwosComplement : Type 0
TwosComplement = (b : ℕ) → TwosComplementAt (suc b)
