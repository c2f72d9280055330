-- A pseudo-header's flags, and what they tell of four values as the bits of one number.
use Rattle.std.specs.Prelude.{ℕ, ◌+◌, ◌*◌, ◌/◌, ◌%◌, ◌^◌, Bool, true, false, eqb}

-- whether a flag bit is set
abbrev pub flag : (bit flags : ℕ) → Bool
flag bit flags = eqb (flags / 2 ^ bit % 2) 1

abbrev pub bit_of : Bool → ℕ
bit_of true = 1
bit_of false = 0

-- four values as known or not, from bit 0 on
abbrev pub known_bits : (first second third fourth : Bool) → ℕ
known_bits first second third fourth = bit_of first + 2 * bit_of second + 4 * bit_of third + 8 * bit_of fourth
