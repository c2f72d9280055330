-- Two's complement: the signed number that bits stand for, and back.
use Rattle.std.specs.Prelude.{ℕ, suc, ◌+◌, ◌-◌, ◌*◌, ◌^◌, ℤ, pos, negsuc, ltb, cond}

-- the signed number of so many bits: below half the range itself, from half on less the whole range.
-- negsuc k is -(k + 1).
unfoldable pub signed : ℕ → ℕ → ℤ
signed bits n = cond (ltb n (2 ^ (bits - 1))) (pos n) (negsuc (2 ^ bits - suc n))

-- the bits of a signed number
abbrev pub unsigned : ℕ → ℤ → ℕ
unsigned bits (pos n) = n
unsigned bits (negsuc n) = 2 ^ bits - suc n

-- the signed number of 64 bits that two halves of 32 bits make, the high one above the low one
unfoldable pub from_halves : (high low : ℕ) → ℤ
from_halves high low = signed 64 (high * 2 ^ 32 + low)
