-- Numbers as decimal text: ASCII digits, the most significant first.
use Rattle.std.specs.Prelude.{ℕ, zero, suc, ◌+◌, ◌/◌, ◌%◌, cond, List, [], ◌∷◌, ◌++◌, ltb, ℤ, pos, negsuc}

-- the octet of a digit: `0` is 48
abbrev pub digit : ℕ → ℕ
digit d = 48 + d

-- the octet of the sign `-`
abbrev pub minus : ℕ
minus = 45

-- the digits of a number with no zero in front, where it has at most so many more than one
abbrev pub decimal_in : (more n : ℕ) → List ℕ
decimal_in zero n = digit (n % 10) ∷ []
decimal_in (suc more) n = cond (ltb n 10) (digit n ∷ []) (decimal_in more (n / 10) ++ (digit (n % 10) ∷ []))

-- a number in decimal. It has at most as many digits more than one as it is itself.
unfoldable pub decimal : ℕ → List ℕ
decimal n = decimal_in n n

-- a signed number in decimal: a negative one has the sign in front. negsuc n is −(n + 1).
unfoldable pub signed_decimal : ℤ → List ℕ
signed_decimal (pos n) = decimal n
signed_decimal (negsuc n) = minus ∷ decimal (suc n)
