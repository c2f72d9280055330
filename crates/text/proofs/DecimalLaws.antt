-- Laws of decimal text: a number of one digit and of more, how long a text is, and the digits that the library spells.
-- Assumes nothing.
use Prim.Native.Nat.{ℕ, zero, suc, ◌+◌, ◌*◌, ◌/◌, ◌%◌, ◌^◌, ◌≤◌, ◌<◌}
use mathlib.Core.Path.{◌≡◌, sym, ap, subst, ◌∙◌}
use mathlib.Core.List.{List, [], ◌∷◌, ◌++◌}
use native.Mathlib.Omega.{arith}
use lib.ListN.{length, take, length-append}
use native.Mathlib.Nat.{pow-succ'}
use native.Mathlib.Decide.{dec_le}
use borrow.Author.Tests.{lt-ltb, le-ltb}
use Rattle.io.specs.Counts.{IsPrefixLen}
use Rattle.io.specs.Digits.{hex_digit_ascii, last_digits, IsDigitCount}
use Rattle.text.specs.Decimal.{digit, decimal_in, decimal}

-- one digit, whatever more there may be
in_one : (more n : ℕ) → n < 10 → decimal_in more n ≡ digit n ∷ []
in_one zero n h =
    let same : n % 10 ≡ n = omega arith in
    rw same
in_one (suc more) n h = rw (lt-ltb n 10 h)

-- more than one digit
in_more : (more n : ℕ) → 10 ≤ n → decimal_in (suc more) n ≡ decimal_in more (n / 10) ++ (digit (n % 10) ∷ [])
in_more more n h = rw (le-ltb n 10 h)

-- where there may be enough digits, how many more does not matter
in_same : (a b n : ℕ) → n < 10 + a → n < 10 + b → decimal_in a n ≡ decimal_in b n
in_same zero b n h k = in_one zero n h ∙ sym (in_one b n h)
in_same (suc a) zero n h k = in_one (suc a) n k ∙ sym (in_one zero n k)
in_same (suc a) (suc b) n h k = go (dec_le 10 n) (in_same a b (n / 10) (omega arith) (omega arith))
  where
    go : Dec (10 ≤ n) → decimal_in a (n / 10) ≡ decimal_in b (n / 10) → decimal_in (suc a) n ≡ decimal_in (suc b) n
    go (yes l) e = in_more a n l ∙ ap (λ (xs : List ℕ). xs ++ (digit (n % 10) ∷ [])) e ∙ sym (in_more b n l)
    go (no l) e = in_one (suc a) n (omega arith) ∙ sym (in_one (suc b) n (omega arith))

pub decimal-one : (n : ℕ) → n < 10 → decimal n ≡ digit n ∷ []
unfolding decimal
decimal-one n h = in_one n n h

pub decimal-more : (n : ℕ) → 10 ≤ n → decimal n ≡ decimal (n / 10) ++ (digit (n % 10) ∷ [])
unfolding decimal
decimal-more zero h = absurd (omega arith)
decimal-more (suc m) h =
    in_more m (suc m) h
    ∙ ap (λ (xs : List ℕ). xs ++ (digit (suc m % 10) ∷ [])) (in_same m (suc m / 10) (suc m / 10) (omega arith) (omega arith))

-- the library's digit below ten
glyph_digit : (n : ℕ) → hex_digit_ascii (n % 10) ≡ digit (n % 10)
glyph_digit n = rw (lt-ltb (n % 10) 10 (omega arith))

-- so many digits as the number has, one of them at least
in_digits : (k n : ℕ) → n < 10 ^ suc k → (0 < k → 10 ^ k ≤ n) → last_digits 10 (suc k) n ≡ decimal n
in_digits zero n h f =
    let small : n < 10 = omega arith in
    let same : n % 10 ≡ n = omega arith in
    rw (glyph_digit n, same, decimal-one n small)
in_digits (suc k) n h f =
    let least : 10 ^ suc k ≤ n = f (omega arith) in
    let power : 10 ^ suc k ≡ 10 * 10 ^ k = pow-succ' 10 k in
    let next : 10 ^ suc (suc k) ≡ 10 * 10 ^ suc k = pow-succ' 10 (suc k) in
    rw (in_digits k (n / 10) (omega arith) (λ _. omega arith), glyph_digit n, decimal-more n (omega arith))

-- the fewest digits of a number are its text
pub digits_decimal : (n k : ℕ) → IsDigitCount 10 1 n k → last_digits 10 k n ≡ decimal n
digits_decimal n zero h = absurd (omega arith)
digits_decimal n (suc k) h = in_digits k n h.1 (λ l. subst (λ (e : ℕ). 10 ^ e ≤ n) (omega arith) (h.2 (omega arith)))

-- a number below a power of ten has at most so many digits
pub decimal-long : (k n : ℕ) → n < 10 ^ suc k → length (decimal n) ≤ suc k
decimal-long zero n h = let small : n < 10 = omega arith in rw (decimal-one n small) (omega arith)
decimal-long (suc k) n h = go (dec_le 10 n) (decimal-long k (n / 10) (omega (arith, pow-succ' 10 (suc k))))
  where
    go : Dec (10 ≤ n) → length (decimal (n / 10)) ≤ suc k → length (decimal n) ≤ suc (suc k)
    go (yes l) short = rw (decimal-more n l, length-append) (omega arith)
    go (no l) short = let small : n < 10 = omega arith in rw (decimal-one n small) (omega arith)

-- what the library spells of a 64-bit number at the start of an array: its text
pub record Spelled (n size : ℕ) (array : List ℕ) : Type 0 where
  pub is : take size array ≡ decimal n
  pub long : size ≡ length (decimal n)
  pub short : size ≤ 20

pub spelled-text : (n size : ℕ) (array : List ℕ) → n < 2 ^ 64
    → IsPrefixLen size array × (IsDigitCount 10 1 n size × (take size array ≡ last_digits 10 size n)) → Spelled n size array
spelled-text n size array h promised =
    let is : take size array ≡ decimal n = promised.1.1 ∙ digits_decimal n size promised.1.0 in
    let long : size ≡ length (decimal n) = promised.0.1 ∙ ap length is in
    record { is = is; long = long; short = omega (arith, decimal-long 19 n (omega arith)) }

-- what holds of one digit, and of a text with a digit behind it where it holds of that text, holds of every text
module _
    (P : ℕ → List ℕ → Type 0)
    (one : (n : ℕ) → n < 10 → P n (digit n ∷ []))
    (more : (n : ℕ) (xs : List ℕ) → 10 ≤ n → P (n / 10) xs → P n (xs ++ (digit (n % 10) ∷ []))) where
  in_by_digits : (most n : ℕ) → n < 10 + most → P n (decimal_in most n)
  in_by_digits zero n h = subst (P n) (sym (in_one zero n h)) (one n h)
  in_by_digits (suc most) n h = go (dec_le 10 n) (in_by_digits most (n / 10) (omega arith))
    where
      go : Dec (10 ≤ n) → P (n / 10) (decimal_in most (n / 10)) → P n (decimal_in (suc most) n)
      go (yes l) k = subst (P n) (sym (in_more most n l)) (more n (decimal_in most (n / 10)) l k)
      go (no l) k = subst (P n) (sym (in_one (suc most) n (omega arith))) (one n (omega arith))

  pub by_digits : (n : ℕ) → P n (decimal n)
  unfolding decimal
  by_digits n = in_by_digits n n (omega arith)
