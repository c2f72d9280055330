-- The claims of specs/Claims.antt hold: every number's text reads as the number, and the known texts compute.
use Prim.Native.Nat.{ℕ, ◌+◌, ◌-◌, ◌*◌, ◌/◌, ◌%◌, ◌≤◌, ◌<◌}
use mathlib.Core.Path.{◌≡◌, refl, ◌∙◌}
use mathlib.Core.List.{List, [], ◌∷◌, ◌++◌}
use native.Mathlib.Omega.{arith}
use Rattle.text.specs.Decimal.{digit, decimal, signed_decimal}
use Rattle.text.specs.Claims.{value_from, Digits, NoZeroInFront, DecimalReads, Texts}
use Rattle.text.proofs.DecimalLaws.{by_digits}

-- digits behind digits
digits_append : (xs ys : List ℕ) → Digits xs → Digits ys → Digits (xs ++ ys)
digits_append [] ys h k = k
digits_append (x ∷ xs) ys h k = (h.0, h.1, digits_append xs ys h.2 k)

value_append : (v : ℕ) (xs ys : List ℕ) → value_from v (xs ++ ys) ≡ value_from (value_from v xs) ys
value_append v [] ys = refl
value_append v (x ∷ xs) ys = value_append (10 * v + (x - 48)) xs ys

-- the first octet is a digit that is not zero
abbrev Leads : List ℕ → Type 0
Leads [] = ⊥
Leads (x ∷ xs) = 48 < x

leads_append : (xs ys : List ℕ) → Leads xs → Leads (xs ++ ys)
leads_append [] ys h = absurd h
leads_append (x ∷ xs) ys h = h

leads-front : (xs : List ℕ) → Leads xs → NoZeroInFront xs
leads-front [] h = h
leads-front (x ∷ []) h = tt
leads-front (x ∷ y ∷ xs) h = h

-- what holds of a number and its text
record Holds (n : ℕ) (xs : List ℕ) : Type 0 where
  digits : Digits xs
  leads : 0 < n → Leads xs
  front : NoZeroInFront xs
  value : value_from 0 xs ≡ n

one : (n : ℕ) → n < 10 → Holds n (digit n ∷ [])
one n h = record { digits = (omega arith, omega arith, tt); leads = λ l. omega arith; front = tt; value = omega arith }

more : (n : ℕ) (xs : List ℕ) → 10 ≤ n → Holds (n / 10) xs → Holds n (xs ++ (digit (n % 10) ∷ []))
more n xs h k =
    let last : List ℕ = digit (n % 10) ∷ [] in
    let leads : Leads (xs ++ last) = leads_append xs last (k.leads (omega arith)) in
    record {
      digits = digits_append xs last k.digits (omega arith, omega arith, tt);
      leads = λ l. leads;
      front = leads-front (xs ++ last) leads;
      value = value_append 0 xs last ∙ rw k.value (omega arith);
    }

pub decimal_reads : DecimalReads
decimal_reads n =
    let h : Holds n (decimal n) = by_digits Holds one more n in
    record { digits = h.digits; front = h.front; value = h.value }

pub texts : Texts
unfolding decimal signed_decimal
texts = record { text_0 = refl; text_10 = refl; minus_1 = refl; minus_120 = refl }
