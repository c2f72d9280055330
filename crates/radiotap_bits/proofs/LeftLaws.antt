-- The bits of two words taken together, a word less its lowest set bit, and what is left of a presence word.
-- Assumes nothing.
use Rattle.std.proofs.Common.{◌≡◌, ℕ, zero, suc, ◌+◌, ◌-◌, ◌*◌, ◌/◌, ◌%◌, ◌^◌, ◌<◌, ◌≤◌, min, Bool, true, false, not, ◌&&◌, eqb, sym, refl, ap, ◌∙◌, ap₂, mul_assoc, pow-suc, arith}
use mathlib.Core.Bool.{and-eq-true_iff}
use native.Mathlib.Nat.{min-zero, zero-min, min-le_left}
use native.Mathlib.Decide.{dec_le}
use lib.Bits.{bit_and, bit_xor, differ, and_step, and_le_l, and_le_r, and_shr, and_self, xor_step, xor_shr, xor_lt}
use lib.Count.{count_trailing_zeros, under, trailing_le, trailing_of_zero}
use Rattle.radiotap_rules.specs.Reading.{bit_set, word_bits}
use Rattle.radiotap_bits.specs.Bits.{bare, carries_field, LeftFrom, StopsAt, Carries, Continues}
use Rattle.radiotap_bits.proofs.SetLaws.{bit_shifted, bit-zero, none-set, trailing_clear, trailing_set, trailing_below}

-- two digits of a number: both set, and the first set without the second
and_digits : (x y : ℕ) → x < 2 → y < 2 → eqb (min x y) 1 ≡ (eqb x 1 && eqb y 1)
and_digits zero y h l = rw (zero-min y)
and_digits (suc zero) zero h l = refl
and_digits (suc zero) (suc zero) h l = refl
and_digits (suc zero) (suc (suc y)) h l = absurd (omega arith)
and_digits (suc (suc x)) y h l = absurd (omega arith)

without_digits : (x y : ℕ) → x < 2 → y < 2 → eqb (differ x (min x y)) 1 ≡ (eqb x 1 && not (eqb y 1))
without_digits zero y h l = rw (zero-min y)
without_digits (suc zero) zero h l = refl
without_digits (suc zero) (suc zero) h l = refl
without_digits (suc zero) (suc (suc y)) h l = absurd (omega arith)
without_digits (suc (suc x)) y h l = absurd (omega arith)

and_odd : (a b : ℕ) → bit_and a b % 2 ≡ min (a % 2) (b % 2)
and_odd a b = omega (arith, and_step a b, min-le_left (a % 2) (b % 2))

differ-small : (x y : ℕ) → x < 2 → y < 2 → differ x y ≤ 1
differ-small zero y h l = omega arith
differ-small (suc zero) zero h l = omega arith
differ-small (suc zero) (suc zero) h l = omega arith
differ-small (suc zero) (suc (suc y)) h l = absurd (omega arith)
differ-small (suc (suc x)) y h l = absurd (omega arith)

without_odd : (a b : ℕ) → bit_xor a (bit_and a b) % 2 ≡ differ (a % 2) (min (a % 2) (b % 2))
without_odd a b =
    let x : ℕ = bit_and a b in
    let odd : bit_xor a x % 2 ≡ differ (a % 2) (x % 2) =
    omega (arith, xor_step a x, differ-small (a % 2) (x % 2) (omega arith) (omega arith)) in
    odd ∙ ap (differ (a % 2)) (and_odd a b)

-- a bit of two words taken together
pub and_bit : (a b i : ℕ) → bit_set (bit_and a b) i ≡ (bit_set a i && bit_set b i)
and_bit a b i =
    ap (λ (n : ℕ). eqb (n % 2) 1) (and_shr a b i)
    ∙ ap (λ (n : ℕ). eqb n 1) (and_odd (a / 2 ^ i) (b / 2 ^ i))
    ∙ and_digits (a / 2 ^ i % 2) (b / 2 ^ i % 2) (omega arith) (omega arith)

-- a bit of a word without those of another
pub without_bit : (a b i : ℕ) → bit_set (bit_xor a (bit_and a b)) i ≡ (bit_set a i && not (bit_set b i))
without_bit a b i =
    ap (λ (n : ℕ). eqb (n % 2) 1) (xor_shr a (bit_and a b) i ∙ ap (bit_xor (a / 2 ^ i)) (and_shr a b i))
    ∙ ap (λ (n : ℕ). eqb n 1) (without_odd (a / 2 ^ i) (b / 2 ^ i))
    ∙ without_digits (a / 2 ^ i % 2) (b / 2 ^ i % 2) (omega arith) (omega arith)

-- a word and the number below it, taken together, by halves
cleared_half : (n : ℕ) → bit_and n (n - 1) / 2 ^ 1 ≡ bit_and (n / 2) ((n - 1) / 2)
cleared_half n = and_shr n (n - 1) 1

cleared_odd : (n : ℕ) → bit_and n (n - 1) % 2 ≡ 0
cleared_odd n = go (n % 2) refl
  where
    go : (d : ℕ) → n % 2 ≡ d → bit_and n (n - 1) % 2 ≡ 0
    go zero e = and_odd n (n - 1) ∙ ap (λ (k : ℕ). min k ((n - 1) % 2)) e ∙ zero-min ((n - 1) % 2)
    go (suc d) e =
        let even : (n - 1) % 2 ≡ 0 = omega arith in
        and_odd n (n - 1) ∙ ap (min (n % 2)) even ∙ min-zero (n % 2)

cleared_first : (n : ℕ) → bit_set (bit_and n (n - 1)) 0 ≡ false
cleared_first n = bit-zero (bit_and n (n - 1)) ∙ ap (λ (k : ℕ). eqb k 1) (cleared_odd n)

cleared_shifted : (n m i : ℕ) → (n - 1) / 2 ≡ m → bit_set (bit_and n (n - 1)) (suc i) ≡ bit_set (bit_and (n / 2) m) i
cleared_shifted n m i e =
    bit_shifted (bit_and n (n - 1)) 1 (suc i) i (omega arith)
    ∙ ap (λ (k : ℕ). bit_set k i) (cleared_half n ∙ ap (bit_and (n / 2)) e)

-- so the lowest set bit is cleared, and those below it are clear
pub cleared_low : (k n i : ℕ) → i < k → i ≤ count_trailing_zeros k n → bit_set (bit_and n (n - 1)) i ≡ false
unfolding count_trailing_zeros
cleared_low zero n i h l = absurd (omega arith)
cleared_low (suc k) n zero h l = cleared_first n
cleared_low (suc k) n (suc i) h l = go (n % 2) refl l (cleared_low k (n / 2) i (omega arith))
  where
    go : (d : ℕ) → n % 2 ≡ d → suc i ≤ under d (count_trailing_zeros k (n / 2))
        → (i ≤ count_trailing_zeros k (n / 2) → bit_set (bit_and (n / 2) (n / 2 - 1)) i ≡ false)
        → bit_set (bit_and n (n - 1)) (suc i) ≡ false
    go zero e l rest = cleared_shifted n (n / 2 - 1) i (omega arith) ∙ rest (omega arith)
    go (suc d) e l rest = absurd (omega arith)

-- and those above it stay
pub cleared_high : (k n i : ℕ) → count_trailing_zeros k n < k → count_trailing_zeros k n < i → bit_set (bit_and n (n - 1)) i ≡ bit_set n i
unfolding count_trailing_zeros
cleared_high zero n i h l = absurd (omega arith)
cleared_high (suc k) n zero h l = absurd (omega arith)
cleared_high (suc k) n (suc i) h l = go (n % 2) refl h l (cleared_high k (n / 2) i)
  where
    whole : bit_set (n / 2) i ≡ bit_set n (suc i)
    whole = sym (bit_shifted n 1 (suc i) i (omega arith))

    go : (d : ℕ) → n % 2 ≡ d → under d (count_trailing_zeros k (n / 2)) < suc k → under d (count_trailing_zeros k (n / 2)) < suc i
        → (count_trailing_zeros k (n / 2) < k → count_trailing_zeros k (n / 2) < i → bit_set (bit_and (n / 2) (n / 2 - 1)) i ≡ bit_set (n / 2) i)
        → bit_set (bit_and n (n - 1)) (suc i) ≡ bit_set n (suc i)
    go zero e h l rest = cleared_shifted n (n / 2 - 1) i (omega arith) ∙ rest (omega arith) (omega arith) ∙ whole
    go (suc d) e h l rest =
        cleared_shifted n (n / 2) i (omega arith) ∙ ap (λ (m : ℕ). bit_set m i) (and_self (n / 2)) ∙ whole

-- two tests that agree
abbrev agree : Bool → Bool → Bool
agree true u = u
agree false u = not u

agree_same : (t u : Bool) → agree t u ≡ true → t ≡ u
agree_same true true e = refl
agree_same true false e = sym e
agree_same false true e = e
agree_same false false e = refl

-- a test that holds at every number below one
abbrev all_below : (ℕ → Bool) → ℕ → Bool
all_below test zero = true
all_below test (suc n) = test n && all_below test n

all_below_lem : (test : ℕ → Bool) (n : ℕ) → all_below test n ≡ true → (i : ℕ) → i < n → test i ≡ true
all_below_lem test zero e i h = absurd (omega arith)
all_below_lem test (suc n) e i h = go (dec_le (suc i) n) (all_below_lem test n ((and-eq-true_iff (test n) (all_below test n)).0 e).1 i)
  where
    go : Dec (suc i ≤ n) → (i < n → test i ≡ true) → test i ≡ true
    go (yes l) rest = rest l
    go (no l) rest =
        let last : i ≡ n = omega arith in
        ap test last ∙ ((and-eq-true_iff (test n) (all_below test n)).0 e).0

-- the bits that carry a field are all but 29 and 31
carrying_bits : (bit : ℕ) → bit < word_bits → bit_set 1610612735 bit ≡ not (bare bit)
carrying_bits bit h = agree_same _ _ (all_below_lem (λ (b : ℕ). agree (bit_set 1610612735 b) (not (bare b))) word_bits refl bit h)

-- the number below another, or below a power of two for 0, has all bits set below the lowest set one
low_ones : (k n r m i : ℕ) → r + 1 ≡ n + m * 2 ^ k → i < count_trailing_zeros k n → bit_set r i ≡ true
unfolding count_trailing_zeros
low_ones zero n r m i e h = absurd (omega arith)
low_ones (suc k) n r m i e h = go i (n % 2) refl h (low_ones k (n / 2) (r / 2) m)
  where
    twice : r + 1 ≡ n + m * 2 ^ k * 2
    twice = e ∙ ap (λ (x : ℕ). n + x) (ap (λ (x : ℕ). m * x) (pow-suc 2 k) ∙ sym (mul_assoc m (2 ^ k) 2))

    go : (i d : ℕ) → n % 2 ≡ d → i < under d (count_trailing_zeros k (n / 2))
        → ((j : ℕ) → r / 2 + 1 ≡ n / 2 + m * 2 ^ k → j < count_trailing_zeros k (n / 2) → bit_set (r / 2) j ≡ true) → bit_set r i ≡ true
    go zero zero e h rest = let odd : r % 2 ≡ 1 = omega (arith, twice) in bit-zero r ∙ ap (λ (x : ℕ). eqb x 1) odd
    go (suc i) zero e h rest = bit_shifted r 1 (suc i) i (omega arith) ∙ rest i (omega (arith, twice)) (omega arith)
    go i (suc d) e h rest = absurd (omega arith)

-- and its bits above the lowest set one stay
high-stays : (k n r i : ℕ) → r + 1 ≡ n → count_trailing_zeros k n < k → count_trailing_zeros k n < i → bit_set r i ≡ bit_set n i
unfolding count_trailing_zeros
high-stays zero n r i e h l = absurd (omega arith)
high-stays (suc k) n r zero e h l = absurd (omega arith)
high-stays (suc k) n r (suc i) e h l = go (n % 2) refl h l (high-stays k (n / 2) (r / 2) i)
  where
    by_half : bit_set (r / 2) i ≡ bit_set (n / 2) i → bit_set r (suc i) ≡ bit_set n (suc i)
    by_half same = bit_shifted r 1 (suc i) i (omega arith) ∙ same ∙ sym (bit_shifted n 1 (suc i) i (omega arith))

    go : (d : ℕ) → n % 2 ≡ d → under d (count_trailing_zeros k (n / 2)) < suc k → under d (count_trailing_zeros k (n / 2)) < suc i
        → (r / 2 + 1 ≡ n / 2 → count_trailing_zeros k (n / 2) < k → count_trailing_zeros k (n / 2) < i → bit_set (r / 2) i ≡ bit_set (n / 2) i)
        → bit_set r (suc i) ≡ bit_set n (suc i)
    go zero even h l rest = by_half (rest (omega arith) (omega arith) (omega arith))
    go (suc d) odd h l rest = let same : r / 2 ≡ n / 2 = omega arith in by_half (ap (λ (x : ℕ). bit_set x i) same)

-- a word with a lowest set bit is above 0
set_above : (n : ℕ) → count_trailing_zeros word_bits n < word_bits → 1 ≤ n
set_above n h = go (dec_le 1 n)
  where
    go : Dec (1 ≤ n) → 1 ≤ n
    go (yes l) = l
    go (no l) =
        let none : n ≡ 0 = omega arith in
        absurd (omega (arith, ap (count_trailing_zeros word_bits) none, trailing_of_zero word_bits))

-- two tests of a bit, and of it without another
pub both_not : (t u : Bool) → (t && not u) ≡ false → t ≡ true → u ≡ true
both_not true true e h = refl
both_not true false e h = sym e
both_not false u e h = let z : ◌≡◌ {A = ℕ} 0 1 = cc in absurd (omega arith)

pub and_not_true : (t u : Bool) → (t && not u) ≡ true → (t ≡ true) × (u ≡ false)
and_not_true true true e = let z : ◌≡◌ {A = ℕ} 0 1 = cc in absurd (omega arith)
and_not_true true false e = (refl, refl)
and_not_true false u e = let z : ◌≡◌ {A = ℕ} 0 1 = cc in absurd (omega arith)

-- a test and one that passes, or that fails
pub and_true : (t : Bool) → (t && true) ≡ t
and_true true = refl
and_true false = refl

and-false : (t : Bool) → (t && false) ≡ false
and-false true = refl
and-false false = refl

-- the bits of a word that carry a field
field-bit : (word bit : ℕ) → bit < word_bits → bit_set (bit_and word 1610612735) bit ≡ carries_field word bit
field-bit word bit h = and_bit word 1610612735 bit ∙ ap (λ (t : Bool). bit_set word bit && t) (carrying_bits bit h)

-- behind a word with bit 29 set none of them stops a walk, behind one without it each does
module _ (before word : ℕ) where
  pub continues_none : bit_set before 29 ≡ true → Continues before word 0
  continues_none set = record {
    small = omega arith;
    strange =
        λ bit h.
        none-set bit
        ∙ sym (and-false (carries_field word bit))
        ∙ ap (λ (t : Bool). carries_field word bit && not t) (sym set);
  }

  pub continues_all : bit_set before 29 ≡ false → Continues before word (bit_and word 1610612735)
  continues_all clear = record {
    small = omega (arith, and_le_r word 1610612735);
    strange =
        λ bit h.
        field-bit word bit h
        ∙ sym (and_true (carries_field word bit))
        ∙ ap (λ (t : Bool). carries_field word bit && not t) (sym clear);
  }

module _ (word known : ℕ) where
  -- the bits of a word that carry a field, those of them that are known, and the others
  abbrev fields : ℕ
  fields = bit_and word 1610612735

  abbrev unknown : ℕ
  unknown = bit_xor fields (bit_and fields known)

  abbrev stop : ℕ
  stop = count_trailing_zeros word_bits unknown

  -- the first of the others stops a walk
  stops_first : StopsAt word known stop
  stops_first =
      record {
        below =
            λ bit h high carries.
            both_not (bit_set fields bit) (bit_set known bit)
            (sym (without_bit fields known bit) ∙ trailing_clear word_bits unknown bit h)
            (field-bit word bit high ∙ carries);
        carries = λ h. sym (field-bit word stop h) ∙ (set h).0;
        unknown = λ h. (set h).1;
        high = trailing_le word_bits unknown;
      }
    where
      set : stop < word_bits → (bit_set fields stop ≡ true) × (bit_set known stop ≡ false)
      set h = and_not_true (bit_set fields stop) (bit_set known stop) (sym (without_bit fields known stop) ∙ trailing_set word_bits unknown h)

  unknown-small : unknown < 2 ^ word_bits
  unknown-small =
      xor_lt word_bits fields (bit_and fields known) (omega (arith, and_le_r word 1610612735)) (omega (arith, and_le_r word 1610612735, and_le_l fields known))

  module _ (r : ℕ) (fits : r < 2 ^ word_bits) (wraps : (r + 1) % 2 ^ word_bits ≡ unknown) where
    below_ones : (bit : ℕ) → bit < stop → bit_set r bit ≡ true
    below_ones bit = go (dec_le 1 unknown)
      where
        go : Dec (1 ≤ unknown) → bit < stop → bit_set r bit ≡ true
        go (yes h) = low_ones word_bits unknown r 0 bit (omega (arith, unknown-small))
        go (no h) = low_ones word_bits unknown r 1 bit (omega (arith, unknown-small))

    -- below the first of the others all bits that carry a field are known
    shown_below : (bit : ℕ) → bit < stop → bit < word_bits → (t u : Bool) → bit_set fields bit ≡ t → bit_set known bit ≡ u → (t && u) ≡ t
    shown_below bit inside high true true e k = refl
    shown_below bit inside high true false e k =
        let known-here : bit_set known bit ≡ true = stops_first.below bit inside high (sym (field-bit word bit high) ∙ e) in
        let z : ◌≡◌ {A = ℕ} 0 1 = cc in
        absurd (omega arith)
    shown_below bit inside high false u e k = refl

    -- behind it, a bit that is known is none of the others, and so is not taken
    hidden_behind : (bit : ℕ) → stop ≤ bit → bit < word_bits → (t u v : Bool) → bit_set fields bit ≡ t → bit_set known bit ≡ u → bit_set r bit ≡ v
        → (t && u && v) ≡ false
    hidden_behind bit low high true true true e k taken =
        let other : bit_set unknown bit ≡ false = without_bit fields known bit ∙ ap₂ (λ (t : Bool) (u : Bool). t && not u) e k in
        let apart : stop ≡ bit → ⊥ = λ same. first_other bit high same other in
        let above : 1 ≤ unknown = set_above unknown (omega arith) in
        let stays : bit_set r bit ≡ bit_set unknown bit = high-stays word_bits unknown r bit (omega (arith, unknown-small)) (omega arith) (omega arith) in
        let z : ◌≡◌ {A = ℕ} 0 1 = cc in
        absurd (omega arith)
      where
        first_other : (bit : ℕ) → bit < word_bits → stop ≡ bit → bit_set unknown bit ≡ false → ⊥
        first_other bit high same clear =
            let set : bit_set unknown stop ≡ true = trailing_set word_bits unknown (omega arith) in
            let here : bit_set unknown stop ≡ false = ap (bit_set unknown) same ∙ clear in
            let z : ◌≡◌ {A = ℕ} 0 1 = cc in
            omega arith
    hidden_behind bit low high true true false e k taken = refl
    hidden_behind bit low high true false v e k taken = refl
    hidden_behind bit low high false u v e k taken = refl

    -- so what the word carries is shown below it, and it stops a walk
    carries_by_mask : Carries word known (bit_and (bit_and fields known) r) unknown
    carries_by_mask =
        record {
          small = unknown-small;
          strange = λ bit high. without_bit fields known bit ∙ ap (λ (t : Bool). t && not (bit_set known bit)) (field-bit word bit high);
          stops = stops_first;
          left = record {
            small = omega (arith, and_le_r (bit_and fields known) r);
            before = λ bit h. absurd (omega arith);
            behind = λ bit low inside high.
                taken bit
                ∙ ap (λ (t : Bool). (bit_set fields bit && bit_set known bit) && t) (below_ones bit inside)
                ∙ and_true (bit_set fields bit && bit_set known bit)
                ∙ shown_below bit inside high (bit_set fields bit) (bit_set known bit) refl refl
                ∙ field-bit word bit high;
            past = λ bit low high.
                taken bit
                ∙ and_assoc (bit_set fields bit) (bit_set known bit) (bit_set r bit)
                ∙ hidden_behind bit low high (bit_set fields bit) (bit_set known bit) (bit_set r bit) refl refl refl;
          };
        }
      where
        taken : (bit : ℕ) → bit_set (bit_and (bit_and fields known) r) bit ≡ ((bit_set fields bit && bit_set known bit) && bit_set r bit)
        taken bit = and_bit (bit_and fields known) r bit ∙ ap (λ (t : Bool). t && bit_set r bit) (and_bit fields known bit)

        and_assoc : (t u v : Bool) → ((t && u) && v) ≡ (t && u && v)
        and_assoc true u v = refl
        and_assoc false u v = refl

  -- and r is the number below the others, which wraps where there are none
  pub carries_all : Carries word known (bit_and (bit_and fields known) ((unknown + 4294967295) % 4294967296)) unknown
  carries_all = carries_by_mask ((unknown + 4294967295) % 4294967296) (omega arith) (omega (arith, unknown-small))

module _ {word stop from left : ℕ} (l : LeftFrom word stop from left) where
  -- the lowest bit left
  abbrev first : ℕ
  first = count_trailing_zeros word_bits left

  module _ (some : left ≡ 0 → ⊥) where
    pub first_small : first < word_bits
    first_small = trailing_below word_bits word_bits left (omega arith) (omega arith) l.small

    -- it is set, so it is not before those left, nor behind the one that stops a walk, and it carries a field
    first_not : (bit_set left first ≡ false) → ⊥
    first_not clear =
        let set : bit_set left first ≡ true = trailing_set word_bits left first_small in
        let z : ◌≡◌ {A = ℕ} 0 1 = cc in
        omega arith

    pub first_low : from ≤ first
    first_low = go (dec_le from first)
      where
        go : Dec (from ≤ first) → from ≤ first
        go (yes h) = h
        go (no h) = absurd (first_not (l.before first (omega arith)))

    pub first_below : first < stop
    first_below = go (dec_le stop first)
      where
        go : Dec (stop ≤ first) → first < stop
        go (yes h) = absurd (first_not (l.past first h first_small))
        go (no h) = omega arith

    pub first_carries : carries_field word first ≡ true
    first_carries = sym (l.behind first first_low first_below first_small) ∙ trailing_set word_bits left first_small

    -- none between does
    pub first_between : (bit : ℕ) → from ≤ bit → bit < first → carries_field word bit ≡ false
    first_between bit low high =
        sym (l.behind bit low (omega (arith, first_below)) (omega (arith, first_small))) ∙ trailing_clear word_bits left bit high

    -- without it, what is behind it is left
    pub left_next : LeftFrom word stop (first + 1) (bit_and left (left - 1))
    left_next = record {
      small = omega (arith, and_le_l left (left - 1), l.small);
      before = λ bit less. cleared_low word_bits left bit (omega (arith, first_small)) (omega arith);
      behind = λ bit low inside high. cleared_high word_bits left bit first_small (omega arith) ∙ l.behind bit (omega (arith, first_low)) inside high;
      past = λ bit low high. cleared_high word_bits left bit first_small (omega (arith, first_below)) ∙ l.past bit low high;
    }

  -- where nothing is left, no bit below the one that stops a walk carries a field
  pub left-none : left ≡ 0 → (bit : ℕ) → from ≤ bit → bit < stop → bit < word_bits → carries_field word bit ≡ false
  left-none none bit low inside high =
      sym (l.behind bit low inside high) ∙ ap (λ (n : ℕ). bit_set n bit) none ∙ none-set bit
