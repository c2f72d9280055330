-- When each answer of the readers and writers is given: the orders of specs/Orders.antt, test by test.
-- Assumes nothing.
use Prim.Native.Nat.{ℕ, ◌+◌, ◌-◌, ◌<◌}
use mathlib.Core.Path.{◌≡◌, refl, sym}
use mathlib.Core.Bool.{Bool, true, false, ◌&&◌}
use mathlib.Core.Logic.Iff
use mathlib.Core.Logic.{◌↔◌, ◌⊎◌, inl, inr}
use mathlib.Core.List.{List, [], ◌∷◌}
use native.Mathlib.Omega.{arith}
use lib.ListN.{length}
use lib.Dec.{leb, eqb}
use borrow.Author.Tests.{eqb-true, eq-eqb}
use Rattle.refusals.specs.Refusals.{Answer, refused, given, identification, version, datalink, short_record, included_length, short_packet, record_place}
use Rattle.refusals.proofs.Orders.{exactly, exactly-met, neither, other-number, not_refused, leb_fails, eqb_fails}
use Rattle.octets.specs.Numbers.{big, octets_at, number_at}
use Rattle.octets.specs.Parts.{has_room}
use Rattle.btsnoop_rules.specs.declared.Numbers.{Numbers}
use Rattle.btsnoop_rules.specs.Header.{header_length, identification_octets, version_number, served, same_octets, header_judged, header_at}
use Rattle.btsnoop_rules.specs.Record.{record_length, numbers_at, Found, whole, record_judged, record_placed, record_at}
use Rattle.btsnoop_rules.specs.Writing.{header_writing, record_writing}
use Rattle.btsnoop_rules.specs.Orders.{HeaderJudgedExactly, HeaderReadExactly, RecordJudgedExactly, RecordReadExactly, HeaderWritingExactly, RecordWritingExactly}

-- lists that the test finds the same are equal, and equal lists pass the test
pub same→eq : (xs ys : List ℕ) → same_octets xs ys ≡ true → xs ≡ ys
same→eq [] [] e = refl
same→eq [] (y ∷ ys) e = let z : ◌≡◌ {A = ℕ} 0 1 = cc in absurd (omega arith)
same→eq (x ∷ xs) [] e = let z : ◌≡◌ {A = ℕ} 0 1 = cc in absurd (omega arith)
same→eq (x ∷ xs) (y ∷ ys) e = go (same→eq xs ys) (eqb x y) refl e
  where
    go : (same_octets xs ys ≡ true → xs ≡ ys) → (t : Bool) → eqb x y ≡ t → (t && same_octets xs ys) ≡ true → x ∷ xs ≡ y ∷ ys
    go rest true q e = let h : x ≡ y = eqb-true x y q in let r : xs ≡ ys = rest e in cc
    go rest false q e = let z : ◌≡◌ {A = ℕ} 0 1 = cc in absurd (omega arith)

same_refl : (xs : List ℕ) → same_octets xs xs ≡ true
same_refl [] = refl
same_refl (x ∷ xs) = rw (eq-eqb x x refl, same_refl xs)

same_fails : (xs ys : List ℕ) → (same_octets xs ys ≡ false) ↔ (xs ≡ ys → ⊥)
same_fails xs ys = (λ e same. differ same e, λ h. unequal h (same_octets xs ys) refl)
  where
    differ : xs ≡ ys → same_octets xs ys ≡ false → ⊥
    differ same e = let s = same_refl xs in let z : ◌≡◌ {A = ℕ} 0 1 = cc in omega arith

    unequal : (xs ≡ ys → ⊥) → (t : Bool) → same_octets xs ys ≡ t → t ≡ false
    unequal h true e = absurd (h (same→eq xs ys e))
    unequal h false e = refl

-- a place fails the test where it is below the first record's or past the input's end
place_fails : (s : List ℕ) (p : ℕ) → (record_placed s p ≡ false) ↔ ((p < header_length) ⊎ (length s < p))
place_fails s p = go (leb header_length p) (leb p (length s)) (leb_fails header_length p) (leb_fails p (length s))
  where
    go : (t u : Bool) → ((t ≡ false) ↔ (p < header_length)) → ((u ≡ false) ↔ (length s < p))
        → ((t && u) ≡ false) ↔ ((p < header_length) ⊎ (length s < p))
    go true u f g = (λ e. inr (g.0 e), λ h. either h)
      where
        either : (p < header_length) ⊎ (length s < p) → u ≡ false
        either (inl h) = let e = f.1 h in let z : ◌≡◌ {A = ℕ} 0 1 = cc in absurd (omega arith)
        either (inr h) = g.1 h
    go false u f g = (λ e. inl (f.0 refl), λ h. refl)

pub header-judged-exactly : HeaderJudgedExactly
unfolding header_judged
header-judged-exactly s =
    let code : ℕ = number_at big 4 s 12 in
    exactly (same_octets (octets_at s 0 8) identification_octets) _ _ (same_fails (octets_at s 0 8) identification_octets)
    (neither (eqb (number_at big 4 s 8) version_number)
    (neither (served code) not_refused (other-number (λ e. omega arith)))
    (other-number (λ e. omega arith)))
    (exactly (eqb (number_at big 4 s 8) version_number) _ _ (eqb_fails (number_at big 4 s 8) version_number)
    (neither (served code) not_refused (other-number (λ e. omega arith)))
    (exactly (served code) (given code) (refused datalink 12) Iff.rfl not_refused refl))

-- whatever the judgement of a header's octets never gives
header-other : (s : List ℕ) {x : Answer ℕ} → (given (number_at big 4 s 12) ≡ x → ⊥) → (refused datalink 12 ≡ x → ⊥)
    → (refused version 8 ≡ x → ⊥) → (refused identification 0 ≡ x → ⊥) → header_judged s ≡ x → ⊥
unfolding header_judged
header-other s g d v i =
    neither (same_octets (octets_at s 0 8) identification_octets)
    (neither (eqb (number_at big 4 s 8) version_number) (neither (served (number_at big 4 s 12)) g d) v)
    i

pub header_read_exactly : HeaderReadExactly
unfolding header_at
header_read_exactly s =
    exactly (leb header_length (length s)) (header_judged s) _ (leb_fails header_length (length s))
    (header-other s not_refused (other-number (λ e. omega arith)) (other-number (λ e. omega arith)) (other-number (λ e. omega arith)))
    (header-judged-exactly s)

-- a header is never refused with 17
pub header_never_17 : (s : List ℕ) (q : ℕ) → header_at s ≡ refused record_place q → ⊥
unfolding header_at
header_never_17 s q =
    neither (leb header_length (length s))
    (header-other s not_refused (other-number (λ e. omega arith)) (other-number (λ e. omega arith)) (other-number (λ e. omega arith)))
    (other-number (λ e. omega arith))

pub record_judged-exactly : RecordJudgedExactly
unfolding record_judged
record_judged-exactly left p n =
    exactly (leb n.included n.original) _ _ (leb_fails n.included n.original)
    (neither (leb (record_length + n.included) left) not_refused (other-number (λ e. omega arith)))
    (exactly (leb (record_length + n.included) left) _ _ (leb_fails (record_length + n.included) left) not_refused refl)

module _ (left p : ℕ) (n : Numbers) where
  -- whatever the judgement of a record's numbers never gives
  judged-other : {x : Answer Found} → (given (whole n (p + record_length) (p + record_length + n.included)) ≡ x → ⊥)
      → (refused short_packet p ≡ x → ⊥) → (refused included_length (p + 4) ≡ x → ⊥) → record_judged left p n ≡ x → ⊥
  unfolding record_judged
  judged-other w s i = neither (leb n.included n.original) (neither (leb (record_length + n.included) left) w s) i

pub record_read_exactly : RecordReadExactly
unfolding record_at
record_read_exactly s p =
    let left : ℕ = length s - p in
    let n : Numbers = numbers_at s p in
    let number : (k : ℕ) → (k ≡ short_packet → ⊥) → (k ≡ included_length → ⊥) → record_judged left p n ≡ refused k p → ⊥ =
    λ k i j. judged-other left p n not_refused (other-number (λ e. i (sym e))) (other-number (λ e. j (sym e))) in
    exactly (record_placed s p) _ _ (place_fails s p)
    (neither (eqb p (length s)) not_refused
    (neither (leb record_length left) (number record_place (λ e. omega arith) (λ e. omega arith)) (other-number (λ e. omega arith))))
    (exactly-met (eqb p (length s)) _ _ (eqb-true p (length s), eq-eqb p (length s))
    (neither (leb record_length left)
    (judged-other left p n (λ e. let z : ◌≡◌ {A = ℕ} 0 1 = cc in omega arith) (λ e. not_refused (sym e)) (λ e. not_refused (sym e)))
    (λ e. not_refused (sym e)))
    (exactly (leb record_length left) _ _ (leb_fails record_length left)
    (number short_record (λ e. omega arith) (λ e. omega arith))
    (record_judged-exactly left p n)))

pub header-writing-exactly : HeaderWritingExactly
unfolding header_writing
header-writing-exactly size at code =
    exactly (served code) _ _ Iff.rfl (neither (has_room size at header_length) not_refused (other-number (λ e. omega arith)))
    (exactly (has_room size at header_length) _ _ (leb_fails (at + header_length) size) not_refused refl)

pub record_writing-exactly : RecordWritingExactly
unfolding record_writing
record_writing-exactly size at original packet =
    let long : ℕ = record_length + length packet in
    exactly (leb (length packet) original) _ _ (leb_fails (length packet) original)
    (neither (has_room size at long) not_refused (other-number (λ e. omega arith)))
    (exactly (has_room size at long) _ _ (leb_fails (at + long) size) not_refused refl)
