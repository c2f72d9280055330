-- Each answer of writing is given exactly when its condition holds: the presence word is judged bit by bit, then test by
-- test in their order each answer is shown with its condition, and each condition gives its answer. So 15 comes before all
-- else in reading and writing.
-- Assumes nothing.
use Prim.Native.Nat.{ℕ, zero, suc, ◌+◌, ◌≤◌, ◌<◌}
use mathlib.Core.Path.{◌≡◌, refl, ap, ◌∙◌, subst}
use mathlib.Core.Bool.{Bool, true, false, cond, ◌&&◌}
use mathlib.Core.Logic.{◌↔◌, ◌⊎◌, inl, inr}
use mathlib.Core.List.{List, [], ◌∷◌}
use native.Mathlib.Omega.{arith}
use native.Mathlib.Nat.{mod-eq_of_lt}
use native.Mathlib.Decide.{ℕ_discrete}
use lib.ListN.{length}
use borrow.Author.Tests.{leb-true, leb-false, eqb-true, eqb-false, le-leb, lt-leb, eq-eqb, ne_eqb}
use Rattle.refusals.specs.Refusals.{Answer, refused, given}
use Rattle.radiotap_rules.specs.Rules.{Rules, knows, edition_taken}
use Rattle.radiotap_rules.specs.Reading.{bit_set, word_bits, bit_at, Meaning, nothing, unknown_here, field, meaning, Reading, refused_before, reading, field_of}
use Rattle.radiotap_rules.specs.Answers.{summary, octets_of_field, frame_in, dbm_of, listed_into}
use Rattle.radiotap_rules.specs.Writing.{is_field, writable_at, writable_from, writable, writing, written}
use Rattle.radiotap_rules.specs.Orders.{read_above, UnknownSet, AllKnown, Writes, written_length, WriteRefused, write_above, at_unknown_bit, at_other_length, at_no_room, WriteExactly, EditionAbove}
use Rattle.radiotap_rules.proofs.Numbering.{number-alone}
use Rattle.radiotap_rules.proofs.Meanings.{present-alone, MeansSo, means_so}
use Rattle.radiotap_rules.proofs.Orders.{Told, told_refused, told_given, of_refused, of_given, either, before-exactly}

module _ (rules : Rules) (edition word : ℕ) where
  -- a bit that is judged: where it is set it is a field that the edition knows, or there is a set one that is not
  abbrev Judged : (bit : ℕ) → Bool → Type 0
  Judged bit true = bit_set word bit ≡ true → (bit ≤ 28) × (knows rules edition bit ≡ true)
  Judged bit false = UnknownSet rules edition word

  judged-set : (q : ℕ) → q < word_bits → bit_set word q ≡ true → Judged q (is_field (meaning rules edition (word ∷ []) q))
  judged-set q l set =
      go (meaning rules edition (word ∷ []) q)
      (subst (λ (n : ℕ). MeansSo rules edition (word ∷ []) q n (meaning rules edition (word ∷ []) q)) (number-alone word q l)
      (means_so rules edition (word ∷ []) q))
    where
      own : bit_at q ≡ q
      own = mod-eq_of_lt l

      high : 29 ≤ bit_at q → UnknownSet rules edition word
      high h = record { bit = q; inside = l; set = set; unknown = inl (omega arith) }

      none : (bit_at q ≡ 29) ⊎ (bit_at q ≡ 31) → UnknownSet rules edition word
      none (inl e) = high (omega arith)
      none (inr e) = high (omega arith)

      stop : (bit_at q ≡ 30) ⊎ ((bit_at q ≤ 28) × (knows rules edition q ≡ false)) → UnknownSet rules edition word
      stop (inl e) = high (omega arith)
      stop (inr h) = record { bit = q; inside = l; set = set; unknown = inr h.1 }

      go : (m : Meaning) → MeansSo rules edition (word ∷ []) q q m → Judged q (is_field m)
      go nothing h = none (h (present-alone word q l ∙ set))
      go unknown_here h = stop h.1
      go (field r) h = λ s. (subst (λ (b : ℕ). b ≤ 28) own h.1, h.2)

  judged_at : (q : ℕ) → q < word_bits → Judged q (writable_at rules edition word q)
  judged_at q l = go (bit_set word q) refl
    where
      go : (t : Bool) → bit_set word q ≡ t → Judged q (cond t (is_field (meaning rules edition (word ∷ []) q)) true)
      go true set = judged-set q l set
      go false clear = λ set. let z : ◌≡◌ {A = ℕ} 0 1 = cc in absurd (omega arith)

  -- the bits from one on, judged so
  abbrev JudgedFrom : (left q : ℕ) → Bool → Type 0
  JudgedFrom left q true = (bit : ℕ) → q ≤ bit → bit < q + left → Judged bit true
  JudgedFrom left q false = UnknownSet rules edition word

  judged-from : (left q : ℕ) → q + left ≤ word_bits → JudgedFrom left q (writable_from rules edition word left q)
  judged-from zero q l = λ bit low high. absurd (omega arith)
  judged-from (suc left) q l =
      both (writable_at rules edition word q) (writable_from rules edition word left (suc q)) (judged_at q (omega arith))
      (judged-from left (suc q) (omega arith))
    where
      both : (here rest : Bool) → Judged q here → JudgedFrom left (suc q) rest → JudgedFrom (suc left) q (here && rest)
      both true true h behind = λ bit low high. go bit low high (ℕ_discrete q bit)
        where
          go : (bit : ℕ) → q ≤ bit → bit < q + suc left → Dec (q ≡ bit) → Judged bit true
          go bit low high (yes e) = subst (λ (b : ℕ). Judged b true) e h
          go bit low high (no n) = behind bit (omega arith) (omega arith)
      both true false h behind = behind
      both false rest h behind = h

  judged-word : JudgedFrom word_bits 0 (writable rules edition word)
  unfolding writable
  judged-word = judged-from word_bits 0 (omega arith)

  -- a word with a bit that the edition doesn't know is not one of known bits
  known_or_not : AllKnown rules edition word → UnknownSet rules edition word → ⊥
  known_or_not known h = go (known h.bit h.inside h.set) h.unknown
    where
      go : (h.bit ≤ 28) × (knows rules edition h.bit ≡ true) → (29 ≤ h.bit) ⊎ (knows rules edition h.bit ≡ false) → ⊥
      go k (inl high) = omega (arith, k.0)
      go k (inr other) = let z : ◌≡◌ {A = ℕ} 0 1 = cc k.1 in omega arith

  -- a word can be written exactly when each set bit is a field that the edition knows
  pub writable-known : (writable rules edition word ≡ true) ↔ AllKnown rules edition word
  writable-known = (
    λ e bit inside. subst (JudgedFrom word_bits 0) e judged-word bit (omega arith) inside,
    λ known. to known (writable rules edition word) judged-word,
  )
    where
      to : AllKnown rules edition word → (t : Bool) → JudgedFrom word_bits 0 t → t ≡ true
      to known true h = refl
      to known false h = absurd (known_or_not known h)

  -- otherwise there is one that is not
  pub writable-unknown : (writable rules edition word ≡ false) ↔ UnknownSet rules edition word
  writable-unknown = (
    λ e. subst (JudgedFrom word_bits 0) e judged-word,
    λ h. to h (writable rules edition word) judged-word,
  )
    where
      to : UnknownSet rules edition word → (t : Bool) → JudgedFrom word_bits 0 t → t ≡ false
      to h true known = absurd (known_or_not (λ bit inside. known bit (omega arith) inside) h)
      to h false known = refl

module _ (rules : Rules) (size at edition word : ℕ) (values : List ℕ) where
  -- what writing takes the edition for
  abbrev taken : ℕ
  taken = edition_taken rules.writing_default edition

  -- acceptance: all tests pass
  abbrev Accepted : (next : ℕ) → Type 0
  Accepted next =
      Writes rules edition word values
      × (at + written_length rules edition word values ≤ size)
      × (at + written_length rules edition word values ≡ next)

  -- an answer of writing, with its condition
  abbrev WriteTold : Answer ℕ → Type 0
  WriteTold = Told (WriteRefused rules size at edition word values) Accepted

  write_told : WriteTold (writing rules size at edition word values)
  unfolding writing
  write_told =
      either WriteTold _ _ _
      (λ serves.
      let l : edition ≤ rules.newest = leb-true _ _ serves in
      either WriteTold _ _ _
      (λ known.
      let all : AllKnown rules taken word = (writable-known rules taken word).0 known in
      either WriteTold _ _ _
      (λ long.
      let w : Writes rules edition word values = record { served = l; known = all; long = eqb-true _ _ long } in
      either WriteTold _ _ _ (λ room. told_given (w, leb-true _ _ room, refl)) (λ few. told_refused (at_no_room w (leb-false _ _ few))))
      (λ other. told_refused (at_other_length l all (eqb-false _ _ other))))
      (λ unknown. told_refused (at_unknown_bit l ((writable-unknown rules taken word).0 unknown))))
      (λ above. told_refused (write_above (leb-false _ _ above)))

  -- and each condition gives its answer
  write_refused_lem : {number place : ℕ} → WriteRefused rules size at edition word values number place
      → writing rules size at edition word values ≡ refused number place
  unfolding writing
  write_refused_lem (write_above l) = rw (lt-leb edition rules.newest l)
  write_refused_lem (at_unknown_bit l h) = rw (le-leb edition rules.newest l, (writable-unknown rules taken word).1 h)
  write_refused_lem (at_other_length l known other) =
      rw (le-leb edition rules.newest l, (writable-known rules taken word).1 known, ne_eqb _ _ other)
  write_refused_lem (at_no_room h few) =
      rw (
        le-leb edition rules.newest h.served,
        (writable-known rules taken word).1 h.known,
        eq-eqb _ _ h.long,
        lt-leb (at + written_length rules edition word values) size few,
      )

  write_accepted : (next : ℕ) → Accepted next → writing rules size at edition word values ≡ given next
  unfolding writing
  write_accepted next h =
      rw (
        le-leb edition rules.newest h.0.served,
        (writable-known rules taken word).1 h.0.known,
        eq-eqb _ _ h.0.long,
        le-leb (at + written_length rules edition word values) size h.1,
        h.2,
      )

-- each answer of writing is given exactly when its condition holds
pub write_exactly : WriteExactly
write_exactly rules size at edition word values =
    record {
      accepted = λ next.
          (λ e. of_given (subst Holds e told), write_accepted rules size at edition word values next);
      refuses = λ number place.
          (λ e. of_refused (subst Holds e told), write_refused_lem rules size at edition word values);
    }
  where
    Holds : Answer ℕ → Type 0
    Holds = WriteTold rules size at edition word values

    told : Holds (writing rules size at edition word values)
    told = write_told rules size at edition word values

-- the output of a refused write is as it was
refused-output : (rules : Rules) (out : List ℕ) (at edition word : ℕ) (values : List ℕ) (number place : ℕ)
    → writing rules (length out) at edition word values ≡ refused number place → written rules out at edition word values ≡ out
unfolding written
refused-output rules out at edition word values number place e = rw e

-- an edition that is not served gives 15 at place 0 before all else
pub edition_above_lem : EditionAbove
edition_above_lem rules edition l =
    record {
      reads = reads;
      whole = λ s. ap (summary s) (reads s);
      numbered = λ s k. ap (λ (r : Reading). field_of r k) (reads s);
      octets = λ s k. ap (λ (r : Reading). octets_of_field (field_of r k)) (reads s);
      dbm = λ s k. ap (λ (r : Reading). dbm_of (field_of r k)) (reads s);
      frame = λ s. ap frame_in (reads s);
      listed = λ s out. ap (listed_into out) (reads s);
      writes = writes;
      output = λ out at word values. refused-output rules out at edition word values 15 0 (writes (length out) at word values);
    }
  where
    reads : (s : List ℕ) → reading rules edition s ≡ refused_before 15 0
    reads s = (before-exactly rules edition s 15 0).1 (read_above l)

    writes : (size at word : ℕ) (values : List ℕ) → writing rules size at edition word values ≡ refused 15 0
    writes size at word values = ((write_exactly rules size at edition word values).refuses 15 0).1 (write_above l)
