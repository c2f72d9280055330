-- Each refusal of reading, before the first field, and of writing is given exactly when its condition holds: test by test
-- in their order, each answer is shown with its condition, and each condition gives its answer.
-- Assumes nothing.
use Prim.Native.Nat.{ℕ, ◌≤◌, ◌<◌}
use mathlib.Core.Path.{◌≡◌, refl, sym, ap, ◌∙◌, subst, subst₂}
use mathlib.Core.Bool.{Bool, true, false, cond, ◌&&◌, and-eq-true_iff, and-false}
use mathlib.Core.Logic.{◌⊎◌, inl, inr}
use mathlib.Core.List.{List}
use native.Mathlib.Omega.{arith}
use lib.ListN.{length, get_or}
use lib.Dec.{leb}
use borrow.Author.Tests.{leb-true, leb-false, ltb-true, ltb-false, eqb-true, eqb-false, le-leb, lt-leb, lt-ltb, le-ltb, ne_eqb}
use Rattle.refusals.specs.Refusals.{Answer, refused, given}
use Rattle.radiotap_rules.specs.Rules.{Rules, edition_taken, served}
use Rattle.radiotap_rules.specs.Reading.{fixed_length, length_in, fixed_header, presence_words, Walk, refused_at, shown, Reading, refused_before, refused_at_field, read, read_fixed, read_words, read_walk, fields_of, reading}
use Rattle.radiotap_rules.specs.Words.{Exactly}
use Rattle.radiotap_rules.specs.Orders.{FixedHeader, FixedRefused, too_short, other_version, wrong_length, FixedExactly, BeforeFields, read_above, at_fixed_header, at_ninth_word, at_word_past, BeforeExactly}
use Rattle.radiotap_rules.proofs.Walks.{served_reads, unserved_refused}
use Rattle.radiotap_rules.proofs.Words.{words-exactly}

-- an answer with its condition: a refusal's by number and place, a value's by the value
pub data Told {A : Type 0} (R : ℕ → ℕ → Type 0) (G : A → Type 0) : Answer A → Type 0 where
  told_refused : {number place : ℕ} → R number place → Told R G (refused number place)
  told_given : {a : A} → G a → Told R G (given a)

pub of_refused : {A : Type 0} {R : ℕ → ℕ → Type 0} {G : A → Type 0} {number place : ℕ} → Told R G (refused number place) → R number place
of_refused (told_refused h) = h

pub of_given : {A : Type 0} {R : ℕ → ℕ → Type 0} {G : A → Type 0} {a : A} → Told R G (given a) → G a
of_given (told_given h) = h

-- what is chosen by a test, either way
pub either : {A : Type 0} (P : A → Type 0) (t : Bool) (x y : A) → (t ≡ true → P x) → (t ≡ false → P y) → P (cond t x y)
either P true x y passed failed = passed refl
either P false x y passed failed = failed refl

-- one of two tests that do not both pass
one_fails : (a b : Bool) → (a && b) ≡ false → (a ≡ false) ⊎ (b ≡ false)
one_fails true b e = inr e
one_fails false b e = inl refl

-- an answer of the fixed header, with its condition
abbrev FixedTold : List ℕ → Answer ℕ → Type 0
FixedTold s = Told (FixedRefused s) (FixedHeader s)

fixed_told : (s : List ℕ) → FixedTold s (fixed_header s)
unfolding fixed_header
fixed_told s =
    either (FixedTold s) _ _ _ (λ short. told_refused (too_short (ltb-true _ _ short)))
    (λ long.
    either (FixedTold s) _ _ _
    (λ version. either (FixedTold s) _ _ _ (inside (eqb-true _ _ version)) (outside (ltb-false _ _ long) (eqb-true _ _ version)))
    (λ other. told_refused (other_version (ltb-false _ _ long) (eqb-false _ _ other))))
  where
    inside : get_or s 0 0 ≡ 0 → (leb fixed_length (length_in s) && leb (length_in s) (length s)) ≡ true → FixedTold s (given (length_in s))
    inside version e =
        let both = (and-eq-true_iff (leb fixed_length (length_in s)) (leb (length_in s) (length s))).0 e in
        told_given (record { version = version; told = refl; least = leb-true _ _ both.0; inside = leb-true _ _ both.1 })

    outside : 8 ≤ length s → get_or s 0 0 ≡ 0 → (leb fixed_length (length_in s) && leb (length_in s) (length s)) ≡ false
        → FixedTold s (refused 9 2)
    outside long version e = told_refused (wrong_length long version (go (one_fails _ _ e)))
      where
        go : (leb fixed_length (length_in s) ≡ false) ⊎ (leb (length_in s) (length s) ≡ false) → (length_in s < 8) ⊎ (length s < length_in s)
        go (inl low) = inl (leb-false _ _ low)
        go (inr high) = inr (leb-false _ _ high)

-- and each condition gives its answer
fixed_accepted : (s : List ℕ) (size : ℕ) → FixedHeader s size → fixed_header s ≡ given size
unfolding fixed_header
fixed_accepted s size h =
    rw (
      le-ltb (length s) fixed_length (omega (arith, h.least, h.inside)),
      h.version,
      h.told,
      le-leb fixed_length size h.least,
      le-leb size (length s) h.inside,
    )

fixed_refused : (s : List ℕ) {number place : ℕ} → FixedRefused s number place → fixed_header s ≡ refused number place
unfolding fixed_header
fixed_refused s (too_short l) = rw (lt-ltb (length s) fixed_length l)
fixed_refused s (other_version long other) = rw (le-ltb (length s) fixed_length long, ne_eqb (get_or s 0 0) 0 other)
fixed_refused s (wrong_length long version (inl l)) =
    rw (le-ltb (length s) fixed_length long, version, lt-leb fixed_length (length_in s) l)
fixed_refused s (wrong_length long version (inr l)) =
    rw (le-ltb (length s) fixed_length long, version, lt-leb (length_in s) (length s) l, and-false (leb fixed_length (length_in s)))

pub fixed_exactly : FixedExactly
fixed_exactly s =
    record {
      accepted = λ size. (λ e. of_given (subst (FixedTold s) e (fixed_told s)), fixed_accepted s size);
      refuses = λ number place. (λ e. of_refused (subst (FixedTold s) e (fixed_told s)), fixed_refused s);
    }

module _ (rules : Rules) (edition : ℕ) (s : List ℕ) where
  -- an answer of the presence words behind a fixed header that is accepted, with its condition
  words-before : edition ≤ rules.newest → (size : ℕ) → FixedHeader s size → (number place : ℕ)
      → presence_words s size ≡ refused number place → BeforeFields rules edition s number place
  words-before l size h number place e = go (answers.no_other number place e)
    where
      answers : Exactly s size
      answers = words-exactly s size h.least

      go : (place ≡ 4) × ((number ≡ 11) ⊎ (number ≡ 10)) → BeforeFields rules edition s number place
      go (four, inl eleven) =
          subst₂ (BeforeFields rules edition s) (sym eleven) (sym four)
          (at_ninth_word l h (answers.ninth.0 (subst₂ (λ (n q : ℕ). presence_words s size ≡ refused n q) eleven four e)))
      go (four, inr ten) =
          subst₂ (BeforeFields rules edition s) (sym ten) (sym four)
          (at_word_past l h (answers.past.0 (subst₂ (λ (n q : ℕ). presence_words s size ≡ refused n q) ten four e)))

  -- a reading that is refused before the first field, with its condition
  abbrev ReadTold : Reading → Type 0
  ReadTold (refused_before number place) = BeforeFields rules edition s number place
  ReadTold (refused_at_field word bit place) = Unit {0}
  ReadTold (read fs e frame) = Unit {0}

  read_told : ReadTold (reading rules edition s)
  read_told = on_edition (served rules edition) refl
    where
      taken : ℕ
      taken = edition_taken rules.reading_default edition

      on_walk : (size : ℕ) (x : Walk) → ReadTold (read_walk s size x)
      on_walk size (refused_at word bit place) = tt
      on_walk size (shown fs e) = tt

      on_words : edition ≤ rules.newest → (size : ℕ) → FixedHeader s size → (x : Answer (List ℕ)) → presence_words s size ≡ x
          → ReadTold (read_words rules taken s size x)
      on_words l size h (refused number place) e = words-before l size h number place e
      on_words l size h (given ws) e = on_walk size (fields_of rules taken s size ws)

      on_fixed : edition ≤ rules.newest → (x : Answer ℕ) → FixedTold s x → ReadTold (read_fixed rules taken s x)
      on_fixed l (refused number place) (told_refused h) = at_fixed_header l h
      on_fixed l (given size) (told_given h) = on_words l size h (presence_words s size) refl

      on_edition : (t : Bool) → served rules edition ≡ t → ReadTold (reading rules edition s)
      on_edition true e =
          subst ReadTold (sym (served_reads rules edition s e)) (on_fixed (leb-true _ _ e) (fixed_header s) (fixed_told s))
      on_edition false e = subst ReadTold (sym (unserved_refused rules edition s e)) (read_above (leb-false _ _ e))

  -- and each condition gives its refusal
  module _ (l : edition ≤ rules.newest) where
    read_fixed_lem : (x : Answer ℕ) → fixed_header s ≡ x
        → reading rules edition s ≡ read_fixed rules (edition_taken rules.reading_default edition) s x
    read_fixed_lem x e =
        served_reads rules edition s (le-leb edition rules.newest l)
        ∙ ap (read_fixed rules (edition_taken rules.reading_default edition) s) e

    read_words_lem : (size : ℕ) → FixedHeader s size → (x : Answer (List ℕ)) → presence_words s size ≡ x
        → reading rules edition s ≡ read_words rules (edition_taken rules.reading_default edition) s size x
    read_words_lem size h x e =
        read_fixed_lem (given size) (fixed_accepted s size h)
        ∙ ap (read_words rules (edition_taken rules.reading_default edition) s size) e

  read_refused : {number place : ℕ} → BeforeFields rules edition s number place → reading rules edition s ≡ refused_before number place
  read_refused (read_above l) = unserved_refused rules edition s (lt-leb edition rules.newest l)
  read_refused (at_fixed_header {number} {place} l h) = read_fixed_lem l (refused number place) (fixed_refused s h)
  read_refused (at_ninth_word {size} l h calls) = read_words_lem l size h (refused 11 4) ((words-exactly s size h.least).ninth.1 calls)
  read_refused (at_word_past {size} l h calls) = read_words_lem l size h (refused 10 4) ((words-exactly s size h.least).past.1 calls)

-- each refusal before the first field is given exactly when its condition holds
pub before-exactly : BeforeExactly
before-exactly rules edition s number place = (
  λ e. subst (ReadTold rules edition s) e (read_told rules edition s),
  read_refused rules edition s,
)
