-- What a walk over all fields has found so far, and how each step carries it on or ends it.
-- Assumes nothing.
use Prim.Native.Nat.{ℕ, suc, ◌+◌, ◌*◌, ◌≤◌}
use mathlib.Core.Path.{◌≡◌, refl, sym, ap, ◌∙◌}
use mathlib.Core.Bool.{cond}
use mathlib.Core.List.{List}
use native.Mathlib.Omega.{arith}
use native.Mathlib.Nat.{add-zero}
use lib.ListN.{length}
use lib.Dec.{eqb}
use Rattle.refusals.specs.Refusals.{Answer, given}
use Rattle.radiotap_rules.specs.declared.Head.{Head}
use Rattle.radiotap_rules.specs.declared.Cursor.{Cursor}
use Rattle.radiotap_rules.specs.Rules.{Rules}
use Rattle.radiotap_rules.specs.Reading.{most_words, word_bits, presence_words, Field, Ending, Walk, refused_at, shown, with_field, read_walk, read_words}
use Rattle.radiotap_rules.specs.Steps.{head_at, first_cursor, refused_step, over, met, step_of}
use Rattle.radiotap_rules.proofs.Places.{length-told}
use Rattle.radiotap_rules.proofs.Words.{words-few}
use Rattle.radiotap_rules.proofs.Steps.{Stands, walk_from, walk-refuses, walk_ends, next_behind, stands_next, walk_next, headed, stands_first, walk_first}
use Rattle.radiotap.specs.Outcomes.{Outcome, refused_outcome, shown_outcome, none_kept, kept_from, outcome_from, outcome}

-- what the walk behind a head leaves
abbrev pub whole : Rules → (edition : ℕ) → List ℕ → (size number : ℕ) → Outcome
whole rules edition s size number = outcome number (read_words rules edition s size (presence_words s size))

-- the whole outcome is what was found so far and the outcome of the walk from the cursor on
pub record SoFar (rules : Rules) (edition : ℕ) (s : List ℕ) (size number : ℕ) (c : Cursor) (fields : ℕ) (kept : Field) : Type 0 where
  pub ws : List ℕ
  pub words : presence_words s size ≡ given ws
  pub stands : Stands s ws c
  pub same : c.size ≡ size
  pub few : fields ≤ c.position
  pub answer : whole rules edition s size number ≡ outcome_from fields kept number (read_walk s size (walk_from rules edition s ws c))

module _ (rules : Rules) (edition : ℕ) (s : List ℕ) (number : ℕ) where
  -- before the first field nothing is kept
  pub begins : (h : Head) → head_at s ≡ given h → SoFar rules edition s h.size number (first_cursor h) 0 none_kept
  begins h e =
      let there = headed s h e in
      record {
        ws = there.ws;
        words = there.words;
        stands = stands_first s h there;
        same = refl;
        few = omega arith;
        answer =
            ap (λ (x : Answer (List ℕ)). outcome number (read_words rules edition s h.size x)) there.words
            ∙ ap (λ (x : Walk). outcome number (read_walk s h.size x)) (walk_first s h there rules edition);
      }

  -- a field is counted, and kept where it has the number
  counted : (size fields : ℕ) (kept f : Field) (x : Walk)
      → outcome_from fields kept number (read_walk s size (with_field f x))
      ≡ outcome_from (fields + 1) (cond (eqb fields number) f kept) number (read_walk s size x)
  counted size fields kept f (refused_at w b p) = refl
  counted size fields kept f (shown fs e) =
      let long : fields + suc (length fs) ≡ fields + 1 + length fs = omega arith in
      ap (λ (k : ℕ). shown_outcome k e (kept_from (fields + 1) (cond (eqb fields number) f kept) number fs)) long

  module _ {size : ℕ} {c : Cursor} {fields : ℕ} {kept : Field} (f : SoFar rules edition s size number c fields kept) where
    -- there are at most as many fields as positions
    pub countable : fields ≤ word_bits * most_words
    countable =
        let few = (words-few s size f.ws f.words).1 in
        omega (arith, f.few, f.stands.position, f.stands.count, few)

    pub refuses : {n p : ℕ} → step_of rules edition s c ≡ refused_step n p → whole rules edition s size number ≡ refused_outcome n p
    refuses {n} {p} e =
        let by = walk-refuses rules edition s size f.ws f.words c f.stands n p e in
        f.answer
        ∙ ap (λ (x : Walk). outcome_from fields kept number (read_walk s size x)) by.refusal
        ∙ ap (λ (k : ℕ). refused_outcome k p) (sym by.twelve)

    pub finishes : {e : Ending} → step_of rules edition s c ≡ over e → whole rules edition s size number ≡ shown_outcome fields e kept
    finishes {e} h =
        f.answer
        ∙ ap (λ (x : Walk). outcome_from fields kept number (read_walk s size x)) (walk_ends rules edition s size f.ws f.words c f.stands e h)
        ∙ ap (λ (k : ℕ). shown_outcome k e kept) (add-zero fields)

    pub passes : {g : Field} {c' : Cursor} → step_of rules edition s c ≡ met g c'
        → SoFar rules edition s size number c' (fields + 1) (cond (eqb fields number) g kept)
    passes {g} {c'} h =
        let m = next_behind rules edition s size f.ws f.words c f.stands g c' h in
        record {
          ws = f.ws;
          words = f.words;
          stands = stands_next rules edition s size f.ws f.words c f.stands g c' h;
          same = m.size ∙ f.same;
          few = omega (arith, f.few, m.after);
          answer =
              f.answer
              ∙ ap (λ (x : Walk). outcome_from fields kept number (read_walk s size x)) (walk_next rules edition s size f.ws f.words c f.stands g c' h)
              ∙ counted size fields kept g (walk_from rules edition s f.ws c');
        }

-- the length of a head that is given is inside the input
pub head_inside : (s : List ℕ) (h : Head) → head_at s ≡ given h → h.size ≤ length s
head_inside s h e = (length-told s h.size (headed s h e).header).inside
