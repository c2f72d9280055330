-- What a walk that keeps the field of a number has found so far, and what the field kept is of the reading.
-- Assumes nothing.
use Prim.Native.Nat.{ℕ, suc, ◌+◌, ◌-◌, ◌≤◌, ◌<◌}
use mathlib.Core.Path.{◌≡◌, refl, sym, ap, ap₂, ◌∙◌, subst}
use mathlib.Core.Bool.{Bool, cond}
use mathlib.Core.List.{List, [], ◌∷◌}
use Rattle.std.specs.Prelude.{Option, Some, None}
use native.Mathlib.Omega.{arith}
use native.Mathlib.Decide.{dec_le}
use lib.ListN.{length}
use lib.Dec.{ltb, eqb}
use borrow.Author.Tests.{lt-ltb, le-ltb, eq-eqb, ne_eqb}
use Rattle.octets.proofs.PartLaws.{length_part}
use Rattle.radiotap_rules.specs.declared.Cursor.{Cursor}
use Rattle.radiotap_rules.specs.Rules.{Rules}
use Rattle.radiotap_rules.specs.Reading.{presence_words, Field, Ending, Reading, refused_before, refused_at_field, read, read_words, refused_field, the_field, no_field, nth, field_of}
use Rattle.radiotap_rules.specs.Steps.{refused_step, over, met, step_of}
use Rattle.radiotap_rules.proofs.Steps.{positions_left, next_behind}
use Rattle.radiotap.specs.Outcomes.{shown_outcome, none_kept, kept_from, outcome}
use Rattle.radiotap.proofs.WalkLaws.{SoFar, refuses, finishes, passes}
use Rattle.radiotap_field.specs.declared.Shown.{Shown}
use Rattle.radiotap_field.specs.declared.FieldAnswer.{FieldAnswer}
use Rattle.radiotap_field.specs.Says.{shown_of, answer_of, AnswerSized}
use Rattle.radiotap_field.specs.Keeping.{kept_or, numbered_as}

-- the field that a walk keeps; all numbers 0 where it keeps none
abbrev pub kept_of : List ℕ → Option Shown → Field
kept_of s None = none_kept
kept_of s (Some f) = shown_of s f

-- it keeps the field of the number as soon as it is met, and that lies inside the input
abbrev pub KeptOf : List ℕ → (number fields : ℕ) → Option Shown → Type 0
KeptOf s number fields None = fields ≤ number
KeptOf s number fields (Some f) = (number < fields) × (f.start + f.size ≤ length s)

-- past a field of another number it keeps what it kept
pub still-kept : (s : List ℕ) (number : ℕ) {fields : ℕ} (kept : Option Shown) → (fields ≡ number → ⊥) → KeptOf s number fields kept
    → KeptOf s number (fields + 1) kept
still-kept s number None other of = omega (arith, other, of)
still-kept s number (Some f) other of = (omega (arith, of.0), of.1)

-- a step that meets a field
module _ (rules : Rules) (edition : ℕ) (s : List ℕ) (number : ℕ) {size : ℕ} {c : Cursor} {fields : ℕ} {kept : Field}
    (f : SoFar rules edition s size number c fields kept) {g : Field} {c' : Cursor} (h : step_of rules edition s c ≡ met g c') where
  -- leaves fewer positions
  pub nearer : positions_left c' < positions_left c
  nearer =
      let m = next_behind rules edition s size f.ws f.words c f.stands g c' h in
      omega (arith, m.after, m.within, m.words, f.stands.position)

  -- a field that ends where the cursor behind it is free lies inside the input
  pub shown_inside : (start n : ℕ) → size ≤ length s → c'.at ≡ start + n → start + n ≤ length s
  shown_inside start n input e =
      let m = next_behind rules edition s size f.ws f.words c f.stands g c' h in
      omega (arith, m.inside, f.same, input, e)

  -- the field of the number is kept
  pub keeps : fields ≡ number → SoFar rules edition s size number c' (fields + 1) g
  keeps e =
      subst (SoFar rules edition s size number c' (fields + 1))
      (ap (λ (t : Bool). cond t g kept) (eq-eqb fields number e)) (passes rules edition s number f h)

  -- any other is only counted
  pub leaves : (fields ≡ number → ⊥) → SoFar rules edition s size number c' (fields + 1) kept
  leaves e =
      subst (SoFar rules edition s size number c' (fields + 1))
      (ap (λ (t : Bool). cond t g kept) (ne_eqb fields number e)) (passes rules edition s number f h)

-- a number below those shown has the field that was kept, any other the ending
module _ (number fields : ℕ) (e : Ending) (kept : Field) where
  numbered-shown : number < fields → numbered_as number (shown_outcome fields e kept) ≡ the_field kept
  numbered-shown h = ap (λ (t : Bool). cond t (the_field kept) (no_field e)) (lt-ltb number fields h)

  numbered_past : fields ≤ number → numbered_as number (shown_outcome fields e kept) ≡ no_field e
  numbered_past h = ap (λ (t : Bool). cond t (the_field kept) (no_field e)) (le-ltb number fields h)

-- past its number nothing more is kept
kept_past : (n k : ℕ) (kept : Field) (fs : List Field) → k < n → kept_from n kept k fs ≡ kept
kept_past n k kept [] h = refl
kept_past n k kept (f ∷ fs) h =
    ap (λ (t : Bool). kept_from (n + 1) (cond t f kept) k fs) (ne_eqb n k (λ e. omega (arith, e)))
    ∙ kept_past (n + 1) k kept fs (omega arith)

-- the field that is kept is the one of the number, where there is one
kept-nth : (n k : ℕ) (kept : Field) (fs : List Field) (e : Ending) → n ≤ k
    → cond (ltb k (n + length fs)) (the_field (kept_from n kept k fs)) (no_field e) ≡ nth fs e (k - n)
kept-nth n k kept [] e h = ap (λ (t : Bool). cond t (the_field kept) (no_field e)) (le-ltb k (n + 0) (omega arith))
kept-nth n k kept (f ∷ fs) e h = go (dec_le (suc n) k) (λ l. kept-nth (n + 1) k kept fs e l)
  where
    go : Dec (suc n ≤ k) → (n + 1 ≤ k → cond (ltb k (n + 1 + length fs)) (the_field (kept_from (n + 1) kept k fs)) (no_field e) ≡ nth fs e (k - (n + 1)))
        → cond (ltb k (n + suc (length fs))) (the_field (kept_from (n + 1) (cond (eqb n k) f kept) k fs)) (no_field e) ≡ nth (f ∷ fs) e (k - n)
    go (yes l) further =
        let rest : k - n ≡ suc (k - (n + 1)) = omega arith in
        let long : n + suc (length fs) ≡ n + 1 + length fs = omega arith in
        ap₂ (λ (m : ℕ) (t : Bool). cond (ltb k m) (the_field (kept_from (n + 1) (cond t f kept) k fs)) (no_field e)) long (ne_eqb n k (λ e. omega (arith, e)))
        ∙ further (omega arith)
        ∙ sym (ap (nth (f ∷ fs) e) rest)
    go (no l) further =
        let same : n ≡ k = omega arith in
        let rest : k - n ≡ 0 = omega arith in
        ap₂ (λ (t u : Bool). cond t (the_field (kept_from (n + 1) (cond u f kept) k fs)) (no_field e)) (lt-ltb k (n + suc (length fs)) (omega arith)) (eq-eqb n k same)
        ∙ ap the_field (kept_past (n + 1) k f fs (omega arith))
        ∙ sym (ap (nth (f ∷ fs) e) rest)

-- the answer to a field number by what the walk that kept it leaves
number-left : (k : ℕ) (x : Reading) → numbered_as k (outcome k x) ≡ field_of x k
number-left k (refused_before n p) = refl
number-left k (refused_at_field w b p) = refl
number-left k (read fs e frame) =
    let all : k - 0 ≡ k = omega arith in
    kept-nth 0 k none_kept fs e (omega arith) ∙ ap (nth fs e) all

module _ (rules : Rules) (edition : ℕ) (s : List ℕ) (number : ℕ) {size : ℕ} {c : Cursor} {fields : ℕ} where
  -- a walk that is refused answers so
  pub refused-number : {kept : Field} → SoFar rules edition s size number c fields kept → {n p : ℕ} → step_of rules edition s c ≡ refused_step n p
      → refused_field n p ≡ field_of (read_words rules edition s size (presence_words s size)) number
  refused-number f step =
      ap (numbered_as number) (sym (refuses rules edition s number f step))
      ∙ number-left number (read_words rules edition s size (presence_words s size))

  -- and one that ends by the field that it kept, or its ending where it kept none
  pub over-number : (kept : Option Shown) → SoFar rules edition s size number c fields (kept_of s kept) → KeptOf s number fields kept
      → {e : Ending} → step_of rules edition s c ≡ over e → (otherwise : FieldAnswer) → answer_of s otherwise ≡ no_field e → AnswerSized s otherwise
      → (answer_of s (kept_or kept otherwise) ≡ field_of (read_words rules edition s size (presence_words s size)) number)
      × AnswerSized s (kept_or kept otherwise)
  over-number kept f of {e} step otherwise says sized = (
    by kept of
        ∙ ap (numbered_as number) (sym (finishes rules edition s number f step))
        ∙ number-left number (read_words rules edition s size (presence_words s size)),
    long kept of,
  )
    where
      by : (kept : Option Shown) → KeptOf s number fields kept
          → answer_of s (kept_or kept otherwise) ≡ numbered_as number (shown_outcome fields e (kept_of s kept))
      by None of = says ∙ sym (numbered_past number fields e none_kept of)
      by (Some g) of = sym (numbered-shown number fields e (shown_of s g) of.0)

      long : (kept : Option Shown) → KeptOf s number fields kept → AnswerSized s (kept_or kept otherwise)
      long None of = sized
      long (Some g) of = length_part s g.start g.size of.1
