-- What a survey has found so far, and how each answer of the record reader carries it on.
-- Assumes nothing.
use Prim.Native.Nat.{ℕ, suc, ◌+◌, ◌-◌, ◌≤◌, ◌<◌}
use mathlib.Core.Path.{◌≡◌, refl, sym, ap, ◌∙◌}
use mathlib.Core.Logic.{inl, inr}
use mathlib.Core.List.{List}
use native.Mathlib.Omega.{arith}
use native.Mathlib.Nat.{add-zero, zero-add, add-suc}
use lib.ListN.{length}
use Rattle.refusals.specs.Refusals.{Answer, refused, given, record_place}
use Rattle.tiling.specs.Tiling.{Next, Walk, stop, ended, more, broken, items, ending, used, onward, walk, Survey, survey_of}
use Rattle.tiling.proofs.Walks.{survey-from}
use Rattle.btsnoop_rules.specs.declared.Numbers.{Numbers}
use Rattle.btsnoop_rules.specs.Header.{header_length, header_at}
use Rattle.btsnoop_rules.specs.Record.{Found, end, whole, Record, record_at, step_on, record_step}
use Rattle.btsnoop_rules.specs.File.{survey_at, file_walk, file_of, behind, file_at}
use Rattle.btsnoop_rules.proofs.HeaderLaws.{header-long}
use Rattle.btsnoop_rules.proofs.Files.{forward}

-- a survey with so many records counted before it
abbrev pub counted : ℕ → Survey → Survey
counted c v = record { count = c + v.count; ending = v.ending }

-- the whole survey is what was counted so far, and the survey of what is left from the place reached
pub record SoFar (s : List ℕ) (place number reached count : ℕ) : Type 0 where
  pub low : header_length ≤ reached
  pub high : reached ≤ length s
  pub few : count ≤ number
  pub answer : survey_at s place number ≡ counted count (survey_of (walk (record_step s) (number - count) reached))

module _ (s : List ℕ) (place number : ℕ) where
  pub below : place < header_length → survey_at s place number ≡ record { count = 0; ending = broken record_place place }
  unfolding survey_at
  below h = (survey-from header_length (length s) (record_step s) number place).outside (inl h)

  pub past : header_length ≤ place → length s < place → survey_at s place number ≡ record { count = 0; ending = broken record_place place }
  unfolding survey_at
  past l h = (survey-from header_length (length s) (record_step s) number place).outside (inr h)

  pub start : header_length ≤ place → place ≤ length s → SoFar s place number place 0
  unfolding survey_at
  start l h =
      record {
        low = l;
        high = h;
        few = omega arith;
        answer =
            (survey-from header_length (length s) (record_step s) number place).inside l h
            ∙ sym
            (ap (λ (k : ℕ). counted 0 (survey_of (walk (record_step s) k place))) all
            ∙ ap (λ (k : ℕ). record { count = k; ending = ending (walk (record_step s) number place) }) (zero-add (length (items (walk (record_step s) number place)))));
      }
    where
      all : number - 0 ≡ number
      all = omega arith

  module _ {reached count : ℕ} (f : SoFar s place number reached count) where
    -- with a record left to pass, the walk goes by what stands at the place reached
    turn : count < number → walk (record_step s) (number - count) reached
        ≡ onward reached (walk (record_step s) (number - (count + 1))) (record_step s reached)
    turn h =
        let e : number - count ≡ suc (number - (count + 1)) = omega arith in
        ap (λ (k : ℕ). walk (record_step s) k reached) e

    pub refuses : {n q : ℕ} → count < number → record_at s reached ≡ refused n q
        → survey_at s place number ≡ record { count = count; ending = broken n q }
    refuses {n} {q} h e =
        f.answer
        ∙ ap (λ (w : Walk Record). counted count (survey_of w)) (turn h ∙ ap (λ (a : Answer Found). onward reached (walk (record_step s) (number - (count + 1))) (step_on s a)) e)
        ∙ ap (λ (k : ℕ). record { count = k; ending = broken n q }) (add-zero count)

    pub ends : count < number → record_at s reached ≡ given end
        → survey_at s place number ≡ record { count = count; ending = ended reached }
    ends h e =
        f.answer
        ∙ ap (λ (w : Walk Record). counted count (survey_of w)) (turn h ∙ ap (λ (a : Answer Found). onward reached (walk (record_step s) (number - (count + 1))) (step_on s a)) e)
        ∙ ap (λ (k : ℕ). record { count = k; ending = ended reached }) (add-zero count)

    pub passes : {n : Numbers} {k q : ℕ} → count < number → record_at s reached ≡ given (whole n k q)
        → SoFar s place number q (count + 1)
    passes {n} {k} {q} h e =
        let rest = walk (record_step s) (number - (count + 1)) q in
        let found = ap (step_on s) e in
        let after : reached < q = (forward s).onward found in
        record {
          low = omega (arith, f.low);
          high = (forward s).inside found;
          few = omega arith;
          answer =
              f.answer
              ∙ ap (λ (w : Walk Record). counted count (survey_of w)) (turn h ∙ ap (λ (a : Answer (Next Record)). onward reached (walk (record_step s) (number - (count + 1))) a) found)
              ∙ ap (λ (j : ℕ). record { count = j; ending = ending rest }) (add-suc count (length (items rest)) ∙ omega arith);
        }

    -- with no record left to pass, as many were counted as may be
    all_counted : number ≤ count → count + 0 ≡ number
    all_counted h = omega (arith, f.few)

    -- then it is the end, or "more"
    finish : number ≤ count → walk (record_step s) (number - count) reached ≡ used reached (record_step s reached)
    finish h =
        let e : number - count ≡ 0 = omega arith in
        ap (λ (k : ℕ). walk (record_step s) k reached) e

    pub finished : number ≤ count → reached ≡ length s → survey_at s place number ≡ record { count = number; ending = ended reached }
    finished h e =
        let at_end : record_step s reached ≡ given Next.end = ap (record_step s) e ∙ (forward s).at_end (omega (arith, f.low)) in
        f.answer
        ∙ ap (λ (w : Walk Record). counted count (survey_of w)) (finish h ∙ ap (used reached) at_end)
        ∙ ap (λ (k : ℕ). record { count = k; ending = ended reached }) (all_counted h)

    pub unfinished : number ≤ count → (reached ≡ length s → ⊥) → survey_at s place number ≡ record { count = number; ending = more reached }
    unfinished h other =
        f.answer
        ∙ ap (λ (w : Walk Record). counted count (survey_of w)) (finish h ∙ go (record_step s reached) refl)
        ∙ ap (λ (k : ℕ). record { count = k; ending = more reached }) (all_counted h)
      where
        go : (x : Answer (Next Record)) → record_step s reached ≡ x → used reached x ≡ stop (more reached)
        go (refused n q) e = refl
        go (given Next.end) e = absurd (other ((forward s).is_end e))
        go (given (Next.whole a q)) e = refl

-- behind an accepted header the file is what the survey of all its records says
pub surveyed : (s : List ℕ) (code : ℕ) → header_at s ≡ given code
    → file_at s ≡ file_of code (survey_at s header_length (length s)).count (survey_at s header_length (length s)).ending
unfolding file_at file_walk survey_at
surveyed s code e =
    let here = (survey-from header_length (length s) (record_step s) (length s) header_length).inside (omega arith) (header-long s code e) in
    ap (behind s) e ∙ ap (λ (v : Survey). file_of code v.count v.ending) (sym here)
