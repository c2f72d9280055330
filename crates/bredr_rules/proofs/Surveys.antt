-- Each refusal of a survey is given exactly when its condition holds and no earlier one does: the channels of a list are
-- all in range, or one is the first that is not.
-- Assumes nothing.
use Prim.Native.Nat.{ℕ, zero, suc, ◌+◌, ◌*◌, ◌%◌, ◌≤◌, ◌<◌}
use mathlib.Core.Path.{◌≡◌, refl, ap, ◌∙◌}
use mathlib.Core.Bool.{Bool, true, false}
use mathlib.Core.List.{List, [], ◌∷◌}
use native.Mathlib.Omega.{arith}
use lib.ListN.{length, get_or}
use lib.Dec.{leb, eqb}
use borrow.Author.Tests.{leb-true, leb-false, le-leb, lt-leb, eqb-true, eqb-false, eq-eqb, ne_eqb}
use Rattle.refusals.specs.Refusals.{Answer, refused, given}
use Rattle.refusals.proofs.Orders.{by_cases}
use Rattle.bredr_rules.specs.Reading.{rf_channel, header_length, last_channel}
use Rattle.bredr_rules.specs.Survey.{channels_in, counts_of, judged_from, survey_of}
use Rattle.bredr_rules.specs.Orders.{FirstAbove, Surveys, SurveyExactly}

-- channels that are all in range, or the first that is not
data Judged (cs : List ℕ) : Type 0 where
  fine : ((i : ℕ) → get_or cs i 0 ≤ 78) → Judged cs
  fault : (i : ℕ) → FirstAbove cs i → Judged cs

-- one channel more, before the others
first_fault : (c : ℕ) (cs : List ℕ) → 78 < c → FirstAbove (c ∷ cs) 0
first_fault c cs h = record { inside = omega arith; here = h; before = λ j l. absurd (omega arith) }

all-fine : (c : ℕ) (cs : List ℕ) → c ≤ 78 → ((i : ℕ) → get_or cs i 0 ≤ 78) → (i : ℕ) → get_or (c ∷ cs) i 0 ≤ 78
all-fine c cs h others zero = h
all-fine c cs h others (suc i) = others i

before-fault : (c : ℕ) (cs : List ℕ) (i : ℕ) → c ≤ 78 → FirstAbove cs i → (j : ℕ) → j < suc i → get_or (c ∷ cs) j 0 ≤ 78
before-fault c cs i h f zero l = h
before-fault c cs i h f (suc j) l = f.before j (omega arith)

later-fault : (c : ℕ) (cs : List ℕ) (i : ℕ) → c ≤ 78 → FirstAbove cs i → FirstAbove (c ∷ cs) (suc i)
later-fault c cs i h f =
    record { inside = let l = f.inside in omega arith; here = f.here; before = before-fault c cs i h f }

judged : (cs : List ℕ) → Judged cs
judged [] = fine (λ i. omega arith)
judged (c ∷ cs) = go (leb c last_channel) refl (judged cs)
  where
    go : (t : Bool) → leb c last_channel ≡ t → Judged cs → Judged (c ∷ cs)
    go false t others = fault 0 (first_fault c cs (leb-false c last_channel t))
    go true t (fine h) = fine (all-fine c cs (leb-true c last_channel t) h)
    go true t (fault i f) = fault (suc i) (later-fault c cs i (leb-true c last_channel t) f)

module _ {A : Type 0} (a : A) where
  -- what is given where all are in range
  given-fine : (at : ℕ) (cs : List ℕ) → ((i : ℕ) → get_or cs i 0 ≤ 78) → judged_from a at cs ≡ given a
  given-fine at [] h = refl
  given-fine at (c ∷ cs) h = rw (le-leb c last_channel (h 0)) (given-fine (at + header_length) cs (λ i. h (suc i)))

  -- the refusal of the first that is not, where its header starts
  refused_above : (at : ℕ) (cs : List ℕ) (i : ℕ) → FirstAbove cs i → judged_from a at cs ≡ refused rf_channel (at + i * 22)
  refused_above at [] i f = let l = f.inside in absurd (omega arith)
  refused_above at (c ∷ cs) zero f =
      let place : at ≡ at + 0 * 22 = omega arith in
      rw (lt-leb c last_channel f.here) (ap (refused rf_channel) place)
  refused_above at (c ∷ cs) (suc i) f =
      let others : FirstAbove cs i =
      record {
        inside = let l = f.inside in omega arith;
        here = f.here;
        before = λ j l. f.before (suc j) (omega arith);
      } in
      let place : at + header_length + i * 22 ≡ at + suc i * 22 = omega arith in
      rw (le-leb c last_channel (f.before 0 (omega arith)))
      (refused_above (at + header_length) cs i others ∙ ap (refused rf_channel) place)

module _ (s : List ℕ) where
  -- what each case of an input is surveyed as
  survey_is : (a : Answer (List ℕ)) → Surveys s a → survey_of s ≡ a
  unfolding survey_of
  survey_is _ (Surveys.ragged h) = rw (ne_eqb (length s % header_length) 0 h)
  survey_is _ (Surveys.above i e f) =
      let place : 0 + i * 22 ≡ i * 22 = omega arith in
      rw (eq-eqb (length s % header_length) 0 e)
      (refused_above (counts_of (channels_in s)) 0 (channels_in s) i f ∙ ap (refused rf_channel) place)
  survey_is _ (Surveys.counted e h) =
      rw (eq-eqb (length s % header_length) 0 e) (given-fine (counts_of (channels_in s)) 0 (channels_in s) h)

  -- every input is one of them
  surveys : (a : Answer (List ℕ)) × Surveys s a
  surveys = go (eqb (length s % header_length) 0) refl (judged (channels_in s))
    where
      go : (t : Bool) → eqb (length s % header_length) 0 ≡ t → Judged (channels_in s) → (a : Answer (List ℕ)) × Surveys s a
      go false t j = (_, Surveys.ragged (eqb-false (length s % header_length) 0 t))
      go true t (fine h) = (_, Surveys.counted (eqb-true (length s % header_length) 0 t) h)
      go true t (fault i f) = (_, Surveys.above i (eqb-true (length s % header_length) 0 t) f)

pub survey-exactly : SurveyExactly
survey-exactly s a = by_cases (Surveys s) (survey_of s) (survey_is s) (surveys s) a
