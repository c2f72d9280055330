-- A reader's place by the header's summary, and by what it answers.
-- Assumes nothing.
use Prim.Native.Nat.{ℕ}
use mathlib.Core.Path.{◌≡◌, refl, sym, ap, ◌∙◌}
use mathlib.Core.List.{List}
use native.Mathlib.Omega.{arith}
use Rattle.refusals.specs.Refusals.{Answer, refused, given}
use Rattle.radiotap_rules.specs.declared.Cursor.{Cursor}
use Rattle.radiotap_rules.specs.Rules.{Rules}
use Rattle.radiotap_rules.specs.Reading.{Reading, refused_before, refused_at_field, read, reading}
use Rattle.radiotap_rules.specs.Steps.{head_at, Met, refused_step}
use Rattle.radiotap_rules.specs.Answers.{Summary, summary}
use Rattle.radiotap_step.specs.Asked.{asked_in, step_in}
use Rattle.radiotap_place.specs.Places.{first_place, place_by, fresh_place, answer_at, moved_by, moved_on}

module _ (rules : Rules) (edition : ℕ) (s : List ℕ) where
  -- a refused header gives its refusal for a place
  pub fresh-refused : {n p : ℕ} → refused n p ≡ summary s (reading rules edition s) → refused n p ≡ fresh_place rules edition s
  unfolding fresh_place
  fresh-refused {n} {p} = go (reading rules edition s)
    where
      go : (x : Reading) → refused n p ≡ summary s x → refused n p ≡ place_by (head_at s) x
      go (refused_before n' p') h = cc
      go (refused_at_field w b p') h = cc
      go (read fs e frame) h = let z : ◌≡◌ {A = ℕ} 0 1 = cc in absurd (omega arith)

  -- a header that is read gives the first place
  pub fresh_read : {m : Summary} → given m ≡ summary s (reading rules edition s) → first_place (head_at s) ≡ fresh_place rules edition s
  unfolding fresh_place
  fresh_read {m} = go (reading rules edition s)
    where
      go : (x : Reading) → given m ≡ summary s x → first_place (head_at s) ≡ place_by (head_at s) x
      go (refused_before n p) h = let z : ◌≡◌ {A = ℕ} 0 1 = cc in absurd (omega arith)
      go (refused_at_field w b p) h = let z : ◌≡◌ {A = ℕ} 0 1 = cc in absurd (omega arith)
      go (read fs e frame) h = refl

  -- a refusal is answered, unless 15 is
  pub refusal-answered : {place : Answer Cursor} {n p : ℕ} → place ≡ refused n p → {m : Met} → m ≡ asked_in rules edition (λ taken. refused_step n p)
      → m ≡ answer_at rules edition s place
  unfolding answer_at
  refusal-answered is asked = asked ∙ sym (ap (answer_at rules edition s) is)

  -- at a cursor the step from it is answered
  pub step-answered : {place : Answer Cursor} {c : Cursor} → place ≡ given c → {m : Met} → m ≡ step_in rules edition s c → m ≡ answer_at rules edition s place
  unfolding answer_at step_in
  step-answered is step = step ∙ sym (ap (answer_at rules edition s) is)

  -- a place is moved on by what is answered at it
  pub moved_by_lem : (place : Answer Cursor) {m : Met} → m ≡ answer_at rules edition s place → moved_by place m ≡ moved_on rules edition s place
  unfolding moved_on
  moved_by_lem place answers = ap (moved_by place) answers
