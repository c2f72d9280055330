-- What is asked in an edition: what is met in the edition taken where the edition is served, and 15 where it is not.
-- Assumes nothing.
use Prim.Native.Nat.{ℕ}
use mathlib.Core.Path.{◌≡◌, sym, ap, ◌∙◌}
use mathlib.Core.Bool.{Bool, true, false, cond}
use Rattle.radiotap_rules.specs.Rules.{Rules, edition_taken, served}
use Rattle.radiotap_rules.specs.Reading.{edition_above}
use Rattle.radiotap_rules.specs.Steps.{Met, refused_step}
use Rattle.radiotap_step.specs.Asked.{asked_in}

module _ (rules : Rules) (edition : ℕ) (inTaken : ℕ → Met) where
  by_test : (t : Bool) → served rules edition ≡ t
      → asked_in rules edition inTaken ≡ cond t (inTaken (edition_taken rules.reading_default edition)) (refused_step edition_above 0)
  by_test t e = ap (λ (t : Bool). cond t (inTaken (edition_taken rules.reading_default edition)) (refused_step edition_above 0)) e

  pub asked-served : served rules edition ≡ true → {taken : ℕ} → taken ≡ edition_taken rules.reading_default edition
      → inTaken taken ≡ asked_in rules edition inTaken
  asked-served e takes = ap inTaken takes ∙ sym (by_test true e)

  pub asked-refused : served rules edition ≡ false → refused_step edition_above 0 ≡ asked_in rules edition inTaken
  asked-refused e = sym (by_test false e)
