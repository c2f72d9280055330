-- `btsnoop_survey::check` meets its contract: the header's answer says which case holds, and behind a valid header the file is what the survey says.
use Prim.Native.Nat.{ℕ}
use mathlib.Core.Path.{◌≡◌, sym, ap, ◌∙◌}
use mathlib.Core.List.{List}
use lib.ListN.{length}
use Rattle.std.specs.Prelude.{Result, Ok}
use Rattle.std.proofs.lemmas.Result.{err_from_is_err_and}
use Rattle.refusals.specs.Refusals.{Answer, given}
use Rattle.refusals.specs.declared.Refusal.{Refusal}
use Rattle.tiling.specs.Tiling.{Survey}
use Rattle.btsnoop_rules.specs.Header.{header_length, header_at}
use Rattle.btsnoop_rules.specs.File.{survey_at, file_of, behind, file_at}
use Rattle.btsnoop_survey.specs.Says.{ending_says, survey_says}
use Rattle.btsnoop_survey.specs.declared.Ending.{Ending}
use Rattle.btsnoop_survey.specs.declared.Surveyed.{Surveyed}
use Rattle.btsnoop_survey.proofs.SurveyLaws.{surveyed}
use Rattle.btsnoop_survey.proofs.check.Goals as goal

-- behind an accepted header the file is what the survey's ending says
by_ending : (s : List ℕ) (code : ℕ) (v : Surveyed) {x : Result Ending Refusal} → ◌≡◌ {A = Answer ℕ} (given code) (header_at s)
    → survey_says v ≡ survey_at s header_length (length s) → v.ending ≡ x → file_of code v.count (ending_says x) ≡ file_at s
by_ending s code v header found e =
    ap (λ (y : Result Ending Refusal). file_of code v.count (ending_says y)) (sym e)
    ∙ ap (λ (w : Survey). file_of code w.count w.ending) found
    ∙ sym (surveyed s code (sym header))

pub returns-in_err-datalink : goal.returns-in_err-datalink
unfolding file_at
returns-in_err-datalink c =
    let p = err_from_is_err_and c.from_residual.result c.from_residual.ensures.1 in
    rw (p.1, p.2) (ap (behind c.args.s.now) c.in_err-datalink.ensures)

pub returns-in_err-surveyed : goal.returns-in_err-surveyed
returns-in_err-surveyed c =
    let p = err_from_is_err_and c.from_residual-in_err-surveyed.result c.from_residual-in_err-surveyed.ensures.1 in
    let v = c.survey-surveyed in
    rw (p.1, p.2) (by_ending c.args.s.now c.in_ok-datalink.datalink v.result c.in_ok-datalink.ensures v.ensures c.in_err-surveyed.was)

pub returns-in-End : goal.returns-in-End
returns-in-End c =
    let v = c.survey-surveyed in
    by_ending c.args.s.now c.in_ok-datalink.datalink v.result c.in_ok-datalink.ensures v.ensures (c.in_ok-surveyed.was ∙ ap Ok c.in-End.is)

pub returns-in-More : goal.returns-in-More
returns-in-More c =
    let v = c.survey-surveyed in
    rw c.at.ensures (by_ending c.args.s.now c.in_ok-datalink.datalink v.result c.in_ok-datalink.ensures v.ensures (c.in_ok-surveyed.was ∙ ap Ok c.in-More.is))
