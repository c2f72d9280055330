-- `radiotap::read` meets its contract: the refusal before the fields, or the summary that counting them gives.
use mathlib.Core.Path.{refl, sym, ap, ◌∙◌}
use lib.ListN.{get_or}
use Rattle.std.proofs.lemmas.Result.{err_from_is_err_and}
use Rattle.radiotap_rules.specs.Answers.{summary}
use Rattle.radiotap.proofs.ReadLaws.{opened_refused, summary_by}
use Rattle.radiotap.proofs.read.Goals as goal

pub returns-in_err-head : goal.returns-in_err-head
returns-in_err-head c =
    let a = c.args in
    let p = err_from_is_err_and c.from_residual.result c.from_residual.ensures.1 in
    rw (p.1, p.2) (sym (ap (summary a.s.now) (opened_refused a.edition a.s.now (sym c.in_err-head.ensures))))

pub returns : goal.returns
returns c =
    let a = c.args in
    c.count.ensures
    ∙ summary_by a.edition a.s.now c.in_ok-head.head (sym c.in_ok-head.ensures) c.reading.result 0 c.reading.ensures _ refl (get_or a.s.now 1 0) refl
