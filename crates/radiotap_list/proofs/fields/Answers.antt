-- `radiotap_list::fields` meets its contract: the refusal before the fields leaves the list, and behind a head it is walked twice.
use mathlib.Core.Path.{sym, ap}
use Rattle.std.proofs.lemmas.Result.{err_from_is_err_and}
use Rattle.radiotap_rules.specs.Answers.{summary, listed_into}
use Rattle.radiotap.proofs.ReadLaws.{opened_refused}
use Rattle.radiotap_list.proofs.fields.Goals as goal

pub returns-in_err-head : goal.returns-in_err-head
returns-in_err-head c =
    let a = c.args in
    let p = err_from_is_err_and c.from_residual.result c.from_residual.ensures.1 in
    let refuses = opened_refused a.edition a.s.now (sym c.in_err-head.ensures) in
    record {
      result_value = rw (p.1, p.2) (sym (ap (summary a.s.now) refuses));
      out_after = sym (ap (listed_into a.out.now) refuses);
    }
