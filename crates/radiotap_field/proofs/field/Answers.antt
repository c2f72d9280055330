-- `radiotap_field::field` meets its contract: the refusal before the fields, or what the walk behind the head answers.
use mathlib.Core.Path.{sym, ap, ◌∙◌}
use Rattle.std.proofs.lemmas.Result.{err_from_is_err_and}
use Rattle.radiotap_rules.specs.Reading.{Reading, field_of}
use Rattle.radiotap.proofs.ReadLaws.{opened_refused, opened_walk}
use Rattle.radiotap_field.proofs.field.Goals as goal

pub returns-in_err-head : goal.returns-in_err-head
returns-in_err-head c =
    let a = c.args in
    let p = err_from_is_err_and c.from_residual.result c.from_residual.ensures.1 in
    record {
      result_value = rw (p.1, p.2) (sym (ap (λ (x : Reading). field_of x a.number) (opened_refused a.edition a.s.now (sym c.in_err-head.ensures))));
      field_sized = rw p.1 tt;
    }

pub returns-clause-result_value : goal.returns-clause-result_value
returns-clause-result_value c =
    let a = c.args in
    c.walk.ensures.result_value
    ∙ ap (λ (x : Reading). field_of x a.number) (opened_walk a.edition a.s.now (sym c.in_ok-head.ensures) c.reading.ensures)
