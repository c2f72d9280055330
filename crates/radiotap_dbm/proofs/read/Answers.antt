-- `radiotap_dbm::read` meets its contract: the value of the octet at the start of the field, or the answer where there is none.
use mathlib.Core.Path.{sym, ap, ◌∙◌}
use Rattle.std.proofs.lemmas.Result.{err_from_is_err_and}
use Rattle.radiotap_rules.specs.Answers.{dbm_of}
use Rattle.radiotap_field.specs.Says.{answer_of}
use Rattle.radiotap_dbm.specs.Says.{valued_as}
use Rattle.radiotap_dbm.proofs.ValueLaws.{value_at}
use Rattle.radiotap_dbm.proofs.read.Goals as goal

pub returns-in_err-field : goal.returns-in_err-field
returns-in_err-field c =
    let p = err_from_is_err_and c.from_residual.result c.from_residual.ensures.1 in
    rw (p.1, p.2) (ap dbm_of c.in_err-field.ensures.result_value)

pub returns-in-Field : goal.returns-in-Field
returns-in-Field c =
    let a = c.args in
    let s = a.s.now in
    let shown = sym c.in_ok-field.ensures.result_value ∙ ap (answer_of s) c.in-Field.is in
    c.value.ensures
    ∙ ap (valued_as c.in-Field.field.bit) c.octet.ensures
    ∙ value_at a.edition s a.number _ shown
    ∙ sym (ap dbm_of shown)
