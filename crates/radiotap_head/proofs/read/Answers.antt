-- `radiotap_head::read` meets its contract: the fixed header's answer says which case holds.
use mathlib.Core.Path.{ap, ◌∙◌}
use Rattle.std.proofs.lemmas.Result.{err_from_is_err_and}
use Rattle.radiotap_rules.specs.Steps.{head_of_fixed, head_at}
use Rattle.radiotap_head.proofs.read.Goals as goal

pub returns-in_err-size : goal.returns-in_err-size
unfolding head_at
returns-in_err-size c =
    let p = err_from_is_err_and c.from_residual.result c.from_residual.ensures.1 in
    rw (p.1, p.2) (ap (head_of_fixed c.args.s.now) c.in_err-size.ensures)

pub returns : goal.returns
unfolding head_at
returns c = c.presence.ensures ∙ ap (head_of_fixed c.args.s.now) c.in_ok-size.ensures
