-- `btsnoop_earlier::answer` meets its contract: what the two record readers say is decided as the rule says.
use mathlib.Core.Path.{refl, ap, ◌∙◌}
use Rattle.std.proofs.lemmas.Result.{err_from_is_err_and}
use Rattle.refusals.specs.Says.{number_of}
use Rattle.btsnoop_earlier.specs.Earlier.{earlier_of, refused_in}
use Rattle.btsnoop_earlier.specs.Says.{capture_says}
use Rattle.btsnoop_earlier.specs.declared.Capture.{Capture}
use Rattle.btsnoop_earlier.proofs.EarlierLaws.{second_refused, decided_of}
use Rattle.btsnoop_earlier.proofs.answer.Goals as goal

pub returns-in_err-one : goal.returns-in_err-one
unfolding earlier_of
returns-in_err-one c =
    let p = err_from_is_err_and c.from_residual.result c.from_residual.ensures.1 in
    let r = c.in_err-one.field-0.0.refusal in
    let said = c.in_err-one.ensures in
    rw (p.1, p.2)
    (ap (λ (k : Capture). refused_in (capture_says k) (number_of r.reason) r.place) said.capture ∙ decided_of said.found refl)

pub returns-in_err-other : goal.returns-in_err-other
unfolding earlier_of
returns-in_err-other c =
    let p = err_from_is_err_and c.from_residual-in_err-other.result c.from_residual-in_err-other.ensures.1 in
    let r = c.in_err-other.field-0.0.refusal in
    let said = c.in_err-other.ensures in
    rw (p.1, p.2)
    (ap (λ (k : Capture). refused_in (capture_says k) (number_of r.reason) r.place) said.capture
    ∙ second_refused c.in_ok-one.one (number_of r.reason) r.place
    ∙ decided_of c.in_ok-one.ensures.found said.found)

pub returns : goal.returns
unfolding earlier_of
returns c = c.decide.ensures ∙ decided_of c.in_ok-one.ensures.found c.in_ok-other.ensures.found
