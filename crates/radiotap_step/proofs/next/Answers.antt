-- `radiotap_step::next` meets its contract: the step in the edition taken, or 15 for an edition that is not served.
use Prim.Native.Nat.{ℕ}
use mathlib.Core.Path.{sym, ◌∙◌}
use Rattle.radiotap_rules.specs.Table.{our_rules}
use Rattle.radiotap_rules.specs.Steps.{Met, step_of}
use Rattle.radiotap_step.specs.Asked.{step_in}
use Rattle.radiotap_step.proofs.AskedLaws.{asked-served, asked-refused}
use Rattle.radiotap_step.proofs.next.Goals as goal

pub returns-then-served-clause-result_value : goal.returns-then-served-clause-result_value
unfolding step_in
returns-then-served-clause-result_value c =
    let a = c.args in
    let step : ℕ → Met = λ taken. step_of our_rules taken a.s.now a.cursor in
    c.next_taken.ensures.result_value
    ∙ asked-served our_rules a.edition step (sym c.served.ensures ∙ c.if-served.true) c.reading.ensures

pub returns-else-served-clause-result_value : goal.returns-else-served-clause-result_value
unfolding step_in
returns-else-served-clause-result_value c =
    let a = c.args in
    let step : ℕ → Met = λ taken. step_of our_rules taken a.s.now a.cursor in
    rw c.at.ensures (asked-refused our_rules a.edition step (sym c.served.ensures ∙ c.if-served.false))
