-- `radiotap_place::answer_at` meets its contract: the step from the cursor, or the refusal, each asked in the edition.
use mathlib.Core.Path.{ap}
use native.Mathlib.Omega.{arith}
use Rattle.refusals.specs.Says.{says}
use Rattle.radiotap_rules.specs.Table.{our_rules}
use Rattle.radiotap_step.proofs.AskedLaws.{asked-served, asked-refused}
use Rattle.radiotap_place.proofs.PlaceLaws.{refusal-answered, step-answered}
use Rattle.radiotap_place.proofs.answer_at.Goals as goal

pub returns-in-Ok-clause-result_value : goal.returns-in-Ok-clause-result_value
returns-in-Ok-clause-result_value c =
    let a = c.args in
    step-answered our_rules a.edition a.s.now (ap says c.in-Ok.is) c.next.ensures.result_value

pub returns-in-Err-clause-result_value : goal.returns-in-Err-clause-result_value
returns-in-Err-clause-result_value c =
    let a = c.args in
    refusal-answered our_rules a.edition a.s.now (ap says c.in-Err.is) (grind (arith, asked-served))

pub returns-in-Err-2-clause-result_value : goal.returns-in-Err-2-clause-result_value
returns-in-Err-2-clause-result_value c =
    let a = c.args in
    refusal-answered our_rules a.edition a.s.now (ap says c.in-Err-2.is) (grind (arith, asked-refused))
