-- `radiotap_place::after` meets its contract: the place behind what is answered at it.
use mathlib.Core.Path.{◌∙◌}
use Rattle.radiotap_rules.specs.Table.{our_rules}
use Rattle.refusals.specs.Says.{says}
use Rattle.radiotap_place.proofs.PlaceLaws.{moved_by_lem}
use Rattle.radiotap_place.proofs.after.Goals as goal

pub returns : goal.returns
returns c =
    let a = c.args in
    c.behind.ensures a.s.now ∙ moved_by_lem our_rules a.edition a.s.now (says a.place) c.answer_at.ensures.result_value
