-- `radiotap_step::meet` meets its contract: the answer is that of where the bit's field lies.
use native.Mathlib.Omega.{arith}
use mathlib.Core.Path.{◌≡◌, refl, sym, ap, ◌∙◌}
use Rattle.radiotap_rules.specs.Table.{our_rules}
use Rattle.radiotap_rules.specs.Answers.{lies, lay_of}
use Rattle.radiotap_table.specs.Says.{lay_says}
use Rattle.radiotap_table.proofs.RowLaws.{lay_near}
use Rattle.radiotap_step.proofs.meet.Goals as goal

pub found-requires : goal.found-requires
found-requires c =
    let a = c.args in
    let laid : lay_of our_rules a.taken a.bit a.cursor.at ≡ lies c.in-Some.laid.start c.in-Some.laid.size =
    sym c.lay.ensures ∙ ap lay_says c.in-Some.is in
    (c.requires.0, c.requires.1, omega (arith, lay_near our_rules a.bit a.taken a.cursor.at _ _ refl laid))
