-- `text_lines::Lines::field` meets its contract: the tab is written, and behind it the number.
use Rattle.text_lines.proofs.WroteLaws.{wrote_text}
use Rattle.text_lines.proofs.Lines.field.Goals as goal

pub returns-clause-wrote : goal.returns-clause-wrote
returns-clause-wrote g c =
    let text = c.put.ensures in
    let next = c.place_behind-self.ensures in
    wrote_text _ c.word.ensures.wrote text.out_after text.value next.value next.lower_bound
