-- `text_lines::Lines::word` meets its contract: the octets are put, and the place behind them is told.
use Rattle.text_lines.proofs.WroteLaws.{wrote_is}
use Rattle.text_lines.proofs.Lines.word.Goals as goal

pub returns-clause-wrote : goal.returns-clause-wrote
returns-clause-wrote c =
    let next = c.place_behind-self.ensures in
    wrote_is c.put.ensures next.value next.lower_bound
