-- `listing_lines::end_line` meets its contract: the word and the count are written one behind the other.
use Rattle.listing_rules.specs.Lines.{end_line}
use Rattle.text_lines.proofs.WroteLaws.{wrote_then}
use Rattle.listing_lines.proofs.end_line.Goals as goal

pub returns-clause-wrote : goal.returns-clause-wrote
unfolding end_line
returns-clause-wrote c = wrote_then c.word.ensures.wrote c.last_field.ensures.wrote
