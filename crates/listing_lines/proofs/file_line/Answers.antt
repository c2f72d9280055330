-- `listing_lines::file_line` meets its contract: the word with the version and the code are written one behind the other.
use Rattle.text.specs.Decimal.{decimal}
use Rattle.listing_rules.specs.Lines.{file_line}
use Rattle.text_lines.proofs.WroteLaws.{wrote_then}
use Rattle.listing_lines.proofs.file_line.Goals as goal

pub returns-clause-wrote : goal.returns-clause-wrote
unfolding file_line decimal
returns-clause-wrote c = wrote_then c.word.ensures.wrote c.last_field.ensures.wrote
