-- `text_lines::Lines::last_field` meets its contract: the field and the newline are written one behind the other.
use Rattle.text_lines.proofs.WroteLaws.{wrote_then}
use Rattle.text_lines.proofs.Lines.last_field.Goals as goal

pub returns-clause-wrote : goal.returns-clause-wrote
returns-clause-wrote c = wrote_then c.field.ensures.wrote c.word.ensures.wrote
