-- The row of an answer.
use mathlib.Core.Path.{◌≡◌, sym, ap, ◌∙◌}
use Rattle.refusals.specs.Refusals.{Answer}
use Rattle.btsnoop_rules.specs.Record.{Found}
use Rattle.boundary_record.specs.declared.Record.{Record}
use Rattle.boundary_record.specs.Rows.{record_row}

-- equal answers have the same row
pub row_of : (r : Record) (x y : Answer Found) → r ≡ record_row x → y ≡ x → r ≡ record_row y
row_of r x y e f = e ∙ ap record_row (sym f)
