-- `u16::le_at` meets its contract: the library's reading of the octets at the place is the definition's.
use mathlib.Core.Path.{ap, refl, ◌∙◌}
use mir.Syntax.{w16}
use Rattle.std.specs.Int.{from_le_bytes}
use Rattle.octets.specs.Numbers.{number_at}
use Rattle.numbers.proofs.Orders.{joined_little}
use Rattle.numbers.proofs.U16Number.le_at.Goals as goal

pub returns : goal.returns
unfolding number_at
returns c = c.from_le_bytes.ensures ∙ ap (from_le_bytes w16) c.array.ensures ∙ joined_little _ 1 refl
