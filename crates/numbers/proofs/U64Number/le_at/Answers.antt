-- `u64::le_at` meets its contract: the library's reading of the octets at the place is the definition's.
use mathlib.Core.Path.{ap, refl, ◌∙◌}
use mir.Syntax.{w64}
use Rattle.std.specs.Int.{from_le_bytes}
use Rattle.octets.specs.Numbers.{number_at}
use Rattle.numbers.proofs.Orders.{joined_little}
use Rattle.numbers.proofs.U64Number.le_at.Goals as goal

pub returns : goal.returns
unfolding number_at
returns c = c.from_le_bytes.ensures ∙ ap (from_le_bytes w64) c.array.ensures ∙ joined_little _ 7 refl
