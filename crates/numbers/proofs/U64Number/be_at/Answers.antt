-- `u64::be_at` meets its contract: the library's reading of the octets at the place is the definition's.
use mathlib.Core.Path.{ap, refl, ◌∙◌}
use mir.Syntax.{w64}
use Rattle.std.specs.Int.{from_be_bytes}
use Rattle.octets.specs.Numbers.{number_at}
use Rattle.numbers.proofs.Orders.{joined_big}
use Rattle.numbers.proofs.U64Number.be_at.Goals as goal

pub returns : goal.returns
unfolding number_at
returns c = c.from_be_bytes.ensures ∙ ap (from_be_bytes w64) c.array.ensures ∙ joined_big _ 7 refl
