-- `i16::of_bits` meets its contract: the library's signed reading of bits is `signed`.
use mathlib.Core.Path.{◌∙◌}
use mir.Facts.{to_z-of_z}
use mir.Syntax.{w16}
use Rattle.twos_complement.proofs.Signs.{to_z-signed}
use Rattle.twos_complement.proofs.I16TwosComplement.of_bits.Goals as goal

pub returns : goal.returns
returns c = to_z-of_z {w = w16} (record { sfits = c.cast_signed.type_inv }) ∙ c.cast_signed.ensures ∙ to_z-signed w16 c.args.bits
