-- `i64::of_bits` meets its contract: the halves of bits make the bits.
use mathlib.Core.Path.{◌≡◌, ap, ◌∙◌}
use native.Mathlib.Omega.{arith}
use Rattle.std.proofs.Common.{◌+◌, ◌*◌, ◌/◌, ◌%◌, ◌^◌}
use mir.Facts.{to_z-of_z}
use mir.Syntax.{w64}
use Rattle.octets.specs.Signed.{signed, from_halves}
use Rattle.twos_complement.proofs.I64TwosComplement.of_bits.Goals as goal

pub returns : goal.returns
unfolding from_halves
returns c =
    let n = c.args.bits in
    let whole : n / 2 ^ 32 * 2 ^ 32 + n % 2 ^ 32 ≡ n = omega arith in
    to_z-of_z {w = w64} (record { sfits = c.signed64.type_inv }) ∙ c.signed64.ensures ∙ ap (signed 64) whole
