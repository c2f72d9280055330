-- `twos_complement::signed64` meets its contract: what the halves come to, step by step.
use mathlib.Core.Path.{◌≡◌, sym, ap, ap₂, ◌∙◌}
use lib.IntN.{ℤ, pos, ◌+ℤ◌, ◌*ℤ◌}
use mir.Syntax.{w32, w64}
use mir.Val.{to_z, of_z}
use Rattle.octets.specs.Signed.{signed}
use Rattle.twos_complement.proofs.Signs.{fits_as, kept, to_z-signed}
use Rattle.twos_complement.proofs.Halves.{Steps, steps}
use Rattle.twos_complement.proofs.signed64.Goals as goal

pub returns : goal.returns
returns c =
    let a = c.args in
    let s : Steps a.high a.low (signed 32 a.high) = steps a.high a.low c.ranges.high.fits c.ranges.low.fits in
    let high : c.from.result ≡ signed 32 a.high =
    c.from.ensures ∙ kept {w = w32} c.cast_signed.ensures (fits_as {w = w32} (sym c.cast_signed.ensures) (record { sfits = c.cast_signed.type_inv })) ∙ to_z-signed w32 a.high in
    let low : c.from-2.result ≡ pos a.low = c.from-2.ensures in
    let product : to_z w64 (of_z w64 c.from.result) *ℤ pos 4294967296 ≡ signed 32 a.high *ℤ pos 4294967296 =
    ap (λ (z : ℤ). z *ℤ pos 4294967296) (kept high s.high_fits) in
    let sum : to_z w64 (of_z w64 (to_z w64 (of_z w64 c.from.result) *ℤ pos 4294967296)) +ℤ to_z w64 (of_z w64 c.from-2.result)
    ≡ signed 32 a.high *ℤ pos 4294967296 +ℤ pos a.low = ap₂ ◌+ℤ◌ (kept product s.product-fits) (kept low s.low_fits) in
    kept sum s.sum_fits ∙ s.whole
