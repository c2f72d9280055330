-- `text::I64DecimalText::put` meets its contract: by the sign, with the text of each.
use mathlib.Core.Path.{ap, ◌∙◌}
use mathlib.Core.List.{◌∷◌}
use native.Mathlib.Omega.{arith}
use Prim.Native.Nat.{ℕ}
use lib.ListN.{length}
use mir.Facts.{to_z-of_z}
use Rattle.octets.specs.Parts.{put}
use Rattle.text.specs.Decimal.{minus, decimal, signed_decimal}
use Rattle.text.proofs.SignLaws.{negative-text, plain-text}
use Rattle.text.proofs.I64DecimalText.put.Goals as goal

pub returns-then-self-lt0 : goal.returns-then-self-lt0
returns-then-self-lt0 c =
    let a = c.args in
    let p = c.put_negative.ensures in
    let text =
    ap (λ (n : ℕ). minus ∷ decimal n) c.unsigned_abs-magnitude.ensures.value
    ∙ negative-text _ c.if-self-lt0.true
    ∙ ap signed_decimal (to_z-of_z c.ranges.self) in
    record {
      value = p.value ∙ ap length text;
      upper_bound = p.upper_bound;
      out_after = p.out_after ∙ ap (put a.out.now a.at) text;
    }

pub returns-else-self-lt0 : goal.returns-else-self-lt0
returns-else-self-lt0 c =
    let a = c.args in
    let p = c.put.ensures in
    let text =
    ap decimal c.unsigned_abs-magnitude.ensures.value
    ∙ plain-text _ c.if-self-lt0.false
    ∙ ap signed_decimal (to_z-of_z c.ranges.self) in
    record {
      value = p.value ∙ ap length text;
      upper_bound = omega arith;
      out_after = p.out_after ∙ ap (put a.out.now a.at) text;
    }
