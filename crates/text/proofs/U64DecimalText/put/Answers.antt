-- `text::U64DecimalText::put` meets its contract: the digits that the library spells are the number's text.
use native.Mathlib.Omega.{arith}
use mathlib.Core.Path.{ap, ◌∙◌}
use Rattle.octets.specs.Parts.{put}
use Rattle.text.proofs.DecimalLaws.{spelled-text}
use Rattle.text.proofs.U64DecimalText.put.Goals as goal

pub returns : goal.returns
returns c =
    let a = c.args in
    let d = c.decimal-size in
    let t = spelled-text a.self d.result d.new.out (omega arith) (d.ensures.in_bounds, (d.ensures.len, d.ensures.digits)) in
    record {
      value = t.long;
      upper_bound = t.short;
      out_after = c.put.ensures ∙ ap (put a.out.now a.at) t.is;
    }
