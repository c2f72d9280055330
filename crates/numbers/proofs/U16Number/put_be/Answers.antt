-- `u16::put_be` meets its contract: the library's octets of the number are the definition's.
use mathlib.Core.Path.{ap, ◌∙◌}
use Rattle.octets.specs.Parts.{put}
use Rattle.numbers.proofs.Orders.{written_big}
use Rattle.numbers.proofs.U16Number.put_be.Goals as goal

pub returns : goal.returns
returns c =
    let a = c.args in
    c.put.ensures ∙ ap (put a.out.now a.at) (c.to_be_bytes.ensures ∙ written_big 2 a.self)
