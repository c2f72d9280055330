-- `u32::put_le` meets its contract: the library's octets of the number are the definition's.
use mathlib.Core.Path.{ap, ◌∙◌}
use Rattle.octets.specs.Parts.{put}
use Rattle.numbers.proofs.Orders.{written_little}
use Rattle.numbers.proofs.U32Number.put_le.Goals as goal

pub returns : goal.returns
returns c =
    let a = c.args in
    c.put.ensures ∙ ap (put a.out.now a.at) (c.to_le_bytes.ensures ∙ written_little 4 a.self)
