-- `radiotap_write::put_pad` meets its contract: a part of eight octets 0 is so many of them.
use mathlib.Core.Path.{ap, ◌∙◌}
use native.Mathlib.Omega.{arith}
use Rattle.octets.specs.Parts.{part, put}
use Rattle.radiotap_write.proofs.PutLaws.{take-pad}
use Rattle.radiotap_write.proofs.put_pad.Goals as goal

pub returns : goal.returns
unfolding part
returns c =
    let a = c.args in
    c.put.ensures
    ∙ ap (put a.out.now a.at) (c.part.ensures ∙ take-pad 8 a.n (omega arith))
