-- `le_write::header` meets its contract: the reference address and the flags are put where the field before each ends.
use mathlib.Core.Path.{ap, ◌∙◌}
use Rattle.octets.specs.Parts.{put}
use Rattle.le_write.proofs.PutLaws.{header_parts}
use Rattle.le_write.proofs.header.Goals as goal

pub returns : goal.returns
returns c =
    let a = c.args in
    let put_first = c.put.ensures ∙ ap (put a.out.now a.place) c.single_octets.ensures in
    header_parts a.out.now a.place a.values c.requires
    put_first c.put_le.ensures c.put_le-2.ensures
