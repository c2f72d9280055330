-- `radiotap_write::put_fixed` meets its contract: the length and the presence word are put where the field before each ends.
use native.Mathlib.Omega.{arith}
use Rattle.radiotap_write.proofs.PutLaws.{fixed_put}
use Rattle.radiotap_write.proofs.put_fixed.Goals as goal

pub returns : goal.returns
returns c =
    let a = c.args in
    let first = c.put.ensures in
    let second = c.put_le.ensures in
    let third = c.put_le-2.ensures in
    fixed_put a.out.now a.place a.size a.presence (omega arith) first second third
