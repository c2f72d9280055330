-- `btsnoop_write::header_octets` meets its contract: the version and the code are put where the field before each ends.
use mathlib.Core.Path.{refl}
use native.Mathlib.Omega.{arith}
use Rattle.btsnoop_rules.specs.Header.{identification_octets, version_number}
use Rattle.btsnoop_rules.specs.Writing.{header_octets}
use Rattle.btsnoop_write.proofs.WriteLaws.{put-numbers}
use Rattle.btsnoop_write.proofs.header_octets.Goals as goal

pub returns : goal.returns
unfolding header_octets
returns c =
    let a = c.args in
    let first = c.put.ensures in
    let second = c.put_be.ensures in
    let third = c.put_be-2.ensures in
    put-numbers a.out.now a.place 8 identification_octets refl 4 version_number 4 a.datalink
    (omega arith) first second third
