-- `btsnoop_write::lengths` meets its contract: the second number is put where the first ends.
use native.Mathlib.Omega.{arith}
use Rattle.octets.specs.Numbers.{big, octets_of}
use Rattle.octets.proofs.Fields.{length-octets_of}
use Rattle.btsnoop_write.proofs.WriteLaws.{put-number}
use Rattle.btsnoop_write.proofs.lengths.Goals as goal

pub returns : goal.returns
returns c =
    let a = c.args in
    let original = octets_of big 4 a.original in
    let first = c.put_be.ensures in
    let second = c.put_be-2.ensures in
    put-number a.out.now a.place 4 original (length-octets_of big 4 a.original) 4 a.included
    (omega arith) first second
