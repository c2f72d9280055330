-- `btsnoop_write::marks` meets its contract: the drops and the time are put where the field before each ends.
use mathlib.Core.Path.{◌≡◌, ap, ◌∙◌}
use mir.Syntax.{w64}
use mir.Facts.{to_z-of_z}
use native.Mathlib.Omega.{arith}
use Rattle.octets.specs.Numbers.{big, octets_of}
use Rattle.octets.specs.Signed.{unsigned}
use Rattle.octets.proofs.Fields.{length-octets_of}
use Rattle.btsnoop_write.proofs.WriteLaws.{put-numbers}
use Rattle.btsnoop_write.proofs.marks.Goals as goal

pub returns : goal.returns
returns c =
    let a = c.args in
    let bits : c.bits.result ≡ unsigned 64 a.time =
    c.bits.ensures ∙ ap (unsigned 64) (to_z-of_z {w = w64} {z = a.time} c.ranges.time) in
    let flags = octets_of big 4 a.flags in
    let first = c.put_be.ensures in
    let second = c.put_be-2.ensures in
    let third = rw bits at c.put_be-3.ensures in
    put-numbers a.out.now a.place 4 flags (length-octets_of big 4 a.flags) 4 a.drops 8 (unsigned 64 a.time)
    (omega arith) first second third
