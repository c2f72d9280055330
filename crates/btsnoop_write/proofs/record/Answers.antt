-- `btsnoop_write::record` meets its contract: each way out is one outcome of the write.
use Prim.Native.Nat.{◌+◌, ◌≤◌}
use mathlib.Core.Path.{◌≡◌, sym, ◌∙◌}
use lib.ListN.{length}
use mir.Syntax.{w64}
use mir.Val.{to_z, of_z}
use mir.Facts.{to_z-of_z}
use native.Mathlib.Omega.{arith}
use borrow.Author.Tests.{leb-true, leb-false}
use Rattle.btsnoop_rules.specs.Record.{record_length}
use Rattle.btsnoop_write.proofs.WriteLaws.{record_included, record_no_room, record_given, record_parts}
use Rattle.btsnoop_write.proofs.record.Goals as goal

pub returns-then-original_length-packet : goal.returns-then-original_length-packet
returns-then-original_length-packet c =
    let a = c.args in
    let outcome = record_included a.out.now a.place a.original a.flags a.drops a.time a.packet.now (omega arith) in
    record { result_value = c.write_refused.ensures ∙ sym outcome.0; out_after = sym outcome.1 }

pub returns-then-not-has_room : goal.returns-then-not-has_room
returns-then-not-has_room c =
    let a = c.args in
    let few = leb-false _ _ (sym c.has_room.ensures ∙ c.if-not-has_room.true) in
    let outcome = record_no_room a.out.now a.place a.original a.flags a.drops a.time a.packet.now (omega arith) few in
    record { result_value = c.write_refused-then-not-has_room.ensures ∙ sym outcome.0; out_after = sym outcome.1 }

pub returns : goal.returns
returns c =
    let room : c.args.place + (record_length + length c.args.packet.now) ≤ length c.args.out.now = leb-true _ _ (sym c.has_room.ensures ∙ c.if-not-has_room.false) in
    let a = c.args in
    let outcome = record_given a.out.now a.place a.original a.flags a.drops a.time a.packet.now (omega arith) room in
    let first = c.lengths.ensures in
    let second = c.marks.ensures in
    let third = c.put.ensures in
    let time = to_z w64 (of_z w64 a.time) in
    let parts =
    record_parts a.out.now a.place a.original a.flags a.drops time a.packet.now
    room first second third in
    let same : time ≡ a.time = to_z-of_z {w = w64} {z = a.time} c.ranges.time in
    record { result_value = sym outcome.0; out_after = rw same at parts ∙ sym outcome.1 }
