-- `le_write::write` meets its contract: each way out is one case of the write.
use Prim.Native.Nat.{◌+◌, ◌≤◌}
use mathlib.Core.Path.{◌≡◌, sym, ap, ◌∙◌}
use lib.ListN.{length}
use native.Mathlib.Omega.{arith}
use borrow.Author.Tests.{leb-true, leb-false}
use Rattle.std.specs.Prelude.{Result, Ok}
use Rattle.refusals.specs.Refusals.{refused, given, short_packet, no_room}
use Rattle.le_rules.specs.declared.Values.{Values}
use Rattle.le_rules.specs.Reading.{header_length, fault_number, range_of, out_of, within}
use Rattle.le_rules.specs.Orders.{Judged, Writes}
use Rattle.le_rules.proofs.Orders.{range-exactly}
use Rattle.le_rules.proofs.WritingLaws.{outcome}
use Rattle.le_ranges.specs.declared.Fault.{Fault}
use Rattle.le_ranges.specs.Says.{fault_says, range_says}
use Rattle.le_write.proofs.PutLaws.{packet-behind}
use Rattle.le_write.proofs.write.Goals as goal

-- values that are judged to have no fault
in_range : {A : Type 0} (v : Values) {r : Result A Fault} {u : A} → range_says r ≡ range_of v.channel v.flags → r ≡ Ok u
    → Judged v within
in_range v e is = (range-exactly v.channel v.flags within).0 (sym e ∙ ap range_says is)

pub returns-in-Err : goal.returns-in-Err
returns-in-Err c =
    let a = c.args in
    let f = fault_says c.in-Err.fault in
    let first = (range-exactly a.values.channel a.values.flags (out_of f)).0 (sym c.judge.ensures ∙ ap range_says c.in-Err.is) in
    let told = outcome a.out.now a.place a.values a.packet.now (refused (fault_number f) 0) (Writes.fault f first) in
    record {
      result_value = c.write_refused.ensures ∙ ap (λ n. refused n 0) c.from.ensures.0 ∙ sym told.0;
      out_after = sym told.1;
    }

pub returns-then-packet-least_packet : goal.returns-then-packet-least_packet
returns-then-packet-least_packet c =
    let a = c.args in
    let told =
    outcome a.out.now a.place a.values a.packet.now (refused short_packet 0)
    (Writes.few (in_range a.values c.judge.ensures c.in_default.is) (omega arith)) in
    record { result_value = c.write_refused-then-packet-least_packet.ensures ∙ sym told.0; out_after = sym told.1 }

pub returns-then-not-has_room : goal.returns-then-not-has_room
returns-then-not-has_room c =
    let a = c.args in
    let past = leb-false _ _ (sym c.has_room.ensures ∙ c.if-not-has_room.true) in
    let told =
    outcome a.out.now a.place a.values a.packet.now (refused no_room 0)
    (Writes.full (in_range a.values c.judge.ensures c.in_default.is) (omega arith) past) in
    record { result_value = c.write_refused-then-not-has_room.ensures ∙ sym told.0; out_after = sym told.1 }

pub returns : goal.returns
returns c =
    let room : c.args.place
    + (header_length + length c.args.packet.now)
    ≤ length c.args.out.now = leb-true _ _ (sym c.has_room.ensures ∙ c.if-not-has_room.false) in
    let a = c.args in
    let next = a.place + (header_length + length a.packet.now) in
    let told =
    outcome a.out.now a.place a.values a.packet.now (given next)
    (Writes.accepted (in_range a.values c.judge.ensures c.in_default.is) (omega arith) room) in
    let both =
    packet-behind a.out.now a.place a.values a.packet.now room
    c.header.ensures c.put.ensures in
    record { result_value = sym told.0; out_after = both ∙ sym told.1 }
