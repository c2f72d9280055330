-- `btsnoop_write::header` meets its contract: each way out is one outcome of the write.
use Prim.Native.Nat.{◌+◌, ◌≤◌}
use mathlib.Core.Path.{◌≡◌, sym, ◌∙◌}
use mathlib.Core.Bool.{true}
use lib.ListN.{length}
use borrow.Author.Tests.{leb-true, leb-false}
use Rattle.btsnoop_rules.specs.Header.{header_length, served}
use Rattle.btsnoop_write.proofs.WriteLaws.{header-datalink, header_no_room, header-given}
use Rattle.btsnoop_write.proofs.header.Goals as goal

pub returns-then-not-served : goal.returns-then-not-served
returns-then-not-served c =
    let a = c.args in
    let other = sym c.served.ensures ∙ c.if-not-served.true in
    let outcome = header-datalink a.out.now a.place a.datalink other in
    record { result_value = c.write_refused.ensures ∙ sym outcome.0; out_after = sym outcome.1 }

pub returns-then-not-has_room : goal.returns-then-not-has_room
returns-then-not-has_room c =
    let code-served : served c.args.datalink ≡ true = sym c.served.ensures ∙ c.if-not-served.false in
    let a = c.args in
    let few = leb-false _ _ (sym c.has_room.ensures ∙ c.if-not-has_room.true) in
    let outcome = header_no_room a.out.now a.place a.datalink code-served few in
    record { result_value = c.write_refused-then-not-has_room.ensures ∙ sym outcome.0; out_after = sym outcome.1 }

pub returns : goal.returns
returns c =
    let code-served : served c.args.datalink ≡ true = sym c.served.ensures ∙ c.if-not-served.false in
    let room : c.args.place + header_length ≤ length c.args.out.now = leb-true _ _ (sym c.has_room.ensures ∙ c.if-not-has_room.false) in
    let a = c.args in
    let outcome = header-given a.out.now a.place a.datalink code-served room in
    record { result_value = sym outcome.0; out_after = c.header_octets.ensures ∙ sym outcome.1 }
