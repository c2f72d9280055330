-- `stream_packet::Packet::take_from` meets its contract: 32 by the octets taken and those that are left, and then the packet.
use Prim.Native.Nat.{◌+◌, ◌≤◌}
use mathlib.Core.Path.{◌≡◌, sym, ◌∙◌}
use native.Mathlib.Omega.{arith}
use lib.ListN.{length, drop, length-drop}
use borrow.Author.Tests.{leb-true}
use Rattle.btsnoop_rules.specs.Record.{numbers_at}
use Rattle.stream_rules.specs.Stream.{most_octets, after, take_packet}
use Rattle.stream_state.proofs.Cases.{within-limit}
use Rattle.stream_state.proofs.Rows.{answers}
use Rattle.stream_packet.proofs.Packet.take_from.Goals as goal

pub returns-then-within : goal.returns-then-within
returns-then-within c =
    let a = c.args in
    let inside : c.args.self.octets + c.saturating_sub-here.result ≤ most_octets =
    leb-true (a.self.octets + c.saturating_sub-here.result) most_octets (sym c.within.ensures ∙ c.if-within.true) in
    let s = a.chunk.now in
    let rest = drop a.from s in
    let size : length (drop a.from s) ≡ c.saturating_sub-here.result =
    length-drop a.from s ∙ sym c.saturating_sub-here.ensures in
    let short : a.self.octets + length (drop a.from s) ≤ most_octets = omega (arith, inside) in
    answers c.hand_out.result (c.hand_out.ensures s size)
    (sym (within-limit a.self.octets rest (after a.from (take_packet a.self.octets (numbers_at a.self.header 0) a.self.done rest)) short))
