-- `stream_packet::Packet::hand_out` meets its contract: the case laws of a packet.
use Prim.Native.Nat.{◌-◌, ◌≤◌, ◌<◌}
use mathlib.Core.Path.{◌≡◌}
use native.Mathlib.Omega.{arith}
use lib.ListN.{length, take, drop}
use lib.Seq.{length-take-le}
use Rattle.btsnoop_rules.specs.Record.{numbers_at}
use Rattle.stream_state.proofs.Rows.{answers}
use Rattle.stream_packet.proofs.Handings.{handed_all, handed_last}
use Rattle.stream_packet.proofs.Packet.hand_out.Goals as goal

pub returns-then-here-left : goal.returns-then-here-left
returns-then-here-left c =
    let a = c.args in
    let n = numbers_at a.self.header 0 in
    let more : a.here < (numbers_at a.self.header 0).included - a.self.done = omega (arith, c.saturating_sub-left.ensures, c.included-included.ensures) in
    λ x size.
    answers c.unfinished.result (c.unfinished.ensures (drop a.from x) size)
    (handed_all a.self.octets n a.self.done a.from x a.here size more)

pub returns-else-here-left : goal.returns-else-here-left
returns-else-here-left c =
    let a = c.args in
    let n = numbers_at a.self.header 0 in
    let left = c.saturating_sub-left.result in
    let all : left ≡ (numbers_at a.self.header 0).included - a.self.done = omega (arith, c.saturating_sub-left.ensures, c.included-included.ensures) in
    λ x size.
    let enough : left ≤ length (drop a.from x) = omega arith in
    answers c.last.result
    (c.last.ensures (take left (drop a.from x)) (length-take-le left (drop a.from x) enough))
    (handed_last a.self.octets n a.self.done a.from x left all enough)
