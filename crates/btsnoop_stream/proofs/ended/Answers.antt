-- `btsnoop_stream::ended` meets its contract: by the phase.
use Prim.Native.Nat.{ℕ, ◌+◌, ◌-◌}
use mathlib.Core.Path.{sym, ap, ◌∙◌}
use mathlib.Core.Bool.{cond}
use lib.Dec.{eqb}
use lib.ListN.{length, take}
use Rattle.refusals.specs.Refusals.{short_record, short_packet}
use Rattle.btsnoop_rules.specs.Record.{record_length}
use Rattle.stream_rules.specs.Stream.{refuses, ends, end_at}
use Rattle.stream_state.specs.declared.Held.{Held}
use Rattle.stream_state.proofs.Rows.{answers, refused_for}
use Rattle.stream_packet.specs.declared.Packet.{Packet}
use Rattle.btsnoop_stream.proofs.Phases.{says_in}
use Rattle.btsnoop_stream.proofs.ended.Goals as goal

pub returns-in-Header : goal.returns-in-Header
unfolding end_at
returns-in-Header c =
    let t = c.args.state in
    answers c.refused.result c.refused.ensures
    (refused_for t.octets c.at.ensures ∙ ap end_at (says_in t (sym c.in-Header.is ∙ c.from.ensures)))

pub returns-in-Record : goal.returns-in-Record
unfolding end_at
returns-in-Record c =
    let t = c.args.state in
    answers c.record_ended.result c.record_ended.ensures
    (ap (λ (k : ℕ). cond (eqb k 0) (ends t.octets) (refuses t.octets short_record (t.octets - k)))
    (c.len.ensures.size ∙ ap (λ (h : Held). length (take h.count h.octets)) c.held.ensures)
    ∙ ap end_at (says_in t (sym c.in-Record.is ∙ c.from.ensures)))

pub returns-in-Packet : goal.returns-in-Packet
unfolding end_at
returns-in-Packet c =
    let t = c.args.state in
    answers c.packet_ended.result c.packet_ended.ensures
    (ap (λ (p : Packet). refuses t.octets short_packet (t.octets - (record_length + p.done))) c.packet.ensures
    ∙ ap end_at (says_in t (sym c.in-Packet.is ∙ c.from.ensures)))

pub returns-in-Refused : goal.returns-in-Refused
unfolding end_at
returns-in-Refused c =
    answers c.refused_again.result c.refused_again.ensures
    (ap end_at (says_in c.args.state (sym c.in-Refused.is ∙ c.from.ensures)))

pub returns-in-Ended : goal.returns-in-Ended
unfolding end_at
returns-in-Ended c =
    answers c.at_end.result c.at_end.ensures
    (ap end_at (says_in c.args.state (sym c.in-Ended.is ∙ c.from.ensures)))
