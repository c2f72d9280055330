-- `btsnoop_stream::take` meets its contract: by the phase.
use mathlib.Core.Path.{sym, ap, ◌∙◌}
use Rattle.btsnoop_rules.specs.Record.{numbers_at}
use Rattle.stream_rules.specs.Stream.{Stream, in_packet, take_at}
use Rattle.stream_state.proofs.Rows.{answers}
use Rattle.stream_packet.specs.declared.Packet.{Packet}
use Rattle.btsnoop_stream.proofs.Phases.{says_in}
use Rattle.btsnoop_stream.proofs.take.Goals as goal

pub returns-in-Packet : goal.returns-in-Packet
returns-in-Packet c =
    let s = c.args.chunk.now in
    answers c.take-in-Packet.result c.take-in-Packet.ensures
    (ap (λ (q : Packet). take_at (in_packet q.octets (numbers_at q.header 0) q.done) s) c.packet.ensures
    ∙ ap (λ (st : Stream). take_at st s) (says_in c.args.state (sym c.in-Packet.is ∙ c.from.ensures)))

pub returns-in-Refused : goal.returns-in-Refused
unfolding take_at
returns-in-Refused c =
    answers c.refused_again.result c.refused_again.ensures
    (ap (λ (st : Stream). take_at st c.args.chunk.now) (says_in c.args.state (sym c.in-Refused.is ∙ c.from.ensures)))

pub returns-in-Ended : goal.returns-in-Ended
unfolding take_at
returns-in-Ended c =
    answers c.at_end.result c.at_end.ensures
    (ap (λ (st : Stream). take_at st c.args.chunk.now) (says_in c.args.state (sym c.in-Ended.is ∙ c.from.ensures)))
