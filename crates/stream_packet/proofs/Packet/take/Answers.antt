-- `stream_packet::Packet::take` meets its contract: the packet goes on from the chunk's start.
use Rattle.btsnoop_rules.specs.Record.{numbers_at}
use Rattle.stream_state.proofs.Rows.{answers}
use Rattle.stream_packet.proofs.Handings.{goes_on}
use Rattle.stream_packet.proofs.Packet.take.Goals as goal

pub returns : goal.returns
returns c =
    let p = c.args.self in
    answers c.take_from.result c.take_from.ensures
    (goes_on p.octets (numbers_at p.header 0) p.done c.args.chunk.now)
