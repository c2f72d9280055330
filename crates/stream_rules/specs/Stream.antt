-- Request W-201, "Captures as they arrive": what is kept of a stream between calls, and what one call answers.
use Rattle.std.specs.Prelude.{ℕ, ◌+◌, ◌-◌, ◌^◌, cond, List, [], ◌++◌, length, take, drop, leb, eqb, ltb}
use Rattle.refusals.specs.Refusals.{Answer, refused, given, short_header, short_record, included_length, short_packet}
use Rattle.btsnoop_rules.specs.declared.Numbers.{Numbers}
use Rattle.btsnoop_rules.specs.Header.{header_length, header_judged}
use Rattle.btsnoop_rules.specs.Record.{record_length, numbers_at}

-- 32: a chunk takes the stream past 2^63 - 1 octets
abbrev pub long_stream : ℕ
long_stream = 32

abbrev pub most_octets : ℕ
most_octets = 2 ^ 63 - 1

-- what a call hands out: nothing; the datalink code; octets of the packet, with their position in it; the last of
-- them and with them the finished record, by the place where it starts and its numbers; the refusal; or the end, at the
-- place that was reached
pub data Event : Type 0 where
  nothing : Event
  datalink : (code : ℕ) → Event
  part : (position : ℕ) (octets : List ℕ) → Event
  finished : (start : ℕ) → Numbers → (position : ℕ) (octets : List ℕ) → Event
  refusal : (number place : ℕ) → Event
  end : (place : ℕ) → Event

-- the packet octets that are handed out
abbrev pub packet_octets : Event → List ℕ
packet_octets nothing = []
packet_octets (datalink code) = []
packet_octets (part position xs) = xs
packet_octets (finished p n position xs) = xs
packet_octets (refusal n q) = []
packet_octets (end q) = []

-- what is kept between calls: how many octets of the stream were taken, and with it the octets held of the file
-- header; those held of a record's header; a record's numbers and how many octets of its packet were handed out; or the
-- final answer
pub data Stream : Type 0 where
  in_header : (octets : ℕ) (held : List ℕ) → Stream
  in_record : (octets : ℕ) (held : List ℕ) → Stream
  in_packet : (octets : ℕ) → Numbers → (done : ℕ) → Stream
  refused_at : (octets number place : ℕ) → Stream
  ended_at : (octets : ℕ) → Stream

-- before the first octet
abbrev pub fresh : Stream
fresh = in_header 0 []

-- how many octets of the stream were taken
abbrev pub octets_taken : Stream → ℕ
octets_taken (in_header octets held) = octets
octets_taken (in_record octets held) = octets
octets_taken (in_packet octets n done) = octets
octets_taken (refused_at octets n q) = octets
octets_taken (ended_at octets) = octets

-- a call's answer: how many octets of the chunk it took, what it hands out, and what it leaves to the next call
pub record Outcome : Type 0 where
  pub taken : ℕ
  pub event : Event
  pub next : Stream

abbrev pub outcome : ℕ → Event → Stream → Outcome
outcome taken event next = record { taken = taken; event = event; next = next }

-- a refusal takes nothing and hands out nothing but its number and place, and every further call gives it again; the end
-- likewise
abbrev pub refuses : (octets number place : ℕ) → Outcome
refuses octets n q = outcome 0 (refusal n q) (refused_at octets n q)

abbrev pub ends : (octets : ℕ) → Outcome
ends octets = outcome 0 (end octets) (ended_at octets)

-- in the file header: octets are held until all 16 are there, and then judged
abbrev pub header_taken : (octets taken : ℕ) → Answer ℕ → Outcome
header_taken octets taken (refused n q) = refuses octets n q
header_taken octets taken (given code) = outcome taken (datalink code) (in_record (octets + taken) [])

unfoldable pub take_header : (octets : ℕ) (held chunk : List ℕ) → Outcome
take_header octets held c =
    cond (ltb (length c) (header_length - length held))
    (outcome (length c) nothing (in_header (octets + length c) (held ++ c)))
    (header_taken octets (header_length - length held) (header_judged (held ++ take (header_length - length held) c)))

-- in a packet: the chunk's octets up to the packet's end are handed out, and with the last of them the record
abbrev pub handed : (position : ℕ) → List ℕ → Event
handed position c = cond (eqb (length c) 0) nothing (part position c)

unfoldable pub take_packet : (octets : ℕ) → Numbers → (done : ℕ) (chunk : List ℕ) → Outcome
take_packet octets n done c =
    cond (ltb (length c) (n.included - done))
    (outcome (length c) (handed done c) (in_packet (octets + length c) n (done + length c)))
    (outcome (n.included - done)
    (finished (octets - (record_length + done)) n done (take (n.included - done) c))
    (in_record (octets + (n.included - done)) []))

-- in a record's header: octets are held until all 24 are there; then 6, or the packet begins in what is left of the chunk
abbrev pub after : ℕ → Outcome → Outcome
after k o = outcome (k + o.taken) o.event o.next

unfoldable pub record_taken : (octets taken : ℕ) → Numbers → (left : List ℕ) → Outcome
record_taken octets k n c =
    cond (leb n.included n.original)
    (after k (take_packet (octets + k) n 0 c))
    (refuses octets included_length (octets + k - record_length + 4))

unfoldable pub take_record : (octets : ℕ) (held chunk : List ℕ) → Outcome
take_record octets held c =
    cond (ltb (length c) (record_length - length held))
    (outcome (length c) nothing (in_record (octets + length c) (held ++ c)))
    (record_taken octets (record_length - length held) (numbers_at (held ++ take (record_length - length held) c) 0)
    (drop (record_length - length held) c))

-- 32 comes before all but a repeated answer, by the octets taken and the chunk's whole length
abbrev pub within : (octets : ℕ) → List ℕ → Outcome → Outcome
within octets c o = cond (leb (octets + length c) most_octets) o (refuses octets long_stream 0)

-- one call with a chunk
unfoldable pub take_at : Stream → List ℕ → Outcome
take_at (in_header octets held) c = within octets c (take_header octets held c)
take_at (in_record octets held) c = within octets c (take_record octets held c)
take_at (in_packet octets n done) c = within octets c (take_packet octets n done c)
take_at (refused_at octets n q) c = refuses octets n q
take_at (ended_at octets) c = ends octets

-- the call that says that the stream has ended: 1, 5, 7 or the end
unfoldable pub end_at : Stream → Outcome
end_at (in_header octets held) = refuses octets short_header octets
end_at (in_record octets held) = cond (eqb (length held) 0) (ends octets) (refuses octets short_record (octets - length held))
end_at (in_packet octets n done) = refuses octets short_packet (octets - (record_length + done))
end_at (refused_at octets n q) = refuses octets n q
end_at (ended_at octets) = ends octets
