-- What holds of each call: how many octets it takes, when each answer comes, 32, and that the final answer stays.
-- Proofs: proofs/Calls.antt.
use Rattle.std.specs.Prelude.{ℕ, ◌+◌, ◌-◌, ◌≤◌, ◌<◌, ◌≡◌, Bool, true, false, ◌||◌, List, [], length, eqb}
use Rattle.refusals.specs.Refusals.{short_header, identification, version, short_record, included_length, short_packet, datalink as datalink_code}
use Rattle.octets.specs.Parts.{part as part_of}
use Rattle.btsnoop_rules.specs.declared.Numbers.{Numbers}
use Rattle.btsnoop_rules.specs.Header.{header_length}
use Rattle.btsnoop_rules.specs.Record.{record_length}
use Rattle.stream_rules.specs.Stream.{long_stream, most_octets, Event, nothing, datalink, part, finished, refusal, end, packet_octets, Stream, in_header, in_record, in_packet, refused_at, ended_at, fresh, octets_taken, Outcome, outcome, refuses, take_at, end_at}

-- what calls leave, from the fresh state on
pub data Left : Stream → Type 0 where
  at_first : Left fresh
  after_call : {st : Stream} → Left st → (c : List ℕ) → Left (take_at st c).next
  after_end : {st : Stream} → Left st → Left (end_at st).next

-- a final answer: a refusal or the end
abbrev pub Final : Event → Type 0
Final nothing = ⊥
Final (datalink code) = ⊥
Final (part position xs) = ⊥
Final (finished p n position xs) = ⊥
Final (refusal n q) = Unit {0}
Final (end q) = Unit {0}

-- a stream without a final answer
abbrev pub Live : Stream → Type 0
Live (in_header octets held) = Unit {0}
Live (in_record octets held) = Unit {0}
Live (in_packet octets n done) = Unit {0}
Live (refused_at octets n q) = ⊥
Live (ended_at octets) = ⊥

-- after a refusal or the end every further call gets the same answer, whatever the state and the chunks
pub record Repeated (o : Outcome) : Type 0 where
  pub call : (c : List ℕ) → take_at o.next c ≡ o
  pub over : end_at o.next ≡ o

pub record Repeats (st : Stream) : Type 0 where
  pub call : (c : List ℕ) → Final (take_at st c).event → Repeated (take_at st c)
  pub over : Final (end_at st).event × Repeated (end_at st)

abbrev pub SameAnswer : Type 0
SameAnswer = (st : Stream) → Repeats st

-- a call without a final answer says how many octets it took: one at least of a chunk that has any, no more than it
-- has, and the next call goes on behind them; with a final answer it takes none
pub record Takes (st : Stream) (c : List ℕ) : Type 0 where
  pub some : 1 ≤ length c → 1 ≤ (take_at st c).taken
  pub most : (take_at st c).taken ≤ length c
  pub onward : octets_taken (take_at st c).next ≡ octets_taken st + (take_at st c).taken

abbrev pub EachTakes : Type 0
EachTakes = (st : Stream) → Left st → (c : List ℕ)
    → ((Final (take_at st c).event → ⊥) → Takes st c) × (Final (take_at st c).event → (take_at st c).taken ≡ 0)

-- packet octets are handed out as a part of the chunk: the last that the call took
abbrev pub PartsOfChunk : Type 0
PartsOfChunk = (st : Stream) (c : List ℕ)
    → packet_octets (take_at st c).event
    ≡ part_of c ((take_at st c).taken - length (packet_octets (take_at st c).event)) (length (packet_octets (take_at st c).event))

-- a chunk of no octets changes nothing
abbrev pub EmptyChunk : Type 0
EmptyChunk = (st : Stream) → Left st → Live st → take_at st [] ≡ outcome 0 nothing st

-- 32, place 0, in any state without a final answer: exactly for a chunk that takes the stream past 2^63 - 1 octets, even
-- where the call would take less of it, and never for the end
abbrev pub TooLong : Type 0
TooLong = (st : Stream) → Live st → (c : List ℕ)
    → (most_octets < octets_taken st + length c → take_at st c ≡ refuses (octets_taken st) long_stream 0)
    × (octets_taken st + length c ≤ most_octets → (q : ℕ) → (take_at st c).event ≡ refusal long_stream q → ⊥)
    × ((q : ℕ) → (end_at st).event ≡ refusal long_stream q → ⊥)

-- what a stream awaits has not come whole: the file header, at the stream's start; a record's header; or a packet. So it
-- keeps fewer than 24 octets of a header, or the numbers of one.
abbrev pub Awaits : Stream → Type 0
Awaits (in_header octets held) = (octets ≡ length held) × (length held < header_length)
Awaits (in_record octets held) = (header_length + length held ≤ octets) × (length held < record_length)
Awaits (in_packet octets n done) = (header_length + record_length + done ≤ octets) × (done < n.included)
Awaits (refused_at octets n q) = Unit {0}
Awaits (ended_at octets) = Unit {0}

-- a place of the stream, the last octet before it not taken yet, is reached by a chunk
pub record Reached (octets : ℕ) (c : List ℕ) (place : ℕ) : Type 0 where
  pub before : octets < place
  pub there : place ≤ octets + length c

-- the refusals of a file header's octets
abbrev pub of_header : ℕ → Bool
of_header n = eqb n identification || (eqb n version || eqb n datalink_code)

-- when a call that took so many octets of its chunk hands out what it does. The code comes with the header's last octet,
-- a record with its own; 2, 3 and 4 when the chunk has the header's last octet, and 6, whose place is 4 behind the start of
-- a record, when it has the last of that record's header. Nothing else ends a call before its chunk is used up.
pub data Due (octets : ℕ) (c : List ℕ) (taken : ℕ) : Event → Type 0 where
  used_up : taken ≡ length c → Due octets c taken nothing
  part_used_up : {position : ℕ} {xs : List ℕ} → taken ≡ length c → Due octets c taken (part position xs)
  code_due : {code : ℕ} → Reached octets c header_length → octets + taken ≡ header_length → Due octets c taken (datalink code)
  record_due : {p position : ℕ} {xs : List ℕ} {n : Numbers} → Reached octets c (p + record_length + n.included)
      → octets + taken ≡ p + record_length + n.included → Due octets c taken (finished p n position xs)
  header_due : {n q : ℕ} → of_header n ≡ true → Reached octets c header_length → Due octets c taken (refusal n q)
  six_due : {q : ℕ} (start : ℕ) → q ≡ start + 4 → Reached octets c (start + record_length) → Due octets c taken (refusal included_length q)
  long_due : most_octets < octets + length c → Due octets c taken (refusal long_stream 0)

-- the answers that only the sender's word brings: 1, 5, 7 and "end"
abbrev pub only_at_end : Event → Bool
only_at_end nothing = false
only_at_end (datalink code) = false
only_at_end (part position xs) = false
only_at_end (finished p n position xs) = false
only_at_end (refusal n q) = eqb n short_header || (eqb n short_record || eqb n short_packet)
only_at_end (end q) = true

-- each answer comes in time: with the call that takes the octet that it needs, and not one later, since what a call
-- leaves has not come whole; 1, 5, 7 and the end when the sender says so, and not before
pub record Timely (st : Stream) : Type 0 where
  pub due : (c : List ℕ) → Due (octets_taken st) c (take_at st c).taken (take_at st c).event
  pub awaits : (c : List ℕ) → Awaits (take_at st c).next
  pub live : (c : List ℕ) → (Final (take_at st c).event → ⊥) → Live (take_at st c).next
  pub last : only_at_end (end_at st).event ≡ true

abbrev pub InTime : Type 0
InTime = (st : Stream) → Left st → Live st → Timely st
