-- The struct that a call's answer is returned as, field by field. Kind 0 is a refusal, 1 a record, 2 the end, 3 nothing
-- finished yet, 5 the file header; a field that the kind has no value for is 0.
use Rattle.std.specs.Prelude.{ℕ, ◌-◌, ◌≡◌, cond, pos, List, length, eqb}
use Rattle.octets.specs.Parts.{part as part_of}
use Rattle.btsnoop_rules.specs.declared.Numbers.{Numbers}
use Rattle.stream_rules.specs.Stream as rules
use Rattle.stream_rules.specs.Stream.{Event, packet_octets, take_at}
use Rattle.stream_state.specs.State.{state_says}
use Rattle.stream_state.specs.declared.Stream.{Stream}
use Rattle.stream_state.specs.declared.Taken.{Taken}

-- zalghimo_taken without packet octets and without a record
abbrev pub plain_row : (kind number place taken datalink : ℕ) → Stream → Taken
plain_row kind number place taken datalink state =
    record {
      kind = kind;
      number = number;
      place = place;
      taken = taken;
      part = 0;
      size = 0;
      position = 0;
      datalink = datalink;
      start = 0;
      original = 0;
      included = 0;
      flags = 0;
      drops = 0;
      time = pos 0;
      state = state;
    }

-- zalghimo_taken with packet octets, by their place in the chunk, their number and their position in the packet
abbrev pub part_row : (taken part size position : ℕ) → Stream → Taken
part_row taken part size position state =
    record {
      kind = 3;
      number = 0;
      place = 0;
      taken = taken;
      part = part;
      size = size;
      position = position;
      datalink = 0;
      start = 0;
      original = 0;
      included = 0;
      flags = 0;
      drops = 0;
      time = pos 0;
      state = state;
    }

-- zalghimo_taken with a record, by its start and its numbers
abbrev pub record_row : (taken part size position start : ℕ) → Numbers → Stream → Taken
record_row taken part size position start n state =
    record {
      kind = 1;
      number = 0;
      place = 0;
      taken = taken;
      part = part;
      size = size;
      position = position;
      datalink = 0;
      start = start;
      original = n.original;
      included = n.included;
      flags = n.flags;
      drops = n.drops;
      time = n.time;
      state = state;
    }

-- where there are no packet octets, their place and their position are 0
abbrev pub if_any : (size number : ℕ) → ℕ
if_any size number = cond (eqb size 0) 0 number

-- zalghimo_taken: octets taken, what was handed out, and the state that is handed on. Packet octets are the last that
-- were taken.
abbrev pub taken_row : (taken : ℕ) → Event → Stream → Taken
taken_row taken rules.nothing state = plain_row 3 0 0 taken 0 state
taken_row taken (rules.datalink code) state = plain_row 5 0 0 taken code state
taken_row taken (rules.part position xs) state =
    part_row taken (if_any (length xs) (taken - length xs)) (length xs) (if_any (length xs) position) state
taken_row taken (rules.finished start n position xs) state =
    record_row taken (if_any (length xs) (taken - length xs)) (length xs) (if_any (length xs) position) start n state
taken_row taken (rules.refusal n q) state = plain_row 0 n q taken 0 state
taken_row taken (rules.end q) state = plain_row 2 0 0 taken 0 state

-- a call's answer as zalghimo_taken: every field is the row's, and the state says what is left to the next call
pub record TakenAs (o : rules.Outcome) (r : Taken) : Type 0 where
  pub row : r ≡ taken_row o.taken o.event r.state
  pub state : state_says r.state ≡ o.next

-- the packet octets that a call handed out are the part of its chunk that the answer names
abbrev pub PartHandedOut : Type 0
PartHandedOut =
    (st : rules.Stream) (c : List ℕ) (r : Taken) → TakenAs (take_at st c) r
    → part_of c r.part r.size ≡ packet_octets (take_at st c).event
