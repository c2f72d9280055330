-- What the state that is handed on from call to call says in the terms of the rules.
use Rattle.std.specs.Prelude.{ℕ, ◌%◌, ◌^◌, cond, List, take, eqb, replicate}
use Rattle.btsnoop_rules.specs.Record.{numbers_at}
use Rattle.stream_rules.specs.Stream as rules
use Rattle.stream_state.specs.declared.Phase.{Phase}
use Rattle.stream_state.specs.declared.Held.{Held}
use Rattle.stream_state.specs.declared.Stream.{Stream}

-- the number of a phase in the state, and the phase of a number: any but the first four is the end's
abbrev pub phase_number : Phase → ℕ
phase_number Phase.Header = 0
phase_number Phase.Record = 1
phase_number Phase.Packet = 2
phase_number Phase.Refused = 3
phase_number Phase.Ended = 4

abbrev pub phase_of : ℕ → Phase
phase_of number =
    cond (eqb number 0) Phase.Header
    (cond (eqb number 1) Phase.Record
    (cond (eqb number 2) Phase.Packet
    (cond (eqb number 3) Phase.Refused Phase.Ended)))

-- the octets of a header that are held
abbrev pub octets_held : Held → List ℕ
octets_held h = take h.count h.octets

-- a state of a phase with so many octets taken and nothing besides
abbrev pub bare_state : Phase → (octets : ℕ) → Stream
bare_state phase octets =
    record {
      phase = phase_number phase;
      number = 0;
      place = 0;
      octets = octets;
      count = 0;
      done = 0;
      held = replicate 24 0;
    }

-- by the phase, the first so many octets held, the numbers in all 24 of them, or the final answer: phase 0 is the file
-- header, 1 a record's header, 2 a packet, 3 a refusal, any other the end. The refusal's number and the octets handed out
-- of a packet are taken modulo 2^32.
abbrev pub keeps : (phase number place octets count done : ℕ) (held : List ℕ) → rules.Stream
keeps phase number place octets count done held =
    cond (eqb phase 0) (rules.in_header octets (take count held))
    (cond (eqb phase 1) (rules.in_record octets (take count held))
    (cond (eqb phase 2) (rules.in_packet octets (numbers_at held 0) (done % 2 ^ 32))
    (cond (eqb phase 3) (rules.refused_at octets (number % 2 ^ 32) place) (rules.ended_at octets))))

abbrev pub state_says : Stream → rules.Stream
state_says s = keeps s.phase s.number s.place s.octets s.count s.done s.held
