-- What the state says, by its phase.
-- Assumes nothing.
use Prim.Native.Nat.{◌%◌, ◌^◌}
use mathlib.Core.Path.{◌≡◌, refl, ap, ◌∙◌}
use mathlib.Core.Bool.{Bool, true, false, cond}
use lib.Dec.{eqb}
use lib.ListN.{take}
use Rattle.btsnoop_rules.specs.Record.{numbers_at}
use Rattle.stream_rules.specs.Stream as rules
use Rattle.stream_state.specs.declared.Phase.{Phase}
use Rattle.stream_state.specs.declared.Stream.{Stream}
use Rattle.stream_state.specs.State.{phase_of, state_says}

-- the stream of a phase
abbrev pub by_phase : Phase → Stream → rules.Stream
by_phase Phase.Header s = rules.in_header s.octets (take s.count s.held)
by_phase Phase.Record s = rules.in_record s.octets (take s.count s.held)
by_phase Phase.Packet s = rules.in_packet s.octets (numbers_at s.held 0) (s.done % 2 ^ 32)
by_phase Phase.Refused s = rules.refused_at s.octets (s.number % 2 ^ 32) s.place
by_phase Phase.Ended s = rules.ended_at s.octets

-- a state is of the phase that its number stands for
pub says_in : (s : Stream) {phase : Phase} → phase ≡ phase_of s.phase → by_phase phase s ≡ state_says s
says_in s {phase} e =
    ap (λ (p : Phase). by_phase p s) e ∙ go (eqb s.phase 0) (eqb s.phase 1) (eqb s.phase 2) (eqb s.phase 3)
  where
    go : (h r p f : Bool)
        → by_phase (cond h Phase.Header (cond r Phase.Record (cond p Phase.Packet (cond f Phase.Refused Phase.Ended)))) s
        ≡ cond h (by_phase Phase.Header s)
        (cond r (by_phase Phase.Record s)
        (cond p (by_phase Phase.Packet s)
        (cond f (by_phase Phase.Refused s) (by_phase Phase.Ended s))))
    go true r p f = refl
    go false true p f = refl
    go false false true f = refl
    go false false false true = refl
    go false false false false = refl
