-- A finished record as zalghimo_taken, by what it is built of.
use Rattle.std.specs.Prelude.{ℕ, ◌≡◌, []}
use Rattle.btsnoop_rules.specs.declared.Numbers.{Numbers}
use Rattle.stream_rules.specs.Stream.{in_record}
use Rattle.stream_state.specs.declared.Taken.{Taken}
use Rattle.stream_state.specs.State.{state_says}
use Rattle.stream_state.specs.Rows.{record_row, if_any}

-- octets taken, the last so many of them handed out from a place in the chunk on, their position in the packet, the
-- record's start and numbers, and a state that awaits the next record
pub record FinishedAs (taken from size position start : ℕ) (n : Numbers) (octets : ℕ) (r : Taken) : Type 0 where
  pub row : r ≡ record_row taken (if_any size from) size (if_any size position) start n r.state
  pub state : state_says r.state ≡ in_record octets []
