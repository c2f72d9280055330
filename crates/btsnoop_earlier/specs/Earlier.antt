-- Document 01, "BTSnoop": the earlier of two captures, given a place in each.
use Rattle.std.specs.Prelude.{ℕ, cond, List, [], eqb}
use Rattle.std.specs.Int.Signed.{le_z}
use Rattle.refusals.specs.Refusals.{Answer, refused, given}
use Rattle.octets.specs.Parts.{part}
use Rattle.btsnoop_rules.specs.declared.Numbers.{Numbers}
use Rattle.btsnoop_rules.specs.Record.{Found, end, whole, record_at}

-- the answer: the refusal of one capture, "end" of both, or the capture whose packet it is, with the packet's place
-- and length there. The first capture is 1, the second 2.
pub data Earlier : Type 0 where
  refused_in : (capture number place : ℕ) → Earlier
  both_stop : Earlier
  packet_of : (capture packet size : ℕ) → Earlier

-- the record with the smaller time; on equal times the first capture's
abbrev pub smaller_time : Numbers → ℕ → Numbers → ℕ → Earlier
smaller_time n packet m packet' =
    cond (le_z n.time m.time) (packet_of 1 packet n.included) (packet_of 2 packet' m.included)

-- a refusal of either capture, the first's before the second's, comes before all; if one is at its end, the other's
-- packet; if both, "end"
abbrev pub decided : Answer Found → Answer Found → Earlier
decided (refused n q) second = refused_in 1 n q
decided (given end) (refused n q) = refused_in 2 n q
decided (given (whole n packet next)) (refused m q) = refused_in 2 m q
decided (given end) (given end) = both_stop
decided (given end) (given (whole m packet next)) = packet_of 2 packet m.included
decided (given (whole n packet next)) (given end) = packet_of 1 packet n.included
decided (given (whole n packet next)) (given (whole m packet' next')) = smaller_time n packet m packet'

unfoldable pub earlier_of : (first : List ℕ) (first_at : ℕ) (second : List ℕ) (secondAt : ℕ) → Earlier
earlier_of first first_at second secondAt = decided (record_at first first_at) (record_at second secondAt)

-- the packet part that is handed back: of the capture named, and empty on "end" or refusal
abbrev pub part_in : (first second : List ℕ) → Earlier → List ℕ
part_in first second (refused_in capture n q) = []
part_in first second both_stop = []
part_in first second (packet_of capture packet size) = cond (eqb capture 1) (part first packet size) (part second packet size)

unfoldable pub earlier_part : (first : List ℕ) (first_at : ℕ) (second : List ℕ) (secondAt : ℕ) → List ℕ
earlier_part first first_at second secondAt = part_in first second (earlier_of first first_at second secondAt)
