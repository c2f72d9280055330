-- Document 01, "BTSnoop": one record at a place.
use Rattle.std.specs.Prelude.{ℕ, ◌+◌, ◌-◌, ◌/◌, ◌%◌, ◌^◌, ◌≤◌, ◌≡◌, Bool, cond, ◌&&◌, List, [], length, leb, eqb}
use Rattle.refusals.specs.Refusals.{Answer, refused, given, short_record, included_length, short_packet, record_place}
use Rattle.octets.specs.Numbers.{big, number_at}
use Rattle.octets.specs.Signed.{signed}
use Rattle.octets.specs.Parts.{part}
use Rattle.tiling.specs.Tiling.{Next}
use Rattle.btsnoop_rules.specs.declared.Numbers.{Numbers}
use Rattle.btsnoop_rules.specs.Header.{header_length}

-- the length of a record before its packet
abbrev pub record_length : ℕ
record_length = 24

-- the numbers in a record's 24 octets: original length, included length, flags, cumulative drops (32 bits each) and
-- the signed 64-bit time, all big-endian
unfoldable pub numbers_at : List ℕ → ℕ → Numbers
numbers_at s p =
    record {
      original = number_at big 4 s p;
      included = number_at big 4 s (p + 4);
      flags = number_at big 4 s (p + 8);
      drops = number_at big 4 s (p + 12);
      time = signed 64 (number_at big 8 s (p + 16));
    }

-- bit 0 of the flags set: received
unfoldable pub received : ℕ → Bool
received flags = eqb (flags / 2 ^ 0 % 2) 1

-- bit 1 of the flags set: command or event
unfoldable pub command : ℕ → Bool
command flags = eqb (flags / 2 ^ 1 % 2) 1

-- what a record reader finds at a place that it does not refuse: the end, or the numbers of a whole record, the place
-- of its packet and the place of the next record
pub data Found : Type 0 where
  end : Found
  whole : Numbers → (packet next : ℕ) → Found

-- the judgement of a record's numbers at a place from which so many octets are left, in the order 6, 7
unfoldable pub record_judged : ℕ → ℕ → Numbers → Answer Found
record_judged left p n =
    cond (leb n.included n.original)
    (cond (leb (record_length + n.included) left)
    (given (whole n (p + record_length) (p + record_length + n.included)))
    (refused short_packet p))
    (refused included_length (p + 4))

-- whether a record may start at a place: not below 16 and not above the input's length
abbrev pub record_placed : List ℕ → ℕ → Bool
record_placed s p = leb header_length p && leb p (length s)

-- the reading of the record at a place, in the order 17, "end", 5, and then the judgement of its numbers
unfoldable pub record_at : List ℕ → ℕ → Answer Found
record_at s p =
    cond (record_placed s p)
    (cond (eqb p (length s))
    (given end)
    (cond (leb record_length (length s - p)) (record_judged (length s - p) p (numbers_at s p)) (refused short_record p)))
    (refused record_place p)

-- the packet of the record found: exactly the included number of octets. No record, no octets.
abbrev pub packet_in : List ℕ → Answer Found → List ℕ
packet_in s (refused n q) = []
packet_in s (given end) = []
packet_in s (given (whole n packet next)) = part s packet n.included

unfoldable pub packet_at : List ℕ → ℕ → List ℕ
packet_at s p = packet_in s (record_at s p)

-- a record: its numbers and its packet's octets
pub record Record : Type 0 where
  pub numbers : Numbers
  pub packet : List ℕ

-- the step from a record to the next, for walks and surveys
abbrev pub step_on : List ℕ → Answer Found → Answer (Next Record)
step_on s (refused n q) = refused n q
step_on s (given end) = given Next.end
step_on s (given (whole n packet next)) = given (Next.whole (record { numbers = n; packet = part s packet n.included }) next)

abbrev pub record_step : List ℕ → ℕ → Answer (Next Record)
record_step s p = step_on s (record_at s p)

-- a record is whole when all its octets lie in the input and its included length is not above its original length:
-- this record lies whole from p up to q
pub record WholeAt (s : List ℕ) (p : ℕ) (r : Record) (q : ℕ) : Type 0 where
  pub behind_header : header_length ≤ p
  pub numbers : r.numbers ≡ numbers_at s p
  pub included : r.numbers.included ≤ r.numbers.original
  pub packet : r.packet ≡ part s (p + record_length) r.numbers.included
  pub next : q ≡ p + record_length + r.numbers.included
  pub inside : q ≤ length s
