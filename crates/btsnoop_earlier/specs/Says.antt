-- What the answer beside the earlier packet says in document 01's terms, case by case.
use Rattle.std.specs.Prelude.{ℕ, Option, Some, None, Result, Ok, Err}
use Rattle.refusals.specs.Refusals.{Answer, refused, given}
use Rattle.refusals.specs.Says.{number_of}
use Rattle.btsnoop_rules.specs.Record.{Found}
use Rattle.btsnoop_record.specs.declared.Record.{Record}
use Rattle.btsnoop_record.specs.Says.{found_of}
use Rattle.btsnoop_earlier.specs.Earlier.{Earlier, refused_in, both_stop, packet_of}
use Rattle.btsnoop_earlier.specs.declared.Capture.{Capture}
use Rattle.btsnoop_earlier.specs.declared.EarlierPacket.{EarlierPacket}
use Rattle.btsnoop_earlier.specs.declared.CaptureRefusal.{CaptureRefusal}

-- the first capture is 1, the second 2
abbrev pub capture_says : Capture → ℕ
capture_says Capture.First = 1
capture_says Capture.Second = 2

-- what the record reader says, whichever the capture
abbrev pub read_says : Result (Option Record) CaptureRefusal → Answer Found
read_says (Ok o) = given (found_of o)
read_says (Err r) = refused (number_of r.refusal.reason) r.refusal.place

-- the capture with its packet's place and length
abbrev pub packet_says : EarlierPacket → Earlier
packet_says p = packet_of (capture_says p.capture) p.packet p.size

-- the end of both, or the packet
abbrev pub choice_says : Option EarlierPacket → Earlier
choice_says None = both_stop
choice_says (Some p) = packet_says p

-- the end or the packet, or the refusal with its capture
abbrev pub earlier_says : Result (Option EarlierPacket) CaptureRefusal → Earlier
earlier_says (Ok o) = choice_says o
earlier_says (Err r) = refused_in (capture_says r.capture) (number_of r.refusal.reason) r.refusal.place
