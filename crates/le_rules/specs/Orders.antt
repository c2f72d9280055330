-- Document 01, "Refusal numbers": each refusal is given exactly when its condition holds and no earlier one in the order
-- does. Proofs: proofs/Orders.antt.
use Rattle.std.specs.Prelude.{ℕ, ◌+◌, ◌≤◌, ◌<◌, ◌≡◌, ◌↔◌, List, length, drop}
use Rattle.refusals.specs.Refusals.{Answer, refused, given, short_header, short_packet, no_room}
use Rattle.le_rules.specs.declared.Values.{Values}
use Rattle.le_rules.specs.Flags.{pdu_type, phy}
use Rattle.le_rules.specs.Reading.{header_length, values_in, Fault, fault_number, fault_place, channel_above, pdu_type_reserved, phy_reserved, last_channel, reserved_type, reserved_phy, Range, out_of, within, range_of, least_packet, Header, header_of, reading_of}
use Rattle.le_rules.specs.Writing.{writing}

-- a channel and flags, in the order channel, PDU type, PHY: the first fault, or none
pub data JudgedAs (channel flags : ℕ) : Range → Type 0 where
  channel_fault : last_channel < channel → JudgedAs channel flags (out_of channel_above)
  pdu_type_fault : channel ≤ last_channel → pdu_type flags ≡ reserved_type → JudgedAs channel flags (out_of pdu_type_reserved)
  phy_fault : channel ≤ last_channel → (pdu_type flags ≡ reserved_type → ⊥) → phy flags ≡ reserved_phy
      → JudgedAs channel flags (out_of phy_reserved)
  no_fault : channel ≤ last_channel → (pdu_type flags ≡ reserved_type → ⊥) → (phy flags ≡ reserved_phy → ⊥)
      → JudgedAs channel flags within

abbrev pub RangeExactly : Type 0
RangeExactly = (channel flags : ℕ) (range : Range) → (range_of channel flags ≡ range) ↔ JudgedAs channel flags range

-- values that are judged so
abbrev pub Judged : Values → Range → Type 0
Judged v = JudgedAs v.channel v.flags

-- what a reading answers and when, in the order 1, channel, PDU type, PHY, 7
pub data Reads (s : List ℕ) : Answer Header → Type 0 where
  short : length s < header_length → Reads s (refused short_header (length s))
  fault : (f : Fault) → header_length ≤ length s → Judged (values_in s) (out_of f)
      → Reads s (refused (fault_number f) (fault_place f))
  few : header_length ≤ length s → Judged (values_in s) within
      → length (drop header_length s) < least_packet (values_in s).flags → Reads s (refused short_packet header_length)
  accepted : header_length ≤ length s → Judged (values_in s) within
      → least_packet (values_in s).flags ≤ length (drop header_length s) → Reads s (given (header_of (values_in s)))

abbrev pub ReadingExactly : Type 0
ReadingExactly = (s : List ℕ) (answer : Answer Header) → (reading_of s ≡ answer) ↔ Reads s answer

-- what writing answers and when, in the order channel, PDU type, PHY, 7, 13, every refusal at place 0
pub data Writes (size at : ℕ) (v : Values) (packet : List ℕ) : Answer ℕ → Type 0 where
  fault : (f : Fault) → Judged v (out_of f) → Writes size at v packet (refused (fault_number f) 0)
  few : Judged v within → length packet < least_packet v.flags → Writes size at v packet (refused short_packet 0)
  full : Judged v within → least_packet v.flags ≤ length packet → size < at + (header_length + length packet)
      → Writes size at v packet (refused no_room 0)
  accepted : Judged v within → least_packet v.flags ≤ length packet → at + (header_length + length packet) ≤ size
      → Writes size at v packet (given (at + (header_length + length packet)))

abbrev pub WritingExactly : Type 0
WritingExactly = (size at : ℕ) (v : Values) (packet : List ℕ) (answer : Answer ℕ)
    → (writing size at v packet ≡ answer) ↔ Writes size at v packet answer

-- Request W-202: the number alone says which value is out of range. Reading refuses with a fault's number exactly where a
-- whole header's first fault is this one, at its place; writing exactly where the values' first fault is, at place 0
pub record FaultExactly (f : Fault) (number place : ℕ) : Type 0 where
  pub when_read : (s : List ℕ) (q : ℕ)
      → (reading_of s ≡ refused number q) ↔ ((header_length ≤ length s) × (Judged (values_in s) (out_of f) × (q ≡ place)))
  pub when_written : (size at : ℕ) (v : Values) (packet : List ℕ) (q : ℕ)
      → (writing size at v packet ≡ refused number q) ↔ (Judged v (out_of f) × (q ≡ 0))

-- 8 for the RF channel only, 21 for PDU type 7 and 22 for PHY 3, both at place 8
pub record FaultsExactly : Type 0 where
  pub channel : FaultExactly channel_above 8 0
  pub pdu_type : FaultExactly pdu_type_reserved 21 8
  pub phy : FaultExactly phy_reserved 22 8
