-- Document 01, "LE pseudo-header": the reading of ten octets and a packet.
use Rattle.std.specs.Prelude.{ℕ, Bool, cond, List, [], length, get_or, drop, leb, ltb, eqb}
use Rattle.refusals.specs.Refusals.{Answer, refused, given, short_header, short_packet}
use Rattle.octets.specs.Numbers.{little, number_at}
use Rattle.octets.specs.Signed.{signed}
use Rattle.le_rules.specs.declared.Values.{Values}
use Rattle.le_rules.specs.Flags.{pdu_type, phy, Told, told_by}

-- the header: RF channel, signal, noise, offences, reference access address (4), flags (2)
abbrev pub header_length : ℕ
header_length = 10

-- the values in the ten octets, little-endian. Signal and noise are signed dBm: 0x80 is -128, 0xFF is -1.
unfoldable pub values_in : List ℕ → Values
values_in s =
    record {
      channel = get_or s 0 0;
      signal = signed 8 (get_or s 1 0);
      noise = signed 8 (get_or s 2 0);
      offences = get_or s 3 0;
      reference = number_at little 4 s 4;
      flags = number_at little 2 s 8;
    }

-- a value out of range: an RF channel above 39, PDU type 7, PHY 3
pub data Fault : Type 0 where
  channel_above : Fault
  pdu_type_reserved : Fault
  phy_reserved : Fault

-- the number of each (request W-202): 8 for the channel, 21 for the PDU type, 22 for the PHY
abbrev pub fault_number : Fault → ℕ
fault_number channel_above = 8
fault_number pdu_type_reserved = 21
fault_number phy_reserved = 22

-- the place of each: 0 for the channel, 8 for the others
abbrev pub fault_place : Fault → ℕ
fault_place channel_above = 0
fault_place pdu_type_reserved = 8
fault_place phy_reserved = 8

abbrev pub last_channel : ℕ
last_channel = 39

abbrev pub reserved_type : ℕ
reserved_type = 7

abbrev pub reserved_phy : ℕ
reserved_phy = 3

abbrev pub coded_phy : ℕ
coded_phy = 2

-- values judged in the order channel, PDU type, PHY: a fault, or none
pub data Range : Type 0 where
  out_of : Fault → Range
  within : Range

abbrev pub range_of : (channel flags : ℕ) → Range
range_of channel flags =
    cond (leb channel last_channel)
    (cond (eqb (pdu_type flags) reserved_type)
    (out_of pdu_type_reserved)
    (cond (eqb (phy flags) reserved_phy) (out_of phy_reserved) within))
    (out_of channel_above)

-- the packet is the rest: at least 4 octets, at least 5 for PHY 2 (coded)
abbrev pub least_packet : (flags : ℕ) → ℕ
least_packet flags = cond (eqb (phy flags) coded_phy) 5 4

abbrev pub packet_test : (flags packet : ℕ) → Bool
packet_test flags packet = leb (least_packet flags) packet

-- a header that is read: its values, and what its flags tell
pub record Header : Type 0 where
  pub values : Values
  pub told : Told

abbrev pub header_of : Values → Header
header_of v = record { values = v; told = told_by v.flags }

abbrev pub judged : (packet : ℕ) → Values → Range → Answer Header
judged packet v (out_of fault) = refused (fault_number fault) (fault_place fault)
judged packet v within =
    cond (packet_test v.flags packet) (given (header_of v)) (refused short_packet header_length)

-- the reading, in the order 1, channel (8), PDU type (21), PHY (22), 7
unfoldable pub reading_of : List ℕ → Answer Header
reading_of s =
    cond (ltb (length s) header_length)
    (refused short_header (length s))
    (judged (length (drop header_length s)) (values_in s) (range_of (values_in s).channel (values_in s).flags))

-- the packet of a header that is read; empty where it is refused
abbrev pub packet_of : List ℕ → Answer Header → List ℕ
packet_of s (refused n q) = []
packet_of s (given h) = drop header_length s

abbrev pub packet_in : List ℕ → List ℕ
packet_in s = packet_of s (reading_of s)
