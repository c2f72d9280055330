-- Request W-206: the reading of the 22 octets (source document 000). What follows them is payload and is not read.
use Rattle.std.specs.Prelude.{ℕ, Bool, cond, List, length, get_or, leb, ltb}
use Rattle.refusals.specs.Refusals.{Answer, refused, given, short_header}
use Rattle.octets.specs.Numbers.{little, number_at}
use Rattle.octets.specs.Signed.{signed}
use Rattle.bredr_rules.specs.declared.Values.{Values}
use Rattle.bredr_rules.specs.Flags.{Known, known_by}

-- the header: RF channel, signal, noise, access code offences, payload transport rate, corrected header bits (1 octet
-- each), corrected payload bits (2), lower address part (4), reference LAP (3), reference UAP (1), packet header (4), flags (2)
abbrev pub header_length : ℕ
header_length = 22

-- the values in the 22 octets, little-endian; signal, noise and corrected payload bits are signed. Reserved bits and
-- octets are kept and not judged.
unfoldable pub values_in : List ℕ → Values
values_in s =
    record {
      rf_channel = get_or s 0 0;
      signal = signed 8 (get_or s 1 0);
      noise = signed 8 (get_or s 2 0);
      offences = get_or s 3 0;
      rate = get_or s 4 0;
      header_bits = get_or s 5 0;
      payload_bits = signed 16 (number_at little 2 s 6);
      lap = number_at little 4 s 8;
      reference_lap = number_at little 3 s 12;
      reference_uap = get_or s 15 0;
      packet_header = number_at little 4 s 16;
      flags = number_at little 2 s 20;
    }

-- an RF channel above 78 is refused with 8, as one above 39 is in the LE pseudo-header
abbrev pub rf_channel : ℕ
rf_channel = 8

-- an RF channel is 0 to 78
abbrev pub last_channel : ℕ
last_channel = 78

abbrev pub channel_test : (channel : ℕ) → Bool
channel_test channel = leb channel last_channel

-- a header that is read: its values, each as known or not
pub record Header : Type 0 where
  pub values : Values
  pub known : Known

abbrev pub header_of : Values → Header
header_of v = record { values = v; known = known_by v.flags }

abbrev pub judged : Values → Answer Header
judged v = cond (channel_test v.rf_channel) (given (header_of v)) (refused rf_channel 0)

-- the reading, in the order 1, 8
unfoldable pub reading_of : List ℕ → Answer Header
reading_of s = cond (ltb (length s) header_length) (refused short_header (length s)) (judged (values_in s))
