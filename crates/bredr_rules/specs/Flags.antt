-- Request W-206: what the flags tell (source document 000, LINKTYPE_BLUETOOTH_BREDR_BB). The flags are kept whole, reserved
-- bits too.
use Rattle.std.specs.Prelude.{ℕ, Bool, true}
use Rattle.pseudo_header.specs.Flags.{flag}

-- each value as known or not
pub record Known : Type 0 where
  pub rf_channel : Bool
  pub signal : Bool
  pub noise : Bool
  pub offences : Bool
  pub rate : Bool
  pub header_bits : Bool
  pub payload_bits : Bool
  pub lap : Bool
  pub reference_lap : Bool
  pub reference_uap : Bool
  pub packet_header : Bool
  pub flags : Bool

-- a value whose validity has a flag is known by it: signal by 0x0002, noise by 0x0004, reference LAP by 0x0010, reference
-- UAP by 0x0080; every other is known
abbrev pub known_by : (flags : ℕ) → Known
known_by flags =
    record {
      rf_channel = true;
      signal = flag 1 flags;
      noise = flag 2 flags;
      offences = true;
      rate = true;
      header_bits = true;
      payload_bits = true;
      lap = true;
      reference_lap = flag 4 flags;
      reference_uap = flag 7 flags;
      packet_header = true;
      flags = true;
    }
