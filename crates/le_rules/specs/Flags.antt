-- Document 01, "LE pseudo-header": what the flags tell. The flags are kept whole, reserved bits too.
use Rattle.std.specs.Prelude.{ℕ, ◌/◌, ◌%◌, ◌^◌, Bool, cond, eqb}

-- whether a flag bit is set
abbrev pub flag : (bit flags : ℕ) → Bool
flag bit flags = eqb (flags / 2 ^ bit % 2) 1

-- each value is known or not by its flag: signal by 0x0002, noise by 0x0004, reference address by 0x0010, offences by 0x0020
abbrev pub signal_known : (flags : ℕ) → Bool
signal_known flags = flag 1 flags

abbrev pub noise_known : (flags : ℕ) → Bool
noise_known flags = flag 2 flags

abbrev pub reference_known : (flags : ℕ) → Bool
reference_known flags = flag 4 flags

abbrev pub offences_known : (flags : ℕ) → Bool
offences_known flags = flag 5 flags

-- the PDU type is flags bits 7 to 9, counted from 0
abbrev pub pdu_type : (flags : ℕ) → ℕ
pdu_type flags = flags / 2 ^ 7 % 2 ^ 3

-- the PHY is flags bits 14 and 15, counted from 0
abbrev pub phy : (flags : ℕ) → ℕ
phy flags = flags / 2 ^ 14 % 2 ^ 2

-- bits 12 and 13: for PDU type 1 the auxiliary kind, otherwise MIC checked and MIC passed
pub data Dependent : Type 0 where
  auxiliary : (kind : ℕ) → Dependent
  mic : (checked passed : Bool) → Dependent

abbrev pub dependent_bits : (flags : ℕ) → ℕ
dependent_bits flags = flags / 2 ^ 12 % 2 ^ 2

abbrev pub auxiliary_advertising : ℕ
auxiliary_advertising = 1

abbrev pub dependent : (flags : ℕ) → Dependent
dependent flags =
    cond (eqb (pdu_type flags) auxiliary_advertising)
    (auxiliary (dependent_bits flags))
    (mic (flag 12 flags) (flag 13 flags))

-- what the flags tell: each value as known or not, the PDU type, the PHY, and the bits that depend on the type
pub record Told : Type 0 where
  pub signal : Bool
  pub noise : Bool
  pub reference : Bool
  pub offences : Bool
  pub pdu : ℕ
  pub phy : ℕ
  pub dependent : Dependent

abbrev pub told_by : (flags : ℕ) → Told
told_by flags =
    record {
      signal = signal_known flags;
      noise = noise_known flags;
      reference = reference_known flags;
      offences = offences_known flags;
      pdu = pdu_type flags;
      phy = phy flags;
      dependent = dependent flags;
    }
