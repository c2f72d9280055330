-- The C boundary of the LE pseudo-header: the struct that the reader's answer is returned as, field by field. Kind 0 is a
-- refusal, 1 values; a field that the kind has no value for is 0.
use Rattle.std.specs.Prelude.{ℕ, ◌+◌, ◌*◌, ℤ, pos}
use Rattle.refusals.specs.Refusals.{Answer, refused, given}
use Rattle.pseudo_header.specs.Flags as Flags
use Rattle.pseudo_header.specs.Flags.{bit_of}
use Rattle.le_rules.specs.declared.Values.{Values}
use Rattle.le_rules.specs.Flags.{Dependent, auxiliary, mic, Told}
use Rattle.le_rules.specs.Reading.{header_length, Header}
use Rattle.boundary_le.specs.declared.Le.{Le}

-- what is known: bit 0 the signal, 1 the noise, 2 the reference address, 3 the offences
abbrev pub known_bits : Told → ℕ
known_bits t = Flags.known_bits t.signal t.noise t.reference t.offences

-- bits 12 and 13 of the flags
abbrev pub dependent_number : Dependent → ℕ
dependent_number (auxiliary kind) = kind
dependent_number (mic checked passed) = bit_of checked + 2 * bit_of passed

-- zalghimo_le: the packet's place follows the header
abbrev pub le_row : Answer Header → Le
le_row (refused n q) =
    record {
      kind = 0;
      number = n;
      place = q;
      channel = 0;
      signal = pos 0;
      noise = pos 0;
      offences = 0;
      reference = 0;
      flags = 0;
      known = 0;
      pdu = 0;
      phy = 0;
      dependent = 0;
      packet = 0;
    }
le_row (given h) =
    record {
      kind = 1;
      number = 0;
      place = 0;
      channel = h.values.channel;
      signal = h.values.signal;
      noise = h.values.noise;
      offences = h.values.offences;
      reference = h.values.reference;
      flags = h.values.flags;
      known = known_bits h.told;
      pdu = h.told.pdu;
      phy = h.told.phy;
      dependent = dependent_number h.told.dependent;
      packet = header_length;
    }

-- zalghimo_le_write: its parameters, as the values to write
abbrev pub le_values : (channel : ℕ) → (signal noise : ℤ) → (offences reference flags : ℕ) → Values
le_values channel signal noise offences reference flags =
    record {
      channel = channel;
      signal = signal;
      noise = noise;
      offences = offences;
      reference = reference;
      flags = flags;
    }
