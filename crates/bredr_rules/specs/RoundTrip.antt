-- What holds of writing and reading a pseudo-header together. Proofs: proofs/RoundTrip.antt.
use Rattle.std.specs.Prelude.{ℕ, ◌+◌, ◌^◌, ◌<◌, ◌≤◌, ◌≡◌, List, ◌++◌, length, take}
use Rattle.std.specs.Int.Signed.{mag}
use Rattle.refusals.specs.Refusals.{given}
use Rattle.octets.specs.Numbers.{Octets}
use Rattle.octets.specs.Parts.{part}
use Rattle.pseudo_header.specs.Writes.{WritesOnly}
use Rattle.bredr_rules.specs.declared.Values.{Values}
use Rattle.bredr_rules.specs.Reading.{header_length, Header, header_of, reading_of}
use Rattle.bredr_rules.specs.Writing.{header_octets, writing, written}

-- values that their fields can hold
pub record Representable (v : Values) : Type 0 where
  pub rf_channel : v.rf_channel < 2 ^ 8
  pub signal : mag v.signal < 2 ^ 7
  pub noise : mag v.noise < 2 ^ 7
  pub offences : v.offences < 2 ^ 8
  pub rate : v.rate < 2 ^ 8
  pub header_bits : v.header_bits < 2 ^ 8
  pub payload_bits : mag v.payload_bits < 2 ^ 15
  pub lap : v.lap < 2 ^ 32
  pub reference_lap : v.reference_lap < 2 ^ 24
  pub reference_uap : v.reference_uap < 2 ^ 8
  pub packet_header : v.packet_header < 2 ^ 32
  pub flags : v.flags < 2 ^ 16

-- reading what was written returns the values, whatever payload follows: from the octets that a writer put into an output
pub record ReadsBack (out : List ℕ) (at : ℕ) (v : Values) : Type 0 where
  pub octets : part (written out at v) at header_length ≡ header_octets v
  pub header : (payload : List ℕ) → reading_of (header_octets v ++ payload) ≡ given (header_of v)

abbrev pub ReadAfterWrite : Type 0
ReadAfterWrite = (out : List ℕ) (at next : ℕ) (v : Values) → Representable v → writing (length out) at v ≡ given next
    → ReadsBack out at v

-- writing what was read gives the header's very octets back, for every accepted input and wherever there is room
pub record WritesBack (s : List ℕ) (h : Header) : Type 0 where
  pub octets : header_octets h.values ≡ take header_length s
  pub accepted : (size at : ℕ) → at + header_length ≤ size → writing size at h.values ≡ given (at + header_length)

abbrev pub WriteAfterRead : Type 0
WriteAfterRead = (s : List ℕ) (h : Header) → Octets s → reading_of s ≡ given h → WritesBack s h

-- an accepted write changes only the octets written
abbrev pub OnlyWritten : Type 0
OnlyWritten = (out : List ℕ) (at next : ℕ) (v : Values) → writing (length out) at v ≡ given next
    → WritesOnly out at header_length (written out at v)
