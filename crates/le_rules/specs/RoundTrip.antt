-- What holds of writing and reading a pseudo-header together. Proofs: proofs/RoundTrip.antt.
use Rattle.std.specs.Prelude.{ℕ, ◌+◌, ◌^◌, ◌<◌, ◌≤◌, ◌≡◌, List, length, take, drop}
use Rattle.std.specs.Int.Signed.{mag}
use Rattle.refusals.specs.Refusals.{given}
use Rattle.octets.specs.Numbers.{Octets}
use Rattle.octets.specs.Parts.{part}
use Rattle.le_rules.specs.declared.Values.{Values}
use Rattle.le_rules.specs.Reading.{header_length, Header, header_of, reading_of, packet_in}
use Rattle.le_rules.specs.Writing.{octets_for, writing, written}

-- values that their fields can hold
pub record Representable (v : Values) : Type 0 where
  pub channel : v.channel < 2 ^ 8
  pub signal : mag v.signal < 2 ^ 7
  pub noise : mag v.noise < 2 ^ 7
  pub offences : v.offences < 2 ^ 8
  pub reference : v.reference < 2 ^ 32
  pub flags : v.flags < 2 ^ 16

-- reading what was written returns the values and the packet: from the octets that a writer put into an output
pub record ReadsBack (out : List ℕ) (at : ℕ) (v : Values) (packet : List ℕ) : Type 0 where
  pub octets : part (written out at v packet) at (header_length + length packet) ≡ octets_for v packet
  pub header : reading_of (octets_for v packet) ≡ given (header_of v)
  pub packet_back : packet_in (octets_for v packet) ≡ packet

abbrev pub ReadAfterWrite : Type 0
ReadAfterWrite = (out : List ℕ) (at next : ℕ) (v : Values) (packet : List ℕ) → Representable v
    → writing (length out) at v packet ≡ given next → ReadsBack out at v packet

-- writing what was read gives the very octets back, for every accepted input and wherever there is room
pub record WritesBack (s : List ℕ) (h : Header) : Type 0 where
  pub octets : octets_for h.values (packet_in s) ≡ s
  pub accepted : (size at : ℕ) → at + length s ≤ size → writing size at h.values (packet_in s) ≡ given (at + length s)

abbrev pub WriteAfterRead : Type 0
WriteAfterRead = (s : List ℕ) (h : Header) → Octets s → reading_of s ≡ given h → WritesBack s h

-- an accepted write changes only the octets written
pub record WritesOnly (out : List ℕ) (at : ℕ) (v : Values) (packet : List ℕ) : Type 0 where
  pub long : length (written out at v packet) ≡ length out
  pub before : take at (written out at v packet) ≡ take at out
  pub after : drop (at + (header_length + length packet)) (written out at v packet) ≡ drop (at + (header_length + length packet)) out

abbrev pub OnlyWritten : Type 0
OnlyWritten = (out : List ℕ) (at next : ℕ) (v : Values) (packet : List ℕ)
    → writing (length out) at v packet ≡ given next → WritesOnly out at v packet
