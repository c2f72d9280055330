-- Document 01, "LE pseudo-header": the writing of six values and a packet into an output at a place.
use Rattle.std.specs.Prelude.{ℕ, ◌+◌, cond, List, ◌∷◌, ◌++◌, length}
use Rattle.refusals.specs.Refusals.{Answer, refused, given, after_write, short_packet, no_room}
use Rattle.octets.specs.Numbers.{little, octets_of}
use Rattle.octets.specs.Signed.{unsigned}
use Rattle.octets.specs.Parts.{splice, has_room}
use Rattle.le_rules.specs.declared.Values.{Values}
use Rattle.le_rules.specs.Reading.{header_length, fault_number, Range, out_of, within, range_of, packet_test}

-- the ten octets of the values
unfoldable pub header_octets : Values → List ℕ
header_octets v =
    v.channel
    ∷ unsigned 8 v.signal
    ∷ unsigned 8 v.noise
    ∷ v.offences
    ∷ (octets_of little 4 v.reference ++ octets_of little 2 v.flags)

-- the values and the packet, one behind the other
abbrev pub octets_for : Values → List ℕ → List ℕ
octets_for v packet = header_octets v ++ packet

abbrev pub writing_judged : (size at : ℕ) → Values → List ℕ → Range → Answer ℕ
writing_judged size at v packet (out_of fault) = refused (fault_number fault) 0
writing_judged size at v packet within =
    cond (packet_test v.flags (length packet))
    (cond (has_room size at (header_length + length packet))
    (given (at + (header_length + length packet)))
    (refused no_room 0))
    (refused short_packet 0)

-- what writing answers, in the order channel (8), PDU type (21), PHY (22), 7, 13, all at place 0: the place after what was
-- written
unfoldable pub writing : (size at : ℕ) → Values → List ℕ → Answer ℕ
writing size at v packet = writing_judged size at v packet (range_of v.channel v.flags)

-- what the output then holds
unfoldable pub written : List ℕ → (at : ℕ) → Values → List ℕ → List ℕ
written out at v packet = after_write (writing (length out) at v packet) out (splice out at (octets_for v packet))
