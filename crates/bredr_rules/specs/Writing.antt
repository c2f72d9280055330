-- Request W-206: the writing of the twelve values, without payload, into an output at a place.
use Rattle.std.specs.Prelude.{ℕ, ◌+◌, cond, List, ◌∷◌, ◌++◌, length}
use Rattle.refusals.specs.Refusals.{Answer, refused, given, after_write, no_room}
use Rattle.octets.specs.Numbers.{little, octets_of}
use Rattle.octets.specs.Signed.{unsigned}
use Rattle.octets.specs.Parts.{splice, has_room}
use Rattle.bredr_rules.specs.declared.Values.{Values}
use Rattle.bredr_rules.specs.Reading.{rf_channel, header_length, channel_test}

-- the 22 octets of the values; of a reference LAP the low 24 bits
unfoldable pub header_octets : Values → List ℕ
header_octets v =
    v.rf_channel
    ∷ unsigned 8 v.signal
    ∷ unsigned 8 v.noise
    ∷ v.offences
    ∷ v.rate
    ∷ v.header_bits
    ∷ (octets_of little 2 (unsigned 16 v.payload_bits)
    ++ (octets_of little 4 v.lap
    ++ (octets_of little 3 v.reference_lap
    ++ v.reference_uap
    ∷ (octets_of little 4 v.packet_header ++ octets_of little 2 v.flags))))

-- what writing answers, in the order 8, 13, both at place 0: the place after what was written
unfoldable pub writing : (size at : ℕ) → Values → Answer ℕ
writing size at v =
    cond (channel_test v.rf_channel)
    (cond (has_room size at header_length) (given (at + header_length)) (refused no_room 0))
    (refused rf_channel 0)

-- what the output then holds
unfoldable pub written : List ℕ → (at : ℕ) → Values → List ℕ
written out at v = after_write (writing (length out) at v) out (splice out at (header_octets v))
