-- Document 01, "BTSnoop": the writers of the file header and of a record, into an output at a place.
use Rattle.std.specs.Prelude.{ℕ, ◌+◌, cond, List, ◌++◌, length, ℤ, leb}
use Rattle.refusals.specs.Refusals.{Answer, refused, given, after_write, datalink, included_length, no_room}
use Rattle.octets.specs.Numbers.{big, octets_of}
use Rattle.octets.specs.Signed.{unsigned}
use Rattle.octets.specs.Parts.{splice, has_room}
use Rattle.btsnoop_rules.specs.Header.{header_length, identification_octets, version_number, served}
use Rattle.btsnoop_rules.specs.Record.{record_length}

-- the octets of a file header with a datalink code
unfoldable pub header_octets : ℕ → List ℕ
header_octets code = identification_octets ++ (octets_of big 4 version_number ++ octets_of big 4 code)

-- what writing a file header answers, in the order 4, 13: the place after it
unfoldable pub header_writing : (size at code : ℕ) → Answer ℕ
header_writing size at code =
    cond (served code)
    (cond (has_room size at header_length) (given (at + header_length)) (refused no_room 0))
    (refused datalink 0)

-- what the output then holds
unfoldable pub header_written : List ℕ → (at code : ℕ) → List ℕ
header_written out at code = after_write (header_writing (length out) at code) out (splice out at (header_octets code))

-- the octets of a record. Its included length is taken from the packet.
unfoldable pub record_octets : (original flags drops : ℕ) → ℤ → List ℕ → List ℕ
record_octets original flags drops time packet =
    octets_of big 4 original
    ++ (octets_of big 4 (length packet)
    ++ (octets_of big 4 flags ++ (octets_of big 4 drops ++ (octets_of big 8 (unsigned 64 time) ++ packet))))

-- what writing a record answers, in the order 6, 13: the place after it
unfoldable pub record_writing : (size at original : ℕ) → List ℕ → Answer ℕ
record_writing size at original packet =
    cond (leb (length packet) original)
    (cond (has_room size at (record_length + length packet)) (given (at + (record_length + length packet))) (refused no_room 0))
    (refused included_length 0)

-- what the output then holds
unfoldable pub record_written : List ℕ → (at original flags drops : ℕ) → ℤ → List ℕ → List ℕ
record_written out at original flags drops time packet =
    after_write (record_writing (length out) at original packet) out
    (splice out at (record_octets original flags drops time packet))
