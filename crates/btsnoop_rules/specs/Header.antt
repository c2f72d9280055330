-- Document 01, "BTSnoop": the file header. 62 74 73 6E 6F 6F 70 00, a 32-bit version, a 32-bit datalink code.
use Rattle.std.specs.Prelude.{ℕ, Bool, true, false, cond, ◌&&◌, List, [], ◌∷◌, length, leb, eqb}
use Rattle.refusals.specs.Refusals.{Answer, refused, given, short_header, identification, version, datalink}
use Rattle.octets.specs.Numbers.{big, octets_at, number_at}

-- the header's length
abbrev pub header_length : ℕ
header_length = 16

-- the identification octets
abbrev pub identification_octets : List ℕ
identification_octets = 0x62 ∷ 0x74 ∷ 0x73 ∷ 0x6e ∷ 0x6f ∷ 0x6f ∷ 0x70 ∷ 0x00 ∷ []

-- the one version that is read
abbrev pub version_number : ℕ
version_number = 1

-- the datalink codes that are read: 1001 to 1004
abbrev pub served : ℕ → Bool
served code = leb 1001 code && leb code 1004

-- whether two lists of octets are the same
abbrev pub same_octets : List ℕ → List ℕ → Bool
same_octets [] [] = true
same_octets [] (y ∷ ys) = false
same_octets (x ∷ xs) [] = false
same_octets (x ∷ xs) (y ∷ ys) = eqb x y && same_octets xs ys

-- the judgement of a header's 16 octets, in the order 2, 3, 4: the datalink code or the refusal
unfoldable pub header_judged : List ℕ → Answer ℕ
header_judged s =
    cond (same_octets (octets_at s 0 8) identification_octets)
    (cond (eqb (number_at big 4 s 8) version_number)
    (cond (served (number_at big 4 s 12)) (given (number_at big 4 s 12)) (refused datalink 12))
    (refused version 8))
    (refused identification 0)

-- the reading of a file header: 1, then the judgement of its octets
unfoldable pub header_at : List ℕ → Answer ℕ
header_at s = cond (leb header_length (length s)) (header_judged s) (refused short_header (length s))
