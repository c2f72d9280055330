-- Document 01, "Refusal numbers", for BTSnoop: each is given exactly when its condition holds and no earlier one in the
-- order does, and what is given otherwise. Proofs: proofs/Orders.antt.
use Rattle.std.specs.Prelude.{ℕ, ◌+◌, ◌-◌, ◌<◌, ◌≡◌, false, ◌⊎◌, List, length}
use Rattle.refusals.specs.Refusals.{Answer, refused, given, short_header, identification, version, datalink, short_record, included_length, short_packet, no_room, record_place}
use Rattle.refusals.specs.Orders.{Exactly, Otherwise}
use Rattle.octets.specs.Numbers.{big, octets_at, number_at}
use Rattle.btsnoop_rules.specs.declared.Numbers.{Numbers}
use Rattle.btsnoop_rules.specs.Header.{header_length, identification_octets, version_number, served, header_judged, header_at}
use Rattle.btsnoop_rules.specs.Record.{record_length, numbers_at, Found, end, whole, record_judged, record_at}
use Rattle.btsnoop_rules.specs.Writing.{header_writing, record_writing}

-- the octets of a file header: 2, 3, 4
abbrev pub HeaderOrder : List ℕ → Answer ℕ → Type 0
HeaderOrder s =
    Exactly (refused identification 0) (octets_at s 0 8 ≡ identification_octets → ⊥)
    (Exactly (refused version 8) (number_at big 4 s 8 ≡ version_number → ⊥)
    (Exactly (refused datalink 12) (served (number_at big 4 s 12) ≡ false) (Otherwise (given (number_at big 4 s 12)))))

abbrev pub HeaderJudgedExactly : Type 0
HeaderJudgedExactly = (s : List ℕ) → HeaderOrder s (header_judged s)

-- a file header: 1, and then the order of its octets
abbrev pub HeaderReadExactly : Type 0
HeaderReadExactly = (s : List ℕ)
    → Exactly (refused short_header (length s)) (length s < header_length) (HeaderOrder s) (header_at s)

-- the numbers of a record at a place from which so many octets are left: 6, 7
abbrev pub NumbersOrder : ℕ → ℕ → Numbers → Answer Found → Type 0
NumbersOrder left p n =
    Exactly (refused included_length (p + 4)) (n.original < n.included)
    (Exactly (refused short_packet p) (left < record_length + n.included)
    (Otherwise (given (whole n (p + record_length) (p + record_length + n.included)))))

abbrev pub RecordJudgedExactly : Type 0
RecordJudgedExactly = (left p : ℕ) (n : Numbers) → NumbersOrder left p n (record_judged left p n)

-- the record at a place: 17, "end", 5, and then the order of its numbers
abbrev pub RecordReadExactly : Type 0
RecordReadExactly = (s : List ℕ) (p : ℕ)
    → Exactly (refused record_place p) ((p < header_length) ⊎ (length s < p))
    (Exactly (given end) (p ≡ length s)
    (Exactly (refused short_record p) (length s - p < record_length) (NumbersOrder (length s - p) p (numbers_at s p))))
    (record_at s p)

-- writing a file header: 4, 13
abbrev pub HeaderWritingExactly : Type 0
HeaderWritingExactly = (size at code : ℕ)
    → Exactly (refused datalink 0) (served code ≡ false)
    (Exactly (refused no_room 0) (size < at + header_length) (Otherwise (given (at + header_length))))
    (header_writing size at code)

-- writing a record: 6, 13
abbrev pub RecordWritingExactly : Type 0
RecordWritingExactly = (size at original : ℕ) (packet : List ℕ)
    → Exactly (refused included_length 0) (original < length packet)
    (Exactly (refused no_room 0) (size < at + (record_length + length packet)) (Otherwise (given (at + (record_length + length packet)))))
    (record_writing size at original packet)
