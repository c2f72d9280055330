-- Document 01, "Radiotap": the writing of a header with one presence word.
use Rattle.std.specs.Prelude.{ℕ, zero, suc, ◌+◌, ◌-◌, Bool, true, false, cond, ◌&&◌, List, [], ◌∷◌, ◌++◌, length, take, drop, replicate, eqb}
use Rattle.refusals.specs.Refusals.{Answer, refused, given, after_write, no_room}
use Rattle.octets.specs.Numbers.{little, octets_of}
use Rattle.octets.specs.Parts.{splice, has_room}
use Rattle.radiotap_rules.specs.Rules.{Row, Rules, edition_taken, served}
use Rattle.radiotap_rules.specs.Reading.{edition_above, fixed_length, bit_set, word_bits, bit_at, Meaning, nothing, unknown_here, field, meaning, aligned, Field}

-- 18: a presence bit that the edition doesn't know, bits 29 to 31 included
abbrev pub unknown_bit : ℕ
unknown_bit = 18

-- 19: packed values not of the summed length
abbrev pub values_length : ℕ
values_length = 19

-- whether a position means a field that the edition knows
abbrev pub is_field : Meaning → Bool
is_field nothing = false
is_field unknown_here = false
is_field (field r) = true

-- whether a position of the presence word can be written: its bit is clear, or it is a field that the edition knows
abbrev pub writable_at : Rules → (edition word q : ℕ) → Bool
writable_at rules edition word q = cond (bit_set word q) (is_field (meaning rules edition (word ∷ []) q)) true

abbrev pub writable_from : Rules → (edition word left q : ℕ) → Bool
writable_from rules edition word zero q = true
writable_from rules edition word (suc left) q = writable_at rules edition word q && writable_from rules edition word left (suc q)

-- every set bit is a field that the edition knows
unfoldable pub writable : Rules → (edition word : ℕ) → Bool
writable rules edition word = writable_from rules edition word word_bits 0

-- a field to be written: its bit and its row
pub record Planned : Type 0 where
  pub bit : ℕ
  pub row : Row

abbrev pub with_plan : ℕ → Meaning → List Planned → List Planned
with_plan q nothing rest = rest
with_plan q unknown_here rest = rest
with_plan q (field r) rest = record { bit = bit_at q; row = r } ∷ rest

-- the fields of a presence word in bit order
abbrev pub plan_from : Rules → (edition word left q : ℕ) → List Planned
plan_from rules edition word zero q = []
plan_from rules edition word (suc left) q =
    with_plan q (meaning rules edition (word ∷ []) q) (plan_from rules edition word left (suc q))

unfoldable pub plan : Rules → (edition word : ℕ) → List Planned
plan rules edition word = plan_from rules edition word word_bits 0

-- the summed length of the fields
abbrev pub summed : List Planned → ℕ
summed [] = 0
summed (p ∷ ps) = p.row.size + summed ps

-- the fields' octets from a place on, counted from the header's start: pad octets 0 up to the alignment, then the value.
-- The values are packed without gaps in bit order.
abbrev pub laid : List Planned → (at : ℕ) → List ℕ → List ℕ
laid [] at values = []
laid (p ∷ ps) at values =
    replicate (aligned p.row.alignment at - at) 0
    ++ (take p.row.size values ++ laid ps (aligned p.row.alignment at + p.row.size) (drop p.row.size values))

-- the fields as a reading shows them
abbrev pub laid_fields : List Planned → (at : ℕ) → List ℕ → List Field
laid_fields [] at values = []
laid_fields (p ∷ ps) at values =
    record {
      word = 0;
      bit = p.bit;
      place = aligned p.row.alignment at;
      octets = take p.row.size values;
    }
    ∷ laid_fields ps (aligned p.row.alignment at + p.row.size) (drop p.row.size values)

-- the octets of a header: version and pad 0, the length, which ends at the last field, the presence word, the fields
unfoldable pub header_octets : Rules → (edition word : ℕ) → List ℕ → List ℕ
header_octets rules edition word values =
    0
    ∷ 0
    ∷ (octets_of little 2 (fixed_length + length (laid (plan rules edition word) fixed_length values))
    ++ (octets_of little 4 word ++ laid (plan rules edition word) fixed_length values))

-- what writing a header answers, in the order 15, 18, 19, 13: the place after it. Edition 0 asks for the default.
unfoldable pub writing : Rules → (size at edition word : ℕ) → List ℕ → Answer ℕ
writing rules size at edition word values =
    cond (served rules edition)
    (cond (writable rules (edition_taken rules.writing_default edition) word)
    (cond (eqb (length values) (summed (plan rules (edition_taken rules.writing_default edition) word)))
    (cond (has_room size at (length (header_octets rules (edition_taken rules.writing_default edition) word values)))
    (given (at + length (header_octets rules (edition_taken rules.writing_default edition) word values)))
    (refused no_room 0))
    (refused values_length 0))
    (refused unknown_bit 0))
    (refused edition_above 0)

-- what the output then holds
unfoldable pub written : Rules → List ℕ → (at edition word : ℕ) → List ℕ → List ℕ
written rules out at edition word values =
    after_write (writing rules (length out) at edition word values) out
    (splice out at (header_octets rules (edition_taken rules.writing_default edition) word values))
