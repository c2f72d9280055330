-- Document 01, "Refusal numbers": "Each is given exactly when its condition holds and no earlier one in the order does."
-- "Radiotap reading: 15, 1, 3, 9; then word by word, for each word 11 before 10; then fields in their order." "Radiotap
-- writing: 15, 18, 19, 13." When each refusal before the fields and in writing is given, by the numbers in the input.
-- Proofs: proofs/Orders.antt, proofs/WriteOrders.antt.
use Rattle.std.specs.Prelude.{ℕ, ◌+◌, ◌≤◌, ◌<◌, ◌≡◌, true, false, ◌↔◌, ◌⊎◌, List, [], length, get_or}
use Rattle.refusals.specs.Refusals.{refused, given}
use Rattle.radiotap_rules.specs.Rules.{Rules, knows, edition_taken}
use Rattle.radiotap_rules.specs.Reading.{length_in, fixed_header, bit_set, refused_before, reading, refused_field, field_of}
use Rattle.radiotap_rules.specs.Words.{Calling, CallPast}
use Rattle.radiotap_rules.specs.Answers.{summary, octets_of_field, frame_in, refused_dbm, dbm_of, listed_into}
use Rattle.radiotap_rules.specs.Writing.{plan, summed, header_octets, writing, written}

-- a fixed header that is accepted, with its length
pub record FixedHeader (s : List ℕ) (size : ℕ) : Type 0 where
  pub version : get_or s 0 0 ≡ 0
  pub told : length_in s ≡ size
  pub least : 8 ≤ size
  pub inside : size ≤ length s

-- a fixed header that is refused: 1 below 8 octets, 3 for another version than 0, 9 for a length below 8 or above the input
pub data FixedRefused (s : List ℕ) : (number place : ℕ) → Type 0 where
  too_short : length s < 8 → FixedRefused s 1 (length s)
  other_version : 8 ≤ length s → (get_or s 0 0 ≡ 0 → ⊥) → FixedRefused s 3 0
  wrong_length : 8 ≤ length s → get_or s 0 0 ≡ 0 → (length_in s < 8) ⊎ (length s < length_in s) → FixedRefused s 9 2

-- each answer of the fixed header is given exactly when its condition holds
pub record FixedAnswers (s : List ℕ) : Type 0 where
  pub accepted : (size : ℕ) → (fixed_header s ≡ given size) ↔ FixedHeader s size
  pub refuses : (number place : ℕ) → (fixed_header s ≡ refused number place) ↔ FixedRefused s number place

abbrev pub FixedExactly : Type 0
FixedExactly = (s : List ℕ) → FixedAnswers s

-- a reading that is refused before the first field: 15 for an edition above the newest, then the fixed header's, then 11
-- and 10 for its presence words
pub data BeforeFields (rules : Rules) (edition : ℕ) (s : List ℕ) : (number place : ℕ) → Type 0 where
  read_above : rules.newest < edition → BeforeFields rules edition s 15 0
  at_fixed_header : {number place : ℕ} → edition ≤ rules.newest → FixedRefused s number place → BeforeFields rules edition s number place
  at_ninth_word : {size : ℕ} → edition ≤ rules.newest → FixedHeader s size → Calling s size 8 → BeforeFields rules edition s 11 4
  at_word_past : {size : ℕ} → edition ≤ rules.newest → FixedHeader s size → CallPast s size → BeforeFields rules edition s 10 4

-- each of them is given exactly when its condition holds, whatever the table
abbrev pub BeforeExactly : Type 0
BeforeExactly = (rules : Rules) (edition : ℕ) (s : List ℕ) (number place : ℕ)
    → (reading rules edition s ≡ refused_before number place) ↔ BeforeFields rules edition s number place

-- a set bit of the presence word that the edition doesn't know, bits 29 to 31 included
pub record UnknownSet (rules : Rules) (edition word : ℕ) : Type 0 where
  pub bit : ℕ
  pub inside : bit < 32
  pub set : bit_set word bit ≡ true
  pub unknown : (29 ≤ bit) ⊎ (knows rules edition bit ≡ false)

-- no set bit is such a one
abbrev pub AllKnown : Rules → (edition word : ℕ) → Type 0
AllKnown rules edition word = (bit : ℕ) → bit < 32 → bit_set word bit ≡ true → (bit ≤ 28) × (knows rules edition bit ≡ true)

-- what is written, but for the room: a word of known bits and values of the summed length, in a served edition
pub record Writes (rules : Rules) (edition word : ℕ) (values : List ℕ) : Type 0 where
  pub served : edition ≤ rules.newest
  pub known : AllKnown rules (edition_taken rules.writing_default edition) word
  pub long : length values ≡ summed (plan rules (edition_taken rules.writing_default edition) word)

-- how many octets are written
abbrev pub written_length : Rules → (edition word : ℕ) → List ℕ → ℕ
written_length rules edition word values =
    length (header_octets rules (edition_taken rules.writing_default edition) word values)

-- a writing that is refused: 15 for an edition above the newest, 18 for a bit that the edition doesn't know, 19 for values
-- not of the summed length, 13 without room
pub data WriteRefused (rules : Rules) (size at edition word : ℕ) (values : List ℕ) : (number place : ℕ) → Type 0 where
  write_above : rules.newest < edition → WriteRefused rules size at edition word values 15 0
  at_unknown_bit : edition ≤ rules.newest → UnknownSet rules (edition_taken rules.writing_default edition) word
      → WriteRefused rules size at edition word values 18 0
  at_other_length : edition ≤ rules.newest → AllKnown rules (edition_taken rules.writing_default edition) word
      → (length values ≡ summed (plan rules (edition_taken rules.writing_default edition) word) → ⊥)
      → WriteRefused rules size at edition word values 19 0
  at_no_room : Writes rules edition word values → size < at + written_length rules edition word values
      → WriteRefused rules size at edition word values 13 0

-- each answer of writing is given exactly when its condition holds: acceptance where there is room, with the place after
-- what is written
pub record WriteAnswers (rules : Rules) (size at edition word : ℕ) (values : List ℕ) : Type 0 where
  pub accepted : (next : ℕ) → (writing rules size at edition word values ≡ given next)
      ↔ (Writes rules edition word values
      × (at + written_length rules edition word values ≤ size)
      × (at + written_length rules edition word values ≡ next))
  pub refuses : (number place : ℕ) → (writing rules size at edition word values ≡ refused number place)
      ↔ WriteRefused rules size at edition word values number place

abbrev pub WriteExactly : Type 0
WriteExactly = (rules : Rules) (size at edition word : ℕ) (values : List ℕ) → WriteAnswers rules size at edition word values

-- an edition that is not served gives 15 at place 0 before all else, whatever the octets, and hands out nothing
pub record NotServed (rules : Rules) (edition : ℕ) : Type 0 where
  pub reads : (s : List ℕ) → reading rules edition s ≡ refused_before 15 0
  pub whole : (s : List ℕ) → summary s (reading rules edition s) ≡ refused 15 0
  pub numbered : (s : List ℕ) (k : ℕ) → field_of (reading rules edition s) k ≡ refused_field 15 0
  pub octets : (s : List ℕ) (k : ℕ) → octets_of_field (field_of (reading rules edition s) k) ≡ []
  pub dbm : (s : List ℕ) (k : ℕ) → dbm_of (field_of (reading rules edition s) k) ≡ refused_dbm 15 0
  pub frame : (s : List ℕ) → frame_in (reading rules edition s) ≡ []
  pub listed : (s out : List ℕ) → listed_into out (reading rules edition s) ≡ out
  pub writes : (size at word : ℕ) (values : List ℕ) → writing rules size at edition word values ≡ refused 15 0
  pub output : (out : List ℕ) (at word : ℕ) (values : List ℕ) → written rules out at edition word values ≡ out

abbrev pub EditionAbove : Type 0
EditionAbove = (rules : Rules) (edition : ℕ) → rules.newest < edition → NotServed rules edition
