-- Document 01, "Radiotap": the reading of a header in an edition.
use Rattle.std.specs.Prelude.{ℕ, zero, suc, ◌+◌, ◌-◌, ◌*◌, ◌/◌, ◌%◌, ◌^◌, Bool, true, false, cond, ◌&&◌, ◌||◌, List, [], ◌∷◌, length, get_or, drop, leb, ltb, eqb}
use Rattle.refusals.specs.Refusals.{Answer, refused, given, short_header, version}
use Rattle.octets.specs.Numbers.{little, number_at}
use Rattle.octets.specs.Parts.{part}
use Rattle.radiotap_rules.specs.Rules.{Row, Rules, row_of, knows, edition_taken, served}
pub use Rattle.radiotap_rules.specs.Rules.{word_bits}

-- 9: the length is below 8 or above the input
abbrev pub radiotap_length : ℕ
radiotap_length = 9

-- 10: a presence word runs past the length
abbrev pub word_past : ℕ
word_past = 10

-- 11: a ninth presence word is called for
abbrev pub ninth_word : ℕ
ninth_word = 11

-- 12: a known field runs past the length
abbrev pub field_past : ℕ
field_past = 12

-- 15: the edition is above the newest
abbrev pub edition_above : ℕ
edition_above = 15

-- the fixed header: version, pad, length (2), presence word (4)
abbrev pub fixed_length : ℕ
fixed_length = 8

-- the length that the header gives
abbrev pub length_in : List ℕ → ℕ
length_in s = number_at little 2 s 2

-- the checks of the fixed header, in the order 1, 3, 9: its length or the refusal. They take no edition.
unfoldable pub fixed_header : List ℕ → Answer ℕ
fixed_header s =
    cond (ltb (length s) fixed_length)
    (refused short_header (length s))
    (cond (eqb (get_or s 0 0) 0)
    (cond (leb fixed_length (length_in s) && leb (length_in s) (length s)) (given (length_in s)) (refused radiotap_length 2))
    (refused version 0))

-- whether a bit of a word is set
abbrev pub bit_set : (word bit : ℕ) → Bool
bit_set word bit = eqb (word / 2 ^ bit % 2) 1

-- at most 8 presence words in all
abbrev pub most_words : ℕ
most_words = 8

abbrev pub with_word : ℕ → Answer (List ℕ) → Answer (List ℕ)
with_word w (refused n q) = refused n q
with_word w (given ws) = given (w ∷ ws)

-- the presence words from a place on, of which so many more may follow. Bit 31 calls for another: 11 before 10, each at 4.
abbrev pub words_from : List ℕ → (size at more : ℕ) → Answer (List ℕ)
words_from s size at zero =
    cond (bit_set (number_at little 4 s at) 31) (refused ninth_word 4) (given (number_at little 4 s at ∷ []))
words_from s size at (suc more) =
    elim (bit_set (number_at little 4 s at) 31) [
      | true ↦
          elim (leb (at + 8) size) [
            | true ↦ with_word (number_at little 4 s at) (words_from s size (at + 4) more)
            | false ↦ refused word_past 4
          ]
      | false ↦ given (number_at little 4 s at ∷ [])
    ]

unfoldable pub presence_words : List ℕ → (size : ℕ) → Answer (List ℕ)
presence_words s size = words_from s size 4 (most_words - 1)

-- a position is a bit of a word: position q is bit q mod 32 of word q div 32
abbrev pub word_at : ℕ → ℕ
word_at q = q / word_bits

abbrev pub bit_at : ℕ → ℕ
bit_at q = q % word_bits

-- Document 02, W-205, in place of "Every word numbers its bits from 0 again": the number of a word's bit 0. Word 0 starts at
-- 0. Bit 29 of a word resets the namespace: the next word starts again at 0, whatever the words before it were. Without
-- bit 29 the numbering continues behind the word's 32 bits.
abbrev pub first_number : (words : List ℕ) → (word : ℕ) → ℕ
first_number words zero = 0
first_number words (suc n) = cond (bit_set (get_or words n 0) 29) 0 (first_number words n + word_bits)

-- the number of a position's row in the table. In a continued word it is 32 or more, past the table and known to none.
abbrev pub row_number : (words : List ℕ) → ℕ → ℕ
row_number words q = first_number words (word_at q) + bit_at q

abbrev pub present : (words : List ℕ) → ℕ → Bool
present words q = bit_set (get_or words (word_at q) 0) (bit_at q)

-- what a position means in an edition: nothing (its bit is clear, or is 29 or 31), a stop (bit 30, or a field that the
-- edition does not know), or a field with its row. Bits 29 to 31 are judged before the number, and so are the
-- same in a continued word: 29 and 31 carry no field and stop nothing, 30 stops.
pub data Meaning : Type 0 where
  nothing : Meaning
  unknown_here : Meaning
  field : Row → Meaning

unfoldable pub meaning : Rules → (edition : ℕ) → (words : List ℕ) → ℕ → Meaning
meaning rules edition words q =
    cond (present words q)
    (cond (eqb (bit_at q) 29 || eqb (bit_at q) 31)
    nothing
    (cond (eqb (bit_at q) 30)
    unknown_here
    (cond (knows rules edition (row_number words q)) (field (row_of rules (row_number words q))) unknown_here)))
    nothing

-- the next multiple of an alignment, counted from the header's start
abbrev pub aligned : (alignment at : ℕ) → ℕ
aligned a at = (at + (a - 1)) / a * a

-- a field that is shown: its word and bit, its place and its octets
pub record Field : Type 0 where
  pub word : ℕ
  pub bit : ℕ
  pub place : ℕ
  pub octets : List ℕ

-- how a reading ends: at the last position, or stopped at a word and bit
pub data Ending : Type 0 where
  ended : Ending
  stopped : (word bit : ℕ) → Ending

-- a walk over the fields: refused at a field with its word, bit and place, or the fields shown and the ending
pub data Walk : Type 0 where
  refused_at : (word bit place : ℕ) → Walk
  shown : List Field → Ending → Walk

-- a header refused at a field shows none
abbrev pub with_field : Field → Walk → Walk
with_field f (refused_at w b p) = refused_at w b p
with_field f (shown fs e) = shown (f ∷ fs) e

-- the field at a position, with its row, from the first free place on: 12, or the field and the walk behind it
abbrev pub on_field : List ℕ → (size q at : ℕ) → Row → (ℕ → Walk) → Walk
on_field s size q at r rest =
    elim (leb (aligned r.alignment at + r.size) size) [
      | true ↦
          with_field
          (record {
            word = word_at q;
            bit = bit_at q;
            place = aligned r.alignment at;
            octets = part s (aligned r.alignment at) r.size;
          })
          (rest (aligned r.alignment at + r.size))
      | false ↦ refused_at (word_at q) (bit_at q) (aligned r.alignment at)
    ]

abbrev pub on_meaning : List ℕ → (size q at : ℕ) → (ℕ → Walk) → Meaning → Walk
on_meaning s size q at rest nothing = rest at
on_meaning s size q at rest unknown_here = shown [] (stopped (word_at q) (bit_at q))
on_meaning s size q at rest (field r) = on_field s size q at r rest

-- the walk from a position over so many positions, the first free place being `at`
abbrev pub fields_from : Rules → (edition : ℕ) → List ℕ → (size : ℕ) → (words : List ℕ) → (left q at : ℕ) → Walk
fields_from rules edition s size words zero q at = shown [] ended
fields_from rules edition s size words (suc left) q at =
    on_meaning s size q at (fields_from rules edition s size words left (suc q)) (meaning rules edition words q)

-- fields follow the last word, in order of word and bit
unfoldable pub fields_of : Rules → (edition : ℕ) → List ℕ → (size : ℕ) → (words : List ℕ) → Walk
fields_of rules edition s size words =
    fields_from rules edition s size words (word_bits * length words) 0 (4 + 4 * length words)

-- one reading: refused before the first field; refused at a field; or read, with the fields, the ending and the frame
pub data Reading : Type 0 where
  refused_before : (number place : ℕ) → Reading
  refused_at_field : (word bit place : ℕ) → Reading
  read : List Field → Ending → (frame : List ℕ) → Reading

-- the frame is the input from the length on
abbrev pub frame_of : List ℕ → (size : ℕ) → List ℕ
frame_of s size = drop size s

abbrev pub read_walk : List ℕ → (size : ℕ) → Walk → Reading
read_walk s size (refused_at w b p) = refused_at_field w b p
read_walk s size (shown fs e) = read fs e (frame_of s size)

abbrev pub read_words : Rules → (edition : ℕ) → List ℕ → (size : ℕ) → Answer (List ℕ) → Reading
read_words rules edition s size (refused n q) = refused_before n q
read_words rules edition s size (given words) = read_walk s size (fields_of rules edition s size words)

abbrev pub read_fixed : Rules → (edition : ℕ) → List ℕ → Answer ℕ → Reading
read_fixed rules edition s (refused n q) = refused_before n q
read_fixed rules edition s (given size) = read_words rules edition s size (presence_words s size)

-- the reading in an edition, in the order 15, the fixed header, the presence words, the fields. 0 asks for the default.
unfoldable pub reading : Rules → (edition : ℕ) → List ℕ → Reading
reading rules edition s =
    cond (served rules edition)
    (read_fixed rules (edition_taken rules.reading_default edition) s (fixed_header s))
    (refused_before edition_above 0)

-- what field number k answers: the field, or at and past those shown the end or the named stop; or the refusal
pub data FieldAnswer : Type 0 where
  refused_field : (number place : ℕ) → FieldAnswer
  the_field : Field → FieldAnswer
  no_field : Ending → FieldAnswer

abbrev pub nth : List Field → Ending → ℕ → FieldAnswer
nth [] e k = no_field e
nth (f ∷ fs) e zero = the_field f
nth (f ∷ fs) e (suc k) = nth fs e k

abbrev pub field_of : Reading → ℕ → FieldAnswer
field_of (refused_before n q) k = refused_field n q
field_of (refused_at_field w b p) k = refused_field field_past p
field_of (read fs e frame) k = nth fs e k
