-- What the readers answer of a reading: the header as a whole, its words, a field's octets and value, the frame, a list.
use Rattle.std.specs.Prelude.{ℕ, ◌/◌, Bool, cond, ◌||◌, List, [], ◌∷◌, length, take, get_or, ℤ, ltb, eqb}
use Rattle.refusals.specs.Refusals.{Answer, refused, given}
use Rattle.octets.specs.Signed.{signed}
use Rattle.octets.specs.Parts.{splice}
use Rattle.radiotap_rules.specs.Rules.{Rules, row_of, knows}
use Rattle.radiotap_rules.specs.Reading.{fixed_header, presence_words, field_past, length_in, aligned, Field, Ending, Reading, refused_before, refused_at_field, read, FieldAnswer, refused_field, the_field, no_field}

-- the presence words of a header that is not refused before the first field
abbrev pub words_of_fixed : List ℕ → Answer ℕ → Answer (List ℕ)
words_of_fixed s (refused n q) = refused n q
words_of_fixed s (given size) = presence_words s size

unfoldable pub words_in : List ℕ → Answer (List ℕ)
words_in s = words_of_fixed s (fixed_header s)

-- what presence word number k answers: the word, or at and past the last of them the end
pub data Word : Type 0 where
  no_word : Word
  the_word : ℕ → Word

abbrev pub word_numbered : ℕ → Answer (List ℕ) → Answer Word
word_numbered k (refused n q) = refused n q
word_numbered k (given ws) = given (cond (ltb k (length ws)) (the_word (get_or ws k 0)) no_word)

abbrev pub word_number : List ℕ → ℕ → Answer Word
word_number s k = word_numbered k (words_in s)

-- a header that is read: how many fields are shown, the ending, the frame's place, the pad octet as found, how many words
pub record Summary : Type 0 where
  pub fields : ℕ
  pub ending : Ending
  pub frame : ℕ
  pub pad : ℕ
  pub words : ℕ

abbrev pub how_many : Answer (List ℕ) → ℕ
how_many (refused n q) = 0
how_many (given ws) = length ws

-- the public answer of a header refused at a field is number and place alone
abbrev pub summary : List ℕ → Reading → Answer Summary
summary s (refused_before n q) = refused n q
summary s (refused_at_field w b p) = refused field_past p
summary s (read fs e frame) =
    given (record { fields = length fs; ending = e; frame = length_in s; pad = get_or s 1 0; words = how_many (words_in s) })

-- a field's octets; none where there is no field or the header is refused
abbrev pub octets_of_field : FieldAnswer → List ℕ
octets_of_field (refused_field n q) = []
octets_of_field (the_field f) = f.octets
octets_of_field (no_field e) = []

-- the frame behind a header; none where the header is refused
abbrev pub frame_in : Reading → List ℕ
frame_in (refused_before n q) = []
frame_in (refused_at_field w b p) = []
frame_in (read fs e frame) = frame

-- bits 5, 6 and 10 are signed dBm
abbrev pub is_dbm : ℕ → Bool
is_dbm bit = eqb bit 5 || eqb bit 6 || eqb bit 10

-- what the value of a dBm field answers: the signed number; or that the field is no dBm, that there is no field, a refusal
pub data Dbm : Type 0 where
  refused_dbm : (number place : ℕ) → Dbm
  no_dbm_field : Ending → Dbm
  not_dbm : Dbm
  dbm_value : ℤ → Dbm

abbrev pub dbm_of : FieldAnswer → Dbm
dbm_of (refused_field n q) = refused_dbm n q
dbm_of (no_field e) = no_dbm_field e
dbm_of (the_field f) = cond (is_dbm f.bit) (dbm_value (signed 8 (get_or f.octets 0 0))) not_dbm

-- fields as numbers, four a field: word, bit, place, size
abbrev pub listed : List Field → List ℕ
listed [] = []
listed (f ∷ fs) = f.word ∷ f.bit ∷ f.place ∷ length f.octets ∷ listed fs

-- a lent list of numbers after the fields were put into it, as many whole fields as fit; as it was on a refusal
abbrev pub listed_into : List ℕ → Reading → List ℕ
listed_into out (refused_before n q) = out
listed_into out (refused_at_field w b p) = out
listed_into out (read fs e frame) = splice out 0 (listed (take (length out / 4) fs))

-- where the field of a number lies in an edition that knows it, from a first free place on: its start and size
pub data Layout : Type 0 where
  unknown_field : Layout
  lies : (start size : ℕ) → Layout

unfoldable pub lay_of : Rules → (edition n at : ℕ) → Layout
lay_of rules edition n at =
    cond (knows rules edition n) (lies (aligned (row_of rules n).alignment at) (row_of rules n).size) unknown_field
