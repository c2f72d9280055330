-- Document 01, "Radiotap": "The reading walks from one field to the next." One step of the walk from a cursor, and what
-- chained steps answer. Proof: proofs/Steps.antt.
use Rattle.std.specs.Prelude.{ℕ, zero, suc, ◌+◌, ◌-◌, ◌*◌, ◌≡◌, cond, List, [], ◌∷◌, length, get_or, leb, eqb}
use Rattle.refusals.specs.Refusals.{Answer, refused, given}
use Rattle.octets.specs.Numbers.{little, number_at}
use Rattle.octets.specs.Parts.{part}
use Rattle.radiotap_rules.specs.declared.Head.{Head}
use Rattle.radiotap_rules.specs.declared.Cursor.{Cursor}
use Rattle.radiotap_rules.specs.Rules.{Row, Rules, edition_taken}
use Rattle.radiotap_rules.specs.Reading.{fixed_header, presence_words, field_past, word_bits, word_at, bit_at, Meaning, nothing, unknown_here, field, meaning, aligned, Field, Ending, ended, stopped, reading, read, FieldAnswer, refused_field, the_field, no_field, nth}

-- what stands before the fields, where nothing is refused before the first of them
abbrev pub head_of_words : (size : ℕ) → Answer (List ℕ) → Answer Head
head_of_words size (refused n q) = refused n q
head_of_words size (given ws) = given (record { size = size; words = length ws; first = get_or ws 0 0 })

abbrev pub head_of_fixed : List ℕ → Answer ℕ → Answer Head
head_of_fixed s (refused n q) = refused n q
head_of_fixed s (given size) = head_of_words size (presence_words s size)

unfoldable pub head_at : List ℕ → Answer Head
head_at s = head_of_fixed s (fixed_header s)

-- the cursor at the first position, behind the last presence word
abbrev pub first_cursor : Head → Cursor
first_cursor h = record { size = h.size; words = h.words; position = 0; bits = h.first; at = 4 + 4 * h.words }

-- the presence words as a cursor has them: its own where its position lies, the others from the input
abbrev pub words_for : List ℕ → Cursor → (index left : ℕ) → List ℕ
words_for s c i zero = []
words_for s c i (suc left) =
    cond (eqb i (word_at c.position)) c.bits (number_at little 4 s (4 + 4 * i)) ∷ words_for s c (suc i) left

abbrev pub words_of : List ℕ → Cursor → List ℕ
words_of s c = words_for s c 0 c.words

-- what a step meets: a refusal, the ending, or a field and the cursor behind it
pub data Met : Type 0 where
  refused_step : (number place : ℕ) → Met
  over : Ending → Met
  met : Field → Cursor → Met

-- a cursor moved on to behind a position, with the first free place there
abbrev pub moved_to : Cursor → List ℕ → (q at : ℕ) → Cursor
moved_to c words q at =
    record { size = c.size; words = c.words; position = suc q; bits = get_or words (word_at q) 0; at = at }

-- the field at a position, with its row: 12 where it runs past the length
abbrev pub met_field : List ℕ → Cursor → (words : List ℕ) → (q : ℕ) → Row → Met
met_field s c words q r =
    cond (leb (aligned r.alignment c.at + r.size) c.size)
    (met
    (record {
      word = word_at q;
      bit = bit_at q;
      place = aligned r.alignment c.at;
      octets = part s (aligned r.alignment c.at) r.size;
    })
    (moved_to c words q (aligned r.alignment c.at + r.size)))
    (refused_step field_past (aligned r.alignment c.at))

abbrev pub met_meaning : List ℕ → Cursor → (words : List ℕ) → (q : ℕ) → Met → Meaning → Met
met_meaning s c words q rest nothing = rest
met_meaning s c words q rest unknown_here = over (stopped (word_at q) (bit_at q))
met_meaning s c words q rest (field r) = met_field s c words q r

-- what the walk meets first from a position on, over so many positions
abbrev pub met_from : Rules → (edition : ℕ) → List ℕ → Cursor → (words : List ℕ) → (left q : ℕ) → Met
met_from rules edition s c words zero q = over ended
met_from rules edition s c words (suc left) q =
    met_meaning s c words q (met_from rules edition s c words left (suc q)) (meaning rules edition words q)

-- a step from a cursor, whatever it holds
unfoldable pub step_of : Rules → (edition : ℕ) → List ℕ → Cursor → Met
step_of rules edition s c =
    met_from rules edition s c (words_of s c) (word_bits * c.words - c.position) c.position

-- so many steps one after another, and then one more: a refusal and the ending stay
abbrev pub onward_from : (Cursor → Met) → Met → Met
onward_from go (refused_step n q) = refused_step n q
onward_from go (over e) = over e
onward_from go (met f c) = go c

abbrev pub stepped : Rules → (edition : ℕ) → List ℕ → (k : ℕ) → Cursor → Met
stepped rules edition s zero c = step_of rules edition s c
stepped rules edition s (suc k) c = onward_from (stepped rules edition s k) (step_of rules edition s c)

-- what a step shows as an answer to a field number
abbrev pub shown_by : Met → FieldAnswer
shown_by (refused_step n q) = refused_field n q
shown_by (over e) = no_field e
shown_by (met f c) = the_field f

-- in a header that is read, chained steps from the first cursor answer as every field number does
abbrev pub ChainedSteps : Type 0
ChainedSteps = (rules : Rules) (edition : ℕ) (s : List ℕ) (fs : List Field) (e : Ending) (frame : List ℕ) (h : Head) (k : ℕ)
    → reading rules edition s ≡ read fs e frame → head_at s ≡ given h
    → shown_by (stepped rules (edition_taken rules.reading_default edition) s k (first_cursor h)) ≡ nth fs e k
