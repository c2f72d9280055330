-- Demand 3: an older and a newer edition agree on every input. Proofs: proofs/Agreement.antt, Tables.antt.
use Rattle.std.specs.Prelude.{ℕ, ◌≤◌, ◌<◌, ◌≡◌, true, ◌↔◌, ◌⊎◌, List, [], ◌∷◌, ◌++◌, length}
use Rattle.radiotap_rules.specs.Rules.{Rules, row_of, knows, table_ok, nested, edition_taken, served}
use Rattle.radiotap_rules.specs.Table.{our_rules}
use Rattle.radiotap_rules.specs.Reading.{Field, Ending, stopped, Reading, refused_before, refused_at_field, read, reading, no_field, field_of}
use Rattle.radiotap_rules.specs.Writing.{writing, written}

-- of two editions, the older by what each is taken for; of two equal ones either is
abbrev pub Older : Rules → (older newer : ℕ) → Type 0
Older rules older newer = edition_taken rules.reading_default older ≤ edition_taken rules.reading_default newer

-- a word and bit that is this one or an earlier one: earlier is by word and bit
abbrev pub NotAfter : (word bit word' bit' : ℕ) → Type 0
NotAfter w b w' b' = (w < w') ⊎ ((w ≡ w') × (b ≤ b'))

-- how the older's ending stands to the newer's, where the newer shows these fields more and then ends so: with none
-- more, both end or both stop at the same word and bit; otherwise the older stops and names the newer's next field
abbrev pub EndsBefore : Ending → List Field → Ending → Type 0
EndsBefore e [] e' = e ≡ e'
EndsBefore e (f ∷ rest) e' = e ≡ stopped f.word f.bit

-- the fields that the older shows are the first that the newer shows, each with the same word, bit, place and octets
pub record Shows (fs : List Field) (e : Ending) (fs' : List Field) (e' : Ending) : Type 0 where
  pub rest : List Field
  pub first : fs' ≡ fs ++ rest
  pub ending : EndsBefore e rest e'

-- what each answers for a field number: below those that the older shows, the same; from there on the older's ending
pub record SameFields (o n : Reading) (fs : List Field) (e : Ending) : Type 0 where
  pub same : (k : ℕ) → k < length fs → field_of o k ≡ field_of n k
  pub further : (k : ℕ) → length fs ≤ k → field_of o k ≡ no_field e

-- if the newer reads the header, so does the older, and shows the first of its fields; the frame is the same
pub record Reads (o n : Reading) (fs' : List Field) (e' : Ending) (frame : List ℕ) : Type 0 where
  pub fields : List Field
  pub ending : Ending
  pub older : o ≡ read fields ending frame
  pub shows : Shows fields ending fs' e'
  pub numbers : SameFields o n fields ending

-- an older reading that stops by naming a field, or an earlier one
pub record StopsBy (o : Reading) (word bit : ℕ) : Type 0 where
  pub fields : List Field
  pub stop_word : ℕ
  pub stop_bit : ℕ
  pub frame : List ℕ
  pub older : o ≡ read fields (stopped stop_word stop_bit) frame
  pub not_after : NotAfter stop_word stop_bit word bit

-- the claim about both whole readings
pub record Agree (o n : Reading) : Type 0 where
  pub before : (number place : ℕ) → (o ≡ refused_before number place) ↔ (n ≡ refused_before number place)
  pub reads : (fs : List Field) (e : Ending) (frame : List ℕ) → n ≡ read fs e frame → Reads o n fs e frame
  pub refuses : (word bit place : ℕ) → n ≡ refused_at_field word bit place → (o ≡ refused_at_field word bit place) ⊎ StopsBy o word bit
  pub frame : (fs fs' : List Field) (e e' : Ending) (frame frame' : List ℕ) → o ≡ read fs e frame → n ≡ read fs' e' frame' → frame ≡ frame'

-- demand 3, for any rules that pass the test of a table and whose editions nest, any octets and any two served editions
abbrev pub Demand3 : Type 0
Demand3 = (rules : Rules) (older newer : ℕ) (s : List ℕ) → table_ok rules ≡ true → nested rules ≡ true → served rules older ≡ true
    → served rules newer ≡ true → Older rules older newer → Agree (reading rules older s) (reading rules newer s)

-- demand 3 for document 01's table
abbrev pub OursAgree : Type 0
OursAgree = (older newer : ℕ) (s : List ℕ) → served our_rules older ≡ true → served our_rules newer ≡ true
    → Older our_rules older newer → Agree (reading our_rules older s) (reading our_rules newer s)

-- two tables agree on what an edition knows: it knows the fields of the same bits, with the same rows
pub record SameTable (rules rules' : Rules) (edition : ℕ) : Type 0 where
  pub known : (n : ℕ) → knows rules edition n ≡ knows rules' edition n
  pub rows : (n : ℕ) → knows rules edition n ≡ true → row_of rules n ≡ row_of rules' n

-- readings agree wherever two tables agree on what the edition knows, so that an edition added by rows changes no older one
abbrev pub SameReadings : Type 0
SameReadings = (rules rules' : Rules) (edition : ℕ) (s : List ℕ) → served rules edition ≡ true → served rules' edition ≡ true
    → edition_taken rules.reading_default edition ≡ edition_taken rules'.reading_default edition
    → SameTable rules rules' (edition_taken rules.reading_default edition) → reading rules edition s ≡ reading rules' edition s

-- writings agree there too: what is answered, and what the output then holds
pub record SameWriting (rules rules' : Rules) (edition word : ℕ) (values : List ℕ) : Type 0 where
  pub answer : (size at : ℕ) → writing rules size at edition word values ≡ writing rules' size at edition word values
  pub output : (out : List ℕ) (at : ℕ) → written rules out at edition word values ≡ written rules' out at edition word values

abbrev pub SameWritings : Type 0
SameWritings = (rules rules' : Rules) (edition word : ℕ) (values : List ℕ) → served rules edition ≡ true → served rules' edition ≡ true
    → edition_taken rules.writing_default edition ≡ edition_taken rules'.writing_default edition
    → SameTable rules rules' (edition_taken rules.writing_default edition) → SameWriting rules rules' edition word values
