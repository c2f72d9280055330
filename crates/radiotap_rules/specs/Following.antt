-- Document 01, "Radiotap": "Fields follow the last word in order of word and bit. Each starts at the next multiple of its
-- alignment, counted from the header's start." "Bits 29 and 31 carry no field. A set bit among 0 to 28 that the edition
-- doesn't know, or bit 30, stops the reading". "Octets left before the length are allowed. The frame is the input from the
-- length on." Document 02, W-205: "a set bit among 0 to 28 of a continued word stops the reading there by word and bit, in
-- every edition. Bit 30 stops as before, also beside bit 29." What a reading answers, by the set bits in their order and the
-- places. Proof: proofs/Following.antt.
use Rattle.std.specs.Prelude.{ℕ, suc, ◌+◌, ◌*◌, ◌%◌, ◌≤◌, ◌<◌, ◌≡◌, true, false, ◌⊎◌, List, [], ◌∷◌, ◌++◌, length, get_or, take}
use Rattle.refusals.specs.Refusals.{given}
use Rattle.radiotap_rules.specs.Rules.{Rules, row_of, knows, table_ok, edition_taken, served}
use Rattle.radiotap_rules.specs.Words.{position, StartsAgain, Continued}
use Rattle.radiotap_rules.specs.Reading.{fixed_header, presence_words, bit_set, Field, Ending, ended, stopped, Reading, refused_before, refused_at_field, read, reading}

-- from a position up to another no bit is set but bits 29 and 31
abbrev pub NoneBetween : (ws : List ℕ) → (q q' : ℕ) → Type 0
NoneBetween ws q q' = (word bit : ℕ) → bit < 32 → q ≤ position word bit → position word bit < q' → bit_set (get_or ws word 0) bit ≡ true
    → (bit ≡ 29) ⊎ (bit ≡ 31)

-- from a position on, this set bit is the first that is not 29 or 31
pub record First (ws : List ℕ) (q word bit : ℕ) : Type 0 where
  pub bits : bit < 32
  pub order : q ≤ position word bit
  pub set : bit_set (get_or ws word 0) bit ≡ true
  pub between : NoneBetween ws q (position word bit)

-- the next multiple of an alignment from a place on
pub record NextMultiple (alignment at place : ℕ) : Type 0 where
  pub multiple : place % alignment ≡ 0
  pub after : at ≤ place
  pub next : place < at + alignment

-- a field that comes first from a position on, in a word that starts again, and starts at the next multiple of its alignment
-- from a place on
pub record Follows (rules : Rules) (edition : ℕ) (ws : List ℕ) (q at word bit start : ℕ) : Type 0 where
  pub first : First ws q word bit
  pub carries : bit ≤ 28
  pub again : StartsAgain ws word
  pub known : knows rules edition bit ≡ true
  pub starts : NextMultiple (row_of rules bit).alignment at start

-- how a reading ends that has come to a position
abbrev pub Ends : Rules → (edition : ℕ) → (ws : List ℕ) → Ending → (q : ℕ) → Type 0
Ends rules edition ws ended q = NoneBetween ws q (32 * length ws)
Ends rules edition ws (stopped word bit) q =
    First ws q word bit × ((bit ≡ 30) ⊎ ((bit ≤ 28) × (Continued ws word ⊎ (knows rules edition bit ≡ false))))

-- the fields from a position and a place on follow one another inside the length, and then something holds of the position
-- and the place behind the last of them
abbrev pub Along : Rules → (edition : ℕ) → (ws : List ℕ) → (size q at : ℕ) → List Field → (ℕ → ℕ → Type 0) → Type 0
Along rules edition ws size q at [] Last = Last q at
Along rules edition ws size q at (f ∷ fs) Last =
    Follows rules edition ws q at f.word f.bit f.place
    × (f.place + (row_of rules f.bit).size ≤ size)
    × Along rules edition ws size (suc (position f.word f.bit)) (f.place + (row_of rules f.bit).size) fs Last

-- a refusal at a field: some fields inside the length come before it, and it runs past the length
pub record Past (rules : Rules) (edition : ℕ) (ws : List ℕ) (size q at word bit start : ℕ) : Type 0 where
  pub fields : List Field
  pub along : Along rules edition ws size q at fields
      (λ q at. Follows rules edition ws q at word bit start × (size < start + (row_of rules bit).size))

-- what a reading tells of a header with these presence words and this length
abbrev pub Tells : Rules → (edition : ℕ) → (s ws : List ℕ) → (size : ℕ) → Reading → Type 0
Tells rules edition s ws size (refused_before number place) = ⊥
Tells rules edition s ws size (refused_at_field word bit place) =
    Past rules edition ws size 0 (4 + 4 * length ws) word bit place
Tells rules edition s ws size (read fs e frame) =
    Along rules edition ws size 0 (4 + 4 * length ws) fs (λ q at. Ends rules edition ws e q) × (take size s ++ frame ≡ s)

-- every reading of a header that is not refused before the first field tells so
abbrev pub FieldsFollow : Type 0
FieldsFollow = (rules : Rules) (edition : ℕ) (s : List ℕ) (size : ℕ) (ws : List ℕ) → table_ok rules ≡ true → served rules edition ≡ true
    → fixed_header s ≡ given size → presence_words s size ≡ given ws
    → Tells rules (edition_taken rules.reading_default edition) s ws size (reading rules edition s)
