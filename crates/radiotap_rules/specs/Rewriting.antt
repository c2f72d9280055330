-- What holds of writing and reading a header together. Proofs: proofs/ReadBack.antt, proofs/Rewriting.antt.
use Rattle.std.specs.Prelude.{ℕ, ◌+◌, ◌^◌, ◌≤◌, ◌<◌, ◌≡◌, true, false, ◌↔◌, List, [], ◌∷◌, ◌++◌, length, take, get_or}
use Rattle.refusals.specs.Refusals.{given}
use Rattle.octets.specs.Numbers.{Octets}
use Rattle.octets.specs.Parts.{splice}
use Rattle.radiotap_rules.specs.Rules.{Rules, nested, table_ok, edition_taken, served}
use Rattle.radiotap_rules.specs.Reading.{fixed_length, fixed_header, presence_words, bit_set, aligned, Field, ended, reading, read}
use Rattle.radiotap_rules.specs.Writing.{Planned, writable, plan, summed, laid_fields, header_octets, writing, written}

-- what a writer accepts in an edition: a word whose fields it knows, with values of the summed length
pub record Writable (rules : Rules) (edition word : ℕ) (values : List ℕ) : Type 0 where
  pub known : writable rules edition word ≡ true
  pub long : length values ≡ summed (plan rules edition word)
  pub word32 : word < 2 ^ 32
  pub octets : Octets values
  -- the length fits its field of two octets
  pub short : length (header_octets rules edition word values) < 2 ^ 16

-- read back in the writing edition or a later one, the same fields come out, and the frame behind them
abbrev pub ReadBack : Type 0
ReadBack = (rules : Rules) (edition reader word : ℕ) (values frame : List ℕ) → table_ok rules ≡ true → nested rules ≡ true → served rules reader ≡ true
    → edition ≤ edition_taken rules.reading_default reader → Writable rules edition word values
    → reading rules reader (header_octets rules edition word values ++ frame)
    ≡ read (laid_fields (plan rules edition word) fixed_length values) ended frame

-- the octets of the fields shown, joined as values
abbrev pub joined : List Field → List ℕ
joined [] = []
joined (f ∷ fs) = f.octets ++ joined fs

-- where the last planned field ends; where there is none, the place before them
abbrev pub last_end : (at : ℕ) → List Planned → ℕ
last_end at [] = at
last_end at (p ∷ ps) = last_end (aligned p.row.alignment at + p.row.size) ps

-- where the last of these fields ends; where there is none, the place before them
abbrev pub end_of : (at : ℕ) → List Field → ℕ
end_of at [] = at
end_of at (f ∷ fs) = end_of (f.place + length f.octets) fs

-- the pad octets before these fields, from a place on, are 0
abbrev pub GapsZero : List ℕ → (at : ℕ) → List Field → Type 0
GapsZero s at [] = Unit {0}
GapsZero s at (f ∷ fs) =
    ((i : ℕ) → at ≤ i → i < f.place → get_or s i 0 ≡ 0) × GapsZero s (f.place + length f.octets) fs

-- a header with one presence word, bit 29 clear, read without a stop in an edition
pub record OneWord (rules : Rules) (edition : ℕ) (s : List ℕ) (size word : ℕ) (fs : List Field) (frame : List ℕ) : Type 0 where
  pub header : fixed_header s ≡ given size
  pub words : presence_words s size ≡ given (word ∷ [])
  pub clear : bit_set word 29 ≡ false
  pub whole : reading rules edition s ≡ read fs ended frame

-- a header of so many octets rewritten in an edition, from its presence word and the values of the fields that it shows
pub record Rewritten (rules : Rules) (edition : ℕ) (s : List ℕ) (size word : ℕ) (fs : List Field) : Type 0 where
  -- writing serves the edition and takes it for itself
  pub serves : served rules edition ≡ true
  pub itself : edition_taken rules.writing_default edition ≡ edition
  -- the writer accepts the word and the values wherever there is room, and puts the octets there
  pub accepts : Writable rules edition word (joined fs)
  pub answer : (room at : ℕ) → at + length (header_octets rules edition word (joined fs)) ≤ room
      → writing rules room at edition word (joined fs) ≡ given (at + length (header_octets rules edition word (joined fs)))
  pub output : (out : List ℕ) (at : ℕ) → at + length (header_octets rules edition word (joined fs)) ≤ length out
      → written rules out at edition word (joined fs) ≡ splice out at (header_octets rules edition word (joined fs))
  -- these are the header's own octets exactly when its pad octets, octet 1 among them, are all 0 and its length ends at
  -- the last field (at 8 if none)
  pub own : (header_octets rules edition word (joined fs) ≡ take size s)
      ↔ ((get_or s 1 0 ≡ 0) × GapsZero s fixed_length fs × (size ≡ end_of fixed_length fs))

-- such a header is rewritten in the edition that reading takes the edition for
abbrev pub RewritesItself : Type 0
RewritesItself = (rules : Rules) (edition : ℕ) (s : List ℕ) (size word : ℕ) (fs : List Field) (frame : List ℕ) → table_ok rules ≡ true
    → Octets s → OneWord rules edition s size word fs frame
    → Rewritten rules (edition_taken rules.reading_default edition) s size word fs
