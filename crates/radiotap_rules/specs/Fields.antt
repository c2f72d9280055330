-- Where the fields that a reading shows lie. Proof: proofs/Places.antt.
use Rattle.std.specs.Prelude.{ℕ, ◌+◌, ◌≤◌, ◌≡◌, true, List, length}
use Rattle.refusals.specs.Refusals.{given}
use Rattle.octets.specs.Parts.{part}
use Rattle.radiotap_rules.specs.Rules.{Rules, row_of, table_ok}
use Rattle.radiotap_rules.specs.Reading.{fixed_header, Field, Ending, reading, read, the_field, nth}

-- a field inside the length, as long as its row says: its octets are the very octets at its place
pub record Lies (rules : Rules) (s : List ℕ) (size : ℕ) (f : Field) : Type 0 where
  pub octets : f.octets ≡ part s f.place (row_of rules f.bit).size
  pub long : length f.octets ≡ (row_of rules f.bit).size
  pub inside : f.place + length f.octets ≤ size

-- every field that a list has by its number lies so
abbrev pub AllLie : Rules → List ℕ → ℕ → List Field → Type 0
AllLie rules s size fs = (k : ℕ) (f : Field) (e : Ending) → nth fs e k ≡ the_field f → Lies rules s size f

-- the fields that are shown lie inside the length that the fixed header gives, which is inside the input
pub record Inside (rules : Rules) (s : List ℕ) (fs : List Field) : Type 0 where
  pub size : ℕ
  pub header : fixed_header s ≡ given size
  pub input : size ≤ length s
  pub lies : AllLie rules s size fs

-- every field that a reading shows, by its number, is as long as its row says and lies inside the header's length
abbrev pub FieldsInside : Type 0
FieldsInside = (rules : Rules) (edition : ℕ) (s : List ℕ) (fs : List Field) (e : Ending) (frame : List ℕ) → table_ok rules ≡ true
    → reading rules edition s ≡ read fs e frame → Inside rules s fs
