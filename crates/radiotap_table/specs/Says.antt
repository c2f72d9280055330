-- What the answers of the table say in document 01's terms, case by case.
use Rattle.std.specs.Prelude.{◌≡◌, ℕ, ◌+◌, ◌%◌, true, Option, Some, None}
use Rattle.radiotap_rules.specs.Rules.{Row, row_of, alignment_ok}
use Rattle.radiotap_rules.specs.Table.{our_rules}
use Rattle.radiotap_rules.specs.Reading.{aligned}
use Rattle.radiotap_rules.specs.Answers.{Layout, unknown_field, lies, lay_of}
use Rattle.radiotap_table.specs.declared.Lies.{Lies}
use Rattle.radiotap_table.specs.declared.Span.{Span}

-- a field that the edition does not know, or where it lies
abbrev pub lay_says : Option Lies → Layout
lay_says None = unknown_field
lay_says (Some field) = lies field.start field.size

-- where a field lies by its row, whichever bit's row it is
abbrev pub LaysRow : Row → (taken at : ℕ) → Option Lies → Type 0
LaysRow row taken at r = (bit : ℕ) → row ≡ row_of our_rules bit → lay_says r ≡ lay_of our_rules taken bit at

-- what a field takes by its row: its alignment less one (all 32 bits where it has none, as no edition knows it), and its
-- size
abbrev pub SpansRow : Row → Span → Type 0
SpansRow row r = (r.mask ≡ (row.alignment + 4294967295) % 4294967296) × (r.size ≡ row.size)

-- what the field of a bit takes
abbrev pub SpannedAs : (bit : ℕ) → Span → Type 0
SpannedAs bit r = SpansRow (row_of our_rules bit) r

-- the next multiple of what is an alignment; of 2^32 for 0
abbrev pub AlignedAs : (alignment at r : ℕ) → Type 0
AlignedAs alignment at r = (alignment_ok alignment ≡ true → r ≡ aligned alignment at) × (alignment ≡ 0 → r ≡ aligned 4294967296 at)
