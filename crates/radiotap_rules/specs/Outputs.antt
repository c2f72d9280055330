-- Document 01, "Radiotap": "Read back in that edition or a later one, the same fields come out." What a reading answers of
-- the octets that the writer put into an output. Proof: proofs/Outputs.antt.
use Rattle.std.specs.Prelude.{ℕ, ◌+◌, ◌-◌, ◌*◌, ◌^◌, ◌≤◌, ◌<◌, ◌≡◌, Bool, true, cond, ◌&&◌, List, [], ◌++◌, length, take, drop, leb, ltb}
use Rattle.refusals.specs.Refusals.{given}
use Rattle.octets.specs.Numbers.{Octets}
use Rattle.octets.specs.Parts.{part}
use Rattle.radiotap_rules.specs.Rules.{Row, Rules, row_unknown, every_row, nested, table_ok, edition_taken, served}
use Rattle.radiotap_rules.specs.Reading.{fixed_length, word_bits, Field, ended, reading, read}
use Rattle.radiotap_rules.specs.Writing.{plan, laid_fields, writing, written}

-- the test of one row's size: known to none, or of at most so many octets
abbrev pub size_within : (most : ℕ) → Row → Bool
size_within most r = cond (row_unknown r) true (leb r.size most)

-- the test that a header with one presence word fits a length of two octets: behind the fixed header at most a field for
-- each bit, with at most 7 pad octets before it
abbrev pub length_fits : (most : ℕ) → Rules → Bool
length_fits most rules = every_row (size_within most) rules.rows && ltb (fixed_length + word_bits * (most + 7)) (2 ^ 16)

-- the fields that are written, as a reading shows them: those of the word in the edition asked for, with their values
abbrev pub fields_written : Rules → (edition word : ℕ) → List ℕ → List Field
fields_written rules edition word values =
    laid_fields (plan rules (edition_taken rules.writing_default edition) word) fixed_length values

-- an output that is read back from a place up to another, where a header was written into it
pub record ReadsBack (rules : Rules) (out : List ℕ) (at next edition reader word : ℕ) (values : List ℕ) : Type 0 where
  -- the octets written lie inside the output
  pub starts : at ≤ next
  pub ends : next ≤ length out
  -- they are a header with the fields written and no frame
  pub alone : reading rules reader (part (written rules out at edition word values) at (next - at))
      ≡ read (fields_written rules edition word values) ended []
  -- with octets behind them, the same header and these octets as the frame
  pub followed : (frame : List ℕ)
      → reading rules reader (part (written rules out at edition word values) at (next - at) ++ frame)
      ≡ read (fields_written rules edition word values) ended frame
  -- outside them the output is as it was
  pub long : length (written rules out at edition word values) ≡ length out
  pub before : take at (written rules out at edition word values) ≡ take at out
  pub behind : drop next (written rules out at edition word values) ≡ drop next out

-- whatever the writer accepts is read back so, in the edition it was written in or a later one
abbrev pub WrittenReadsBack : Rules → Type 0
WrittenReadsBack rules = (out : List ℕ) (at next edition reader word : ℕ) (values : List ℕ) → word < 2 ^ 32 → Octets values
    → served rules reader ≡ true
    → edition_taken rules.writing_default edition ≤ edition_taken rules.reading_default reader
    → writing rules (length out) at edition word values ≡ given next
    → ReadsBack rules out at next edition reader word values

-- under every table that passes the tests
abbrev pub EveryTableReadsBack : Type 0
EveryTableReadsBack = (rules : Rules) (most : ℕ) → table_ok rules ≡ true → nested rules ≡ true → length_fits most rules ≡ true → WrittenReadsBack rules
