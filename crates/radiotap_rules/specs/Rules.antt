-- Document 01, "Radiotap": the table of fields, as rules that a reading is given.
use Rattle.std.specs.Prelude.{ℕ, zero, suc, Bool, true, cond, not, ◌&&◌, ◌||◌, List, [], ◌∷◌, length, get_or, leb, ltb, eqb}

-- a row of the table: alignment, size, first edition that knows the field (0: known to none)
pub record Row : Type 0 where
  pub alignment : ℕ
  pub size : ℕ
  pub first : ℕ

abbrev pub row : (alignment size first : ℕ) → Row
row a s f = record { alignment = a; size = s; first = f }

-- a row that no edition knows
abbrev pub unknown : Row
unknown = row 0 0 0

-- the rules: the rows by bit, the editions that edition 0 asks for when reading and when writing, the newest
pub record Rules : Type 0 where
  pub rows : List Row
  pub reading_default : ℕ
  pub writing_default : ℕ
  pub newest : ℕ

-- the bits of a presence word
abbrev pub word_bits : ℕ
word_bits = 32

-- the row of a field number; past the table it is unknown
abbrev pub row_of : Rules → ℕ → Row
row_of rules n = get_or rules.rows n unknown

-- whether an edition knows the field of a row
abbrev pub row_known : (edition : ℕ) → Row → Bool
row_known edition r = leb 1 r.first && leb r.first edition

-- whether an edition knows the field of a number
abbrev pub knows : Rules → (edition n : ℕ) → Bool
knows rules edition n = row_known edition (row_of rules n)

-- whether no edition knows the field of a row
abbrev pub row_unknown : Row → Bool
row_unknown r = eqb r.first 0

-- whether every row passes a test
abbrev pub every_row : (Row → Bool) → List Row → Bool
every_row test [] = true
every_row test (r ∷ rs) = test r && every_row test rs

-- the test of one row: up to the newest edition, each edition knows the field if the one before does
abbrev pub row_nests : (newest : ℕ) → Row → Bool
row_nests zero r = true
row_nests (suc e) r = (not (row_known e r) || row_known (suc e) r) && row_nests e r

-- the one test over the rows by which editions nest
abbrev pub nested : Rules → Bool
nested rules = every_row (row_nests rules.newest) rules.rows

-- an alignment is 1, 2, 4 or 8
abbrev pub alignment_ok : ℕ → Bool
alignment_ok a = eqb a 1 || eqb a 2 || eqb a 4 || eqb a 8

-- the test of one row: known to none, or with an alignment, a size above 0 and a first edition from 1 to the newest
abbrev pub row_ok : (newest : ℕ) → Row → Bool
row_ok newest r = cond (row_unknown r) true (alignment_ok r.alignment && ltb 0 r.size && leb r.first newest)

-- field numbers that no edition knows
abbrev pub none_knows : Rules → List ℕ → Bool
none_knows rules [] = true
none_knows rules (n ∷ ns) = row_unknown (row_of rules n) && none_knows rules ns

-- the one test over a table: at most a row for each bit of a presence word, every row passes, 29 to 31 are known to none,
-- and the defaults are served
abbrev pub table_ok : Rules → Bool
table_ok rules =
    leb (length rules.rows) word_bits
    && every_row (row_ok rules.newest) rules.rows
    && none_knows rules (29 ∷ 30 ∷ 31 ∷ [])
    && leb 1 rules.reading_default
    && leb rules.reading_default rules.newest
    && leb 1 rules.writing_default
    && leb rules.writing_default rules.newest

-- edition 0 asks for a default
abbrev pub edition_taken : (default edition : ℕ) → ℕ
edition_taken default edition = cond (eqb edition 0) default edition

-- served are the editions that 15 does not refuse
abbrev pub served : Rules → (edition : ℕ) → Bool
served rules edition = leb edition rules.newest
