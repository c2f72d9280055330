-- What the writer put into an output is read back from it: an accepted header is short enough for its length field by the
-- test over the rows, so the octets spliced in are read as the header alone.
-- Assumes nothing.
use Prim.Native.Nat.{ℕ, zero, suc, ◌+◌, ◌-◌, ◌*◌, ◌^◌, ◌≤◌, ◌<◌}
use mathlib.Core.Path.{◌≡◌, refl, sym, ap, ◌∙◌}
use mathlib.Core.Bool.{true, and-eq-true_iff}
use mathlib.Core.List.{List, [], ◌∷◌, ◌++◌, append-nil}
use native.Mathlib.Omega.{arith}
use native.Mathlib.Nat.{suc-mul, mul-le-mul_right, div-mul-le_self}
use lib.ListN.{length}
use lib.Dec.{ltb}
use borrow.Author.Tests.{leb-true, ltb-true}
use Rattle.refusals.specs.Refusals.{given}
use Rattle.octets.specs.Parts.{part, splice}
use Rattle.octets.proofs.PartLaws.{length-splice, splice-before, splice-behind, part-splice}
use Rattle.radiotap_rules.specs.Rules.{Row, Rules, row_of, every_row, table_ok, edition_taken}
use Rattle.radiotap_rules.specs.Reading.{fixed_length, word_bits, Meaning, nothing, unknown_here, field, meaning, aligned, ended, reading, read}
use Rattle.radiotap_rules.specs.Table.{our_rules}
use Rattle.radiotap_rules.specs.Writing.{Planned, with_plan, plan_from, plan, summed, laid_fields, header_octets, writing, written}
use Rattle.radiotap_rules.specs.Rewriting.{Writable, last_end}
use Rattle.radiotap_rules.specs.Outputs.{size_within, length_fits, WrittenReadsBack, EveryTableReadsBack}
use Rattle.radiotap_rules.proofs.TableTests.{alignment-most, every_row_lem, known_some, known-alignment, ours_pass}
use Rattle.radiotap_rules.proofs.Planning.{EachRow, each-planned, header-ends}
use Rattle.radiotap_rules.proofs.WriteOrders.{writable-known, write_exactly}
use Rattle.radiotap_rules.proofs.ReadBack.{read_back}

-- a row with an alignment of at most 8 and at most so many octets
abbrev Small : (most : ℕ) → Row → Type 0
Small most r = (r.alignment ≤ 8) × (r.size ≤ most)

-- such fields end within so many octets each from a place on
end_within : (most at : ℕ) (ps : List Planned) → EachRow (Small most) ps → last_end at ps ≤ at + length ps * (most + 7)
end_within most at [] h = omega arith
end_within most at (p ∷ ps) h =
    let a : ℕ = p.row.alignment in
    let rest = end_within most (aligned a at + p.row.size) ps h.1 in
    omega (arith, h.0.0, h.0.1, rest, div-mul-le_self (at + (a - 1)) a, suc-mul (length ps) (most + 7))

-- at most one field is planned for each position
planned-few : (rules : Rules) (edition word left q : ℕ) → length (plan_from rules edition word left q) ≤ left
planned-few rules edition word zero q = omega arith
planned-few rules edition word (suc left) q =
    go (meaning rules edition (word ∷ []) q) (plan_from rules edition word left (suc q)) (planned-few rules edition word left (suc q))
  where
    go : (m : Meaning) (ps : List Planned) → length ps ≤ left → length (with_plan q m ps) ≤ suc left
    go nothing ps h = omega arith
    go unknown_here ps h = omega arith
    go (field r) ps h = omega arith

plan-few : (rules : Rules) (edition word : ℕ) → length (plan rules edition word) ≤ word_bits
unfolding plan
plan-few rules edition word = planned-few rules edition word word_bits 0

-- under a table that passes these tests, the length of a header with values of the summed length fits two octets
header-short : (rules : Rules) (most edition word : ℕ) (values : List ℕ) → table_ok rules ≡ true → length_fits most rules ≡ true
    → length values ≡ summed (plan rules edition word) → length (header_octets rules edition word values) < 2 ^ 16
header-short rules most edition word values ok fits long =
    let ps : List Planned = plan rules edition word in
    let both = (and-eq-true_iff (every_row (size_within most) rules.rows) (ltb (fixed_length + word_bits * (most + 7)) (2 ^ 16))).0 fits in
    let small : EachRow (Small most) ps =
    each-planned rules edition word (Small most)
    (λ n known. (
      alignment-most (row_of rules n).alignment (known-alignment rules edition n ok known),
      leb-true _ _ (rw (known_some rules edition n known) at (every_row_lem (size_within most) refl rules.rows n both.0)),
    )) in
    omega (
      arith,
      ltb-true (fixed_length + word_bits * (most + 7)) (2 ^ 16) both.1,
      header-ends rules edition word values ok long,
      end_within most fixed_length ps small,
      mul-le-mul_right (most + 7) (plan-few rules edition word),
    )

-- the output of an accepted write
spliced : (rules : Rules) (out : List ℕ) (at next edition word : ℕ) (values : List ℕ)
    → writing rules (length out) at edition word values ≡ given next
    → written rules out at edition word values
    ≡ splice out at (header_octets rules (edition_taken rules.writing_default edition) word values)
unfolding written
spliced rules out at next edition word values e = rw e

-- under every table that passes the tests, what the writer accepts is read back from the output
pub every_table_reads_back : EveryTableReadsBack
every_table_reads_back rules most ok nests fits out at next edition reader word values word32 octets serves later e =
    let taken : ℕ = edition_taken rules.writing_default edition in
    let told = ((write_exactly rules (length out) at edition word values).accepted next).0 e in
    let w = told.0 in
    let xs : List ℕ = header_octets rules taken word values in
    let output : written rules out at edition word values ≡ splice out at xs = spliced rules out at next edition word values e in
    let after : at + length xs ≡ next = told.2 in
    let inside : at + length xs ≤ length out = told.1 in
    let count : next - at ≡ length xs = omega arith in
    let there : part (written rules out at edition word values) at (next - at) ≡ xs =
    rw (output, count) (part-splice out at xs (omega arith)) in
    let writes : Writable rules taken word values =
    record {
      known = (writable-known rules taken word).1 w.known;
      long = w.long;
      word32 = word32;
      octets = octets;
      short = header-short rules most taken word values ok fits w.long;
    } in
    let back : (frame : List ℕ) → reading rules reader (xs ++ frame) ≡ read (laid_fields (plan rules taken word) fixed_length values) ended frame =
    λ frame. read_back rules taken reader word values frame ok nests serves later writes in
    record {
      starts = omega arith;
      ends = omega arith;
      alone = rw there (ap (reading rules reader) (sym (append-nil xs)) ∙ back []);
      followed = λ frame. rw there (back frame);
      long = rw output (length-splice out at xs inside);
      before = rw output (splice-before out at xs (omega arith));
      behind = rw (output, ← after) (splice-behind out at xs (omega arith));
    }

-- so it is under the table of document 01, whose fields have at most 12 octets
pub written_reads_back : WrittenReadsBack our_rules
written_reads_back = every_table_reads_back our_rules 12 ours_pass.table ours_pass.nests refl
