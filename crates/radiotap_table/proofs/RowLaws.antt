-- What the table's test says of its rows, and where a field lies by its row as it is read.
-- Assumes nothing.
use Rattle.std.proofs.Common.{◌≡◌, ℕ, ◌+◌, ◌-◌, ◌%◌, ◌<◌, ◌≤◌, Bool, true, false, cond, List, map, length, get_or, sym, refl, ap, ◌∙◌, subst, div-mul-le_self, arith}
use lib.ListN.{get_or-eq_default, get_or-map}
use lib.Bits.{bit_or}
use Rattle.radiotap_rules.specs.Rules.{Rules, unknown, row_of, row_known, knows, alignment_ok, table_ok}
use Rattle.radiotap_rules.specs.Rules.{Row as RuleOf}
use Rattle.radiotap_rules.specs.Table.{our_rules}
use Rattle.radiotap_rules.specs.Reading.{aligned}
use Rattle.radiotap_rules.specs.Answers.{unknown_field, lies, lay_of}
use Rattle.radiotap_rules.proofs.TableTests.{alignment_above, alignment-most, known-alignment}
use Rattle.radiotap_table.specs.Rows.{in_rules}
use Rattle.radiotap_table.specs.declared.Row.{Row}
use Rattle.radiotap_table.specs.declared.Span.{Span}
use Rattle.radiotap_table.specs.Says.{SpansRow, SpannedAs, AlignedAs}
use Rattle.radiotap_table.proofs.RoundLaws.{alignment-filled}

-- what an array that is a table holds where it has no row
abbrev pub none_held : Row
none_held = record { alignment = 0; size = 0; first = 0 }

-- in the array of a table the row at a bit's index is the row of that bit, and its field takes what that row says
module _ (rules : Rules) (array : List Row) (table : map in_rules array ≡ rules.rows) (n : ℕ) where
  pub row_at : in_rules (get_or array n none_held) ≡ row_of rules n
  row_at = sym (get_or-map in_rules array n none_held) ∙ ap (λ (rows : List RuleOf). get_or rows n unknown) table

  pub row-spans : {p : Span} → SpansRow (in_rules (get_or array n none_held)) p → SpansRow (row_of rules n) p
  row-spans {p} spans = subst (λ (row : RuleOf). SpansRow row p) row_at spans

module _ (rules : Rules) (n : ℕ) where
  module _ (edition at : ℕ) where
    -- a field that the edition does not know
    pub lay_unknown : knows rules edition n ≡ false → lay_of rules edition n at ≡ unknown_field
    unfolding lay_of
    lay_unknown e = rw e

    -- past the rows there is none
    pub row_past : length rules.rows ≤ n → lay_of rules edition n at ≡ unknown_field
    row_past h = lay_unknown (ap (row_known edition) (get_or-eq_default rules.rows unknown {n = n} h))

    -- a known field starts less than an alignment behind the first free place
    pub lay_near : (start size : ℕ) → table_ok rules ≡ true → lay_of rules edition n at ≡ lies start size → start < at + 8
    unfolding lay_of
    lay_near start size ok = go (knows rules edition n) refl
      where
        a : ℕ
        a = (row_of rules n).alignment

        go : (t : Bool) → knows rules edition n ≡ t → cond t (lies (aligned a at) (row_of rules n).size) unknown_field ≡ lies start size
            → start < at + 8
        go true e l =
            let same : aligned a at ≡ start = cc in
            omega (arith, same, div-mul-le_self (at + (a - 1)) a, alignment-most a (known-alignment rules edition n ok e))
        go false e l = let z : ◌≡◌ {A = ℕ} 0 1 = cc in absurd (omega arith)

-- a row of a bit
module _ (rules : Rules) (n : ℕ) {r : RuleOf} (its : r ≡ row_of rules n) (edition at : ℕ) where
  -- whether an edition knows the field, by its row
  pub by_row : {t : Bool} → t ≡ row_known edition r → t ≡ knows rules edition n
  by_row e = e ∙ ap (row_known edition) its

  -- a field that the edition knows lies at the next multiple of its alignment
  pub lay_known : (start : ℕ) → table_ok rules ≡ true → AlignedAs r.alignment at start → true ≡ row_known edition r
      → lay_of rules edition n at ≡ lies start r.size
  unfolding lay_of
  lay_known start ok next k =
      let known : knows rules edition n ≡ true = sym (by_row k) in
      let alignment : r.alignment ≡ (row_of rules n).alignment = ap (λ (row : RuleOf). row.alignment) its in
      let same : start ≡ aligned r.alignment at = next.0 (rw alignment (known-alignment rules edition n ok known)) in
      rw (known, same, its)

-- a field that an edition knows starts where its mask fills up the places behind the last that is not free
pub span_lies : (edition bit last : ℕ) {p : Span} → SpannedAs bit p → knows our_rules edition bit ≡ true
    → lay_of our_rules edition bit (last + 1) ≡ lies (bit_or last p.mask + 1) p.size
unfolding lay_of
span_lies edition bit last spans k =
    let a : ℕ = (row_of our_rules bit).alignment in
    let ok : alignment_ok a ≡ true = known-alignment our_rules edition bit refl k in
    let mask : (a + 4294967295) % 4294967296 ≡ a - 1 = omega (arith, alignment_above a ok, alignment-most a ok) in
    rw (k, spans.0, spans.1, mask, alignment-filled a last ok)
