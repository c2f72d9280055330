-- What the tests of a table give: of each field that an edition knows, of the editions that are served, and that a newer
-- edition knows what an older one knows. The table of document 01 passes them.
-- Assumes nothing.
use Prim.Native.Nat.{ℕ, zero, suc, ◌≤◌, ◌<◌}
use mathlib.Core.Path.{◌≡◌, refl, ap, subst}
use mathlib.Core.Bool.{Bool, true, false, cond, not, ◌&&◌, ◌||◌, and-eq-true_iff}
use mathlib.Core.List.{List, [], ◌∷◌}
use native.Mathlib.Omega.{arith}
use native.Mathlib.Decide.{dec_le, dec_lt, ℕ_discrete}
use lib.ListN.{length, get_or, get_or-eq_default}
use lib.Dec.{leb, ltb, eqb}
use borrow.Author.Tests.{leb-true, le-leb, ne_eqb}
use Rattle.radiotap_rules.specs.Rules.{word_bits, Row, unknown, Rules, row_of, row_known, knows, row_unknown, every_row, row_nests, nested, alignment_ok, row_ok, none_knows, table_ok, edition_taken, served}
use Rattle.radiotap_rules.specs.Table.{OursPass}

-- the parts of the test over a table
record Tested (rules : Rules) : Type 0 where
  few : length rules.rows ≤ word_bits
  rows : every_row (row_ok rules.newest) rules.rows ≡ true
  none : none_knows rules (29 ∷ 30 ∷ 31 ∷ []) ≡ true
  some : 1 ≤ rules.reading_default
  default : rules.reading_default ≤ rules.newest

tested : (rules : Rules) → table_ok rules ≡ true → Tested rules
tested rules ok =
    let a : Bool = leb (length rules.rows) word_bits in
    let b : Bool = every_row (row_ok rules.newest) rules.rows in
    let c : Bool = none_knows rules (29 ∷ 30 ∷ 31 ∷ []) in
    let d : Bool = leb 1 rules.reading_default in
    let e : Bool = leb rules.reading_default rules.newest in
    let f : Bool = leb 1 rules.writing_default in
    let six = (and-eq-true_iff (a && b && c && d && e && f) (leb rules.writing_default rules.newest)).0 ok in
    let five = (and-eq-true_iff (a && b && c && d && e) f).0 six.0 in
    let four = (and-eq-true_iff (a && b && c && d) e).0 five.0 in
    let three = (and-eq-true_iff (a && b && c) d).0 four.0 in
    let two = (and-eq-true_iff (a && b) c).0 three.0 in
    let one = (and-eq-true_iff a b).0 two.0 in
    record {
      few = leb-true _ _ one.0;
      rows = one.1;
      none = two.1;
      some = leb-true _ _ three.1;
      default = leb-true _ _ four.1;
    }

-- what reading takes a served edition for is then served too, and writing takes it for itself
pub taken-served : (rules : Rules) (edition : ℕ) → table_ok rules ≡ true → served rules edition ≡ true
    → let e = edition_taken rules.reading_default edition in
    (served rules e ≡ true) × (edition_taken rules.writing_default e ≡ e)
taken-served rules edition ok servedHere = go (eqb edition 0) refl (tested rules ok)
  where
    go : (t : Bool) → eqb edition 0 ≡ t → Tested rules
        → (served rules (cond t rules.reading_default edition) ≡ true)
        × (edition_taken rules.writing_default (cond t rules.reading_default edition) ≡ cond t rules.reading_default edition)
    go true e test =
        (le-leb _ _ test.default, rw (ne_eqb rules.reading_default 0 (λ z. omega (arith, test.some))))
    go false e test = (servedHere, rw e)

-- an alignment that passes its test is above 0
pub alignment_above : (a : ℕ) → alignment_ok a ≡ true → 1 ≤ a
alignment_above zero ok = let z : ◌≡◌ {A = ℕ} 0 1 = cc in absurd (omega arith)
alignment_above (suc a) ok = omega arith

-- and at most 8
pub alignment-most : (a : ℕ) → alignment_ok a ≡ true → a ≤ 8
alignment-most a ok = go (dec_le a 8)
  where
    go : Dec (a ≤ 8) → a ≤ 8
    go (yes l) = l
    go (no l) =
        let no : false ≡ true =
        rw (ne_eqb a 1 (omega arith), ne_eqb a 2 (omega arith), ne_eqb a 4 (omega arith), ne_eqb a 8 (omega arith)) at ok in
        let z : ◌≡◌ {A = ℕ} 0 1 = cc in
        absurd (omega arith)

-- a test that every row passes, and a row that no edition knows, is passed by the row of every field number
pub every_row_lem : (test : Row → Bool) → test unknown ≡ true → (rs : List Row) (n : ℕ) → every_row test rs ≡ true
    → test (get_or rs n unknown) ≡ true
every_row_lem test none [] n ok = none
every_row_lem test none (r ∷ rs) zero ok = ((and-eq-true_iff (test r) (every_row test rs)).0 ok).0
every_row_lem test none (r ∷ rs) (suc n) ok = every_row_lem test none rs n ((and-eq-true_iff (test r) (every_row test rs)).0 ok).1

module _ (rules : Rules) (edition n : ℕ) where
  -- an edition knows a field number from the first edition of its row on, which is not 0
  pub known_from : knows rules edition n ≡ true → (1 ≤ (row_of rules n).first) × ((row_of rules n).first ≤ edition)
  known_from known =
      let both = (and-eq-true_iff (leb 1 (row_of rules n).first) (leb (row_of rules n).first edition)).0 known in
      (leb-true _ _ both.0, leb-true _ _ both.1)

  -- so its row is not one that no edition knows
  pub known_some : knows rules edition n ≡ true → row_unknown (row_of rules n) ≡ false
  known_some known = ne_eqb (row_of rules n).first 0 (omega (arith, (known_from known).0))

  module _ (ok : table_ok rules ≡ true) (known : knows rules edition n ≡ true) where
    -- under a table that passes the test it has an alignment that does
    pub known-alignment : alignment_ok (row_of rules n).alignment ≡ true
    known-alignment =
        let r : Row = row_of rules n in
        let passed : (alignment_ok r.alignment && ltb 0 r.size && leb r.first rules.newest) ≡ true =
        rw (known_some known) at (every_row_lem (row_ok rules.newest) refl rules.rows n (tested rules ok).rows) in
        ((and-eq-true_iff _ _).0 ((and-eq-true_iff _ _).0 passed).0).0

    -- which is above 0
    pub known-aligned : 0 < (row_of rules n).alignment
    known-aligned = alignment_above (row_of rules n).alignment known-alignment

    -- and is the row of one of bits 0 to 28
    pub known-low : n ≤ 28
    known-low = go (dec_le n 28) (dec_le word_bits n) (ℕ_discrete n 29) (ℕ_discrete n 30)
      where
        test : Tested rules
        test = tested rules ok

        one : (row_unknown (row_of rules 29) ≡ true) × (none_knows rules (30 ∷ 31 ∷ []) ≡ true)
        one = (and-eq-true_iff (row_unknown (row_of rules 29)) (none_knows rules (30 ∷ 31 ∷ []))).0 test.none

        two : (row_unknown (row_of rules 30) ≡ true) × (none_knows rules (31 ∷ []) ≡ true)
        two = (and-eq-true_iff (row_unknown (row_of rules 30)) (none_knows rules (31 ∷ []))).0 one.1

        none : (m : ℕ) → n ≡ m → row_unknown (row_of rules m) ≡ true → n ≤ 28
        none m same e =
            let z : ◌≡◌ {A = ℕ} 0 1 = cc (known_some known, e, ap (λ (k : ℕ). row_unknown (row_of rules k)) same) in absurd (omega arith)

        go : Dec (n ≤ 28) → Dec (word_bits ≤ n) → Dec (n ≡ 29) → Dec (n ≡ 30) → n ≤ 28
        go (yes low) d d' d'' = low
        go (no l) (yes past) d' d'' =
            let e : row_of rules n ≡ unknown = get_or-eq_default rules.rows unknown (omega (arith, test.few)) in
            let z : ◌≡◌ {A = ℕ} 0 1 = cc (known_some known) in
            absurd (omega arith)
        go (no l) (no l') (yes e) d'' = none 29 e one.0
        go (no l) (no l') (no m) (yes e) = none 30 e two.0
        go (no l) (no l') (no m) (no m') = none 31 (omega arith) ((and-eq-true_iff (row_unknown (row_of rules 31)) true).0 two.1).0

-- so past bit 28 no edition knows a field
pub unknown-high : (rules : Rules) (edition n : ℕ) → table_ok rules ≡ true → 28 < n → knows rules edition n ≡ false
unknown-high rules edition n ok high = go (knows rules edition n) refl
  where
    go : (k : Bool) → knows rules edition n ≡ k → k ≡ false
    go true known = absurd (omega (arith, known-low rules edition n ok known))
    go false e = refl

-- in a row that passes, what an edition knows the next one knows
next_knows : (newest e : ℕ) (r : Row) → row_nests newest r ≡ true → e < newest → row_known e r ≡ true → row_known (suc e) r ≡ true
next_knows zero e r ok l known = absurd (omega arith)
next_knows (suc m) e r ok l known = go (dec_lt e m) (λ below. next_knows m e r tests.1 below known)
  where
    implied : (a b : Bool) → (not a || b) ≡ true → a ≡ true → b ≡ true
    implied true b h is = h
    implied false b h is = let z : ◌≡◌ {A = ℕ} 0 1 = cc in absurd (omega arith)

    tests : ((not (row_known m r) || row_known (suc m) r) ≡ true) × (row_nests m r ≡ true)
    tests = (and-eq-true_iff (not (row_known m r) || row_known (suc m) r) (row_nests m r)).0 ok

    go : Dec (e < m) → (e < m → row_known (suc e) r ≡ true) → row_known (suc e) r ≡ true
    go (yes below) before = before below
    go (no last) before =
        let same : m ≡ e = omega arith in
        subst (λ (k : ℕ). row_known k r ≡ true → row_known (suc k) r ≡ true) same (implied (row_known m r) (row_known (suc m) r) tests.0) known

-- a row that no edition knows passes
unknown-nests : (newest : ℕ) → row_nests newest unknown ≡ true
unknown-nests zero = refl
unknown-nests (suc e) = unknown-nests e

-- a newer edition, up to the newest, knows what an older one knows
pub knows_more : (rules : Rules) (older newer n : ℕ) → nested rules ≡ true → newer ≤ rules.newest → older ≤ newer
    → knows rules older n ≡ true → knows rules newer n ≡ true
knows_more rules older zero n ok top l known = let same : older ≡ zero = omega arith in subst (λ (k : ℕ). knows rules k n ≡ true) same known
knows_more rules older (suc e) n ok top l known = go (dec_lt e older) (λ below. knows_more rules older e n ok (omega arith) below known)
  where
    go : Dec (e < older) → (older ≤ e → knows rules e n ≡ true) → knows rules (suc e) n ≡ true
    go (yes above) before = let same : older ≡ suc e = omega arith in subst (λ (k : ℕ). knows rules k n ≡ true) same known
    go (no not_above) before =
        next_knows rules.newest e (row_of rules n)
        (every_row_lem (row_nests rules.newest) (unknown-nests rules.newest) rules.rows n ok) (omega arith) (before (omega arith))

-- the table of document 01 passes the tests
pub ours_pass : OursPass
ours_pass = record { rows = refl; table = refl; nests = refl; rest = refl }
