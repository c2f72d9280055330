-- The eight sums of an update that must fit are tested by four.
-- Assumes nothing.
use Prim.Native.Nat.{ℕ, ◌+◌, ◌^◌, ◌≤◌, ◌<◌}
use mathlib.Core.Path.{◌≡◌, refl}
use mathlib.Core.Bool.{Bool, true, false, ◌&&◌}
use native.Mathlib.Omega.{arith}
use lib.Dec.{ltb, eqb}
use borrow.Author.Tests.{ltb-true, eqb-true, lt-ltb}
use Rattle.btsnoop_rules.specs.Record.{received, command}
use Rattle.tally_rules.specs.declared.Tally.{Tally}
use Rattle.tally_rules.specs.declared.Entry.{Entry}
use Rattle.tally_rules.specs.Tally.{truncated, sent, is_data, one_if, lost_by, added, adds_up, fits}
use Rattle.tally_rules.specs.Counts.{BothSums}

-- both of two tests pass
both : (t u : Bool) → (t && u) ≡ true → (t ≡ true) × (u ≡ true)
both true u e = (refl, e)
both false u e = let z : ◌≡◌ {A = ℕ} 0 1 = cc in absurd (omega arith)

-- a tally that adds up
both_sums : (t : Tally) → adds_up t ≡ true → BothSums t
both_sums t e =
    let tests = both (eqb (t.sent + t.received) t.records) (eqb (t.commands + t.«data») t.records) e in
    (eqb-true (t.sent + t.received) t.records tests.0, eqb-true (t.commands + t.«data») t.records tests.1)

-- a count that is part of the records has room for one more where the records have
part-fits : (n records : ℕ) (z : Bool) → n ≤ records → records + 1 < 2 ^ 64 → n + one_if z < 2 ^ 64
part-fits n records true part below = omega arith
part-fits n records false part below = omega arith

-- a sum that stays below 2^64
abbrev below : ℕ → Bool
below n = ltb n (2 ^ 64)

-- tests that pass where the first of all does may stand beside the others
beside : (r v c o l x s d : Bool) → (r ≡ true → (v ≡ true) × (c ≡ true) × (s ≡ true) × (d ≡ true))
    → (r && o && l && x) ≡ (r && v && c && o && l && x && s && d)
beside false v c o l x s d pass = refl
beside true v c o l x s d pass = rw ((pass refl).0, (pass refl).1, (pass refl).2, (pass refl).3) (go (o && l && x))
  where
    go : (z : Bool) → z ≡ (z && true && true)
    go true = refl
    go false = refl

-- of a tally that adds up all eight sums fit with a record added where the four do that nothing else bounds
pub eight-fit : (t : Tally) (e : Entry) (l x : ℕ) → adds_up t ≡ true → l ≡ lost_by t e.drops → x ≡ one_if (truncated e)
    → (below (t.records + 1) && below (t.octets + e.included) && below (t.lost + l) && below (t.truncated + x)) ≡ fits (added t e)
eight-fit t e l x adding l-is x-is =
    rw (l-is, x-is)
    (beside _ _ _ _ _ _ _ _
    (λ passes.
    let records = ltb-true (t.records + 1) (2 ^ 64) passes in (
      fitting t.received (received e.flags) (omega (arith, sums.0)) records,
      fitting t.commands (command e.flags) (omega (arith, sums.1)) records,
      fitting t.sent (sent e.flags) (omega (arith, sums.0)) records,
      fitting t.«data» (is_data e.flags) (omega (arith, sums.1)) records,
    )))
  where
    sums : BothSums t
    sums = both_sums t adding

    fitting : (n : ℕ) (z : Bool) → n ≤ t.records → t.records + 1 < 2 ^ 64 → below (n + one_if z) ≡ true
    fitting n z part records = lt-ltb (n + one_if z) (2 ^ 64) (part-fits n t.records z part records)
