-- Tallying the records of a list adds its counts and sums to a tally, and keeps the two sums.
-- Assumes nothing.
use Prim.Native.Nat.{ℕ, ◌+◌}
use mathlib.Core.Path.{◌≡◌, refl, sym, ap, subst, ◌∙◌}
use mathlib.Core.Bool.{Bool, true, false, cond, not}
use mathlib.Core.List.{List, [], ◌∷◌}
use mathlib.Core.Logic.{inl, inr}
use native.Mathlib.Omega.{arith}
use lib.ListN.{length}
use lib.Dec.{eqb}
use borrow.Author.Tests.{ne_eqb}
use Rattle.refusals.specs.Refusals.{Answer, refused, given}
use Rattle.refusals.proofs.Orders.{not_refused, other-number}
use Rattle.btsnoop_rules.specs.Record.{received, command}
use Rattle.btsnoop_rules.specs.Drops.{drops_between}
use Rattle.tally_rules.specs.declared.Tally.{Tally}
use Rattle.tally_rules.specs.declared.Entry.{Entry}
use Rattle.tally_rules.specs.Tally.{sum_broken, sum_past, truncated, sent, is_data, one_if, lost_by, added, updating, after_update}
use Rattle.tally_rules.specs.Orders.{SumBreaks}
use Rattle.tally_rules.proofs.Orders.{update_exactly}
use Rattle.tally_rules.specs.Counts.{empty_tally, unless_refused, counted, tallied, sum_of, differences_from, differences, last_drops, BothSums, TallyCounts, SumsHold, Never23}

-- a tally that an update gives has the record added
pub given-added : (t : Tally) (e : Entry) (u : Tally) → updating t e ≡ given u → u ≡ added t e
given-added t e u h =
    let unbroken = (update_exactly t e).otherwise (λ breaks. not_refused (sym h ∙ (update_exactly t e).here.1 breaks)) in
    let is = unbroken.otherwise (λ passes. not_refused (sym h ∙ unbroken.here.1 passes)) in
    cc

-- what holds of no records, and of a record before others where it holds of the tally with it added and these, holds of
-- every list of updates
tallying : (P : Tally → List Entry → Tally → Type 0) → ((t : Tally) → P t [] t)
    → ((t : Tally) (e : Entry) (es : List Entry) (u : Tally) → P (added t e) es u → P t (e ∷ es) u)
    → (es : List Entry) (t : Tally) → P t (counted es t) (tallied es t)
tallying P none more [] t = none t
tallying P none more (e ∷ es) t = go (updating t e) (given-added t e) (tallying P none more es)
  where
    go : (answer : Answer Tally) → ((u : Tally) → answer ≡ given u → u ≡ added t e)
        → ((u : Tally) → P u (counted es u) (tallied es u))
        → P t (unless_refused answer e (counted es (after_update t answer))) (tallied es (after_update t answer))
    go (refused n q) is rest = rest t
    go (given u) is rest =
        more t e (counted es u) (tallied es u) (subst (λ (v : Tally). P v (counted es u) (tallied es u)) (is u refl) (rest u))

-- a number to which every record adds something of its own
sums : (f : Tally → ℕ) (g : Entry → ℕ) → ((t : Tally) (e : Entry) → f (added t e) ≡ f t + g e)
    → (es : List Entry) (t : Tally) → f (tallied es t) ≡ f t + sum_of g (counted es t)
sums f g adds =
    tallying (λ t es u. f u ≡ f t + sum_of g es) (λ t. omega arith)
    (λ t e es u rest. rest ∙ ap (λ (n : ℕ). n + sum_of g es) (adds t e) ∙ omega arith)

-- a list is as long as its records are, each counted once
length-sums : (es : List Entry) → sum_of (λ (e : Entry). 1) es ≡ length es
length-sums [] = refl
length-sums (e ∷ es) = omega (arith, length-sums es)

-- what the records of a list add to lost
abbrev lost_from : Tally → List Entry → ℕ
lost_from t es = cond (eqb t.records 0) (differences es) (differences_from t.last es)

-- no record adds nothing to lost
lost-none : (t : Tally) → lost_from t [] ≡ 0
lost-none t = go (eqb t.records 0)
  where
    go : (z : Bool) → ◌≡◌ {A = ℕ} (cond z 0 0) 0
    go true = refl
    go false = refl

-- a record adds its own part, and those behind it theirs
lost_first : (t : Tally) (e : Entry) (es : List Entry) → lost_by t e.drops + lost_from (added t e) es ≡ lost_from t (e ∷ es)
lost_first t e es =
    ap (λ (z : Bool). lost_by t e.drops + cond z (differences es) (differences_from e.drops es)) (ne_eqb (t.records + 1) 0 (λ z. omega (arith, z)))
    ∙ go (eqb t.records 0)
  where
    go : (z : Bool)
        → cond z 0 (drops_between t.last e.drops) + differences_from e.drops es
        ≡ cond z (differences_from e.drops es) (drops_between t.last e.drops + differences_from e.drops es)
    go true = omega arith
    go false = refl

losts : (es : List Entry) (t : Tally) → (tallied es t).lost ≡ t.lost + lost_from t (counted es t)
losts =
    tallying (λ t es u. u.lost ≡ t.lost + lost_from t es) (λ t. omega (arith, lost-none t))
    (λ t e es u rest. rest ∙ omega (arith, lost_first t e es))

lasts : (es : List Entry) (t : Tally) → (tallied es t).last ≡ last_drops t.last (counted es t)
lasts = tallying (λ t es u. u.last ≡ last_drops t.last es) (λ t. refl) (λ t e es u rest. rest)

-- any list of updates from any empty tally gives the counts and sums of those that are not refused
pub tally_counts : TallyCounts
tally_counts drops es =
    let t = empty_tally drops in
    record {
      records = sums (λ (t : Tally). t.records) (λ (e : Entry). 1) (λ t e. refl) es t ∙ omega (arith, length-sums (counted es t));
      received = sums (λ (t : Tally). t.received) (λ (e : Entry). one_if (received e.flags)) (λ t e. refl) es t ∙ omega arith;
      commands = sums (λ (t : Tally). t.commands) (λ (e : Entry). one_if (command e.flags)) (λ t e. refl) es t ∙ omega arith;
      octets = sums (λ (t : Tally). t.octets) (λ (e : Entry). e.included) (λ t e. refl) es t ∙ omega arith;
      lost = losts es t ∙ omega arith;
      last = lasts es t;
      truncated = sums (λ (t : Tally). t.truncated) (λ (e : Entry). one_if (truncated e)) (λ t e. refl) es t ∙ omega arith;
      sent = sums (λ (t : Tally). t.sent) (λ (e : Entry). one_if (sent e.flags)) (λ t e. refl) es t ∙ omega arith;
      «data» = sums (λ (t : Tally). t.«data») (λ (e : Entry). one_if (is_data e.flags)) (λ t e. refl) es t ∙ omega arith;
    }

-- a test and its contrary count one record together
one : (z : Bool) → one_if (not z) + one_if z ≡ 1
one true = refl
one false = refl

-- a record added keeps both sums
added-keeps : (t : Tally) (e : Entry) → BothSums t → BothSums (added t e)
added-keeps t e both = (omega (arith, both.0, one (received e.flags)), omega (arith, both.1, one (command e.flags)))

pub sums_hold : SumsHold
sums_hold drops es =
    tallying (λ t _ u. BothSums t → BothSums u) (λ t both. both) (λ t e _ u rest both. rest (added-keeps t e both)) es
    (empty_tally drops) (refl, refl)

-- no sum is broken where both hold
none_breaks : (t : Tally) → BothSums t → SumBreaks t → ⊥
none_breaks t both (inl breaks) = breaks both.0
none_breaks t both (inr breaks) = breaks both.1

pub never_23 : Never23
never_23 drops es e place h =
    let t = tallied es (empty_tally drops) in
    let unbroken = (update_exactly t e).otherwise (none_breaks t (sums_hold drops es)) in
    not_refused (sym (unbroken.otherwise (λ passes. other-number {n = sum_past} {m = sum_broken} (λ z. omega (arith, z)) (sym (unbroken.here.1 passes) ∙ h))) ∙ h)
