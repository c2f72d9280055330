-- Calls one after another are updates of one tally.
-- Assumes nothing.
use Prim.Native.Nat.{ℕ, ◌%◌, ◌^◌, ◌<◌}
use mathlib.Core.Path.{◌≡◌, refl, sym, ap, subst, ◌∙◌}
use mathlib.Core.List.{List, [], ◌∷◌}
use native.Mathlib.Omega.{arith}
use Rattle.refusals.specs.Refusals.{Answer, refused, given}
use Rattle.record_rules.specs.Outputs.{All}
use Rattle.tally_rules.specs.declared.Tally.{Tally}
use Rattle.tally_rules.specs.declared.Entry.{Entry}
use Rattle.tally_rules.specs.Tally.{added, updating, after_update}
use Rattle.tally_rules.specs.Counts.{tallied}
use Rattle.tally_rules.proofs.Counts.{given-added}
use Rattle.boundary_tally.specs.Rows.{tally_of, numbers_of, tally_after}
use Rattle.boundary_tally.specs.Calls.{lent_after, CallsUpdate}

-- a number of 32 bits is itself modulo 2^32
same_modulo : (n : ℕ) → n < 2 ^ 32 → n % 2 ^ 32 ≡ n
same_modulo n below = omega arith

-- the tally with another last drop number
abbrev with_last : Tally → ℕ → Tally
with_last t n =
    record {
      records = t.records;
      received = t.received;
      commands = t.commands;
      octets = t.octets;
      lost = t.lost;
      last = n;
      truncated = t.truncated;
      sent = t.sent;
      «data» = t.«data»;
    }

-- the numbers of a tally are taken for that tally
handed_in_again : (t : Tally) → t.last < 2 ^ 32 → tally_of (numbers_of t) ≡ t
handed_in_again t below = ap (with_last t) (same_modulo t.last below)

-- one call leaves the numbers of the tally that the update leaves
call : (e : Entry) → e.drops < 2 ^ 32 → (ns : List ℕ)
    → tally_of (tally_after ns (updating (tally_of ns) e)) ≡ after_update (tally_of ns) (updating (tally_of ns) e)
call e below ns = go (updating (tally_of ns) e) (given-added (tally_of ns) e)
  where
    go : (answer : Answer Tally) → ((u : Tally) → answer ≡ given u → u ≡ added (tally_of ns) e)
        → tally_of (tally_after ns answer) ≡ after_update (tally_of ns) answer
    go (refused n q) is = refl
    go (given u) is = handed_in_again u (subst (λ (v : Tally). v.last < 2 ^ 32) (sym (is u refl)) below)

each-call : (es : List Entry) → All (λ (e : Entry). e.drops < 2 ^ 32) es → (ns : List ℕ)
    → tally_of (lent_after es ns) ≡ tallied es (tally_of ns)
each-call [] all ns = refl
each-call (e ∷ es) all ns =
    each-call es all.1 (tally_after ns (updating (tally_of ns) e)) ∙ ap (tallied es) (call e all.0 ns)

pub calls_update : CallsUpdate
calls_update = record { zeros = refl; calls = each-call }
