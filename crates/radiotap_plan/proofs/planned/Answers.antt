-- `radiotap_plan::planned` meets its contract: the loop keeps what is added up so far (`Added`), and each answer of the table carries it on.
use Prim.Native.Nat.{ℕ, ◌+◌, ◌<◌}
use mathlib.Core.Path.{refl, sym, ap, subst, ◌∙◌}
use native.Mathlib.Omega.{arith}
use Rattle.radiotap_rules.specs.Table.{our_rules}
use Rattle.radiotap_bits.specs.declared.SetBits.{SetBits}
use Rattle.radiotap_bits.specs.Bits.{NextSet}
use Rattle.radiotap_bits.proofs.SetBitsLaws.{BitsLeft, lowest, bits_all, bits_next}
use Rattle.radiotap_plan.proofs.PlanLaws.{Added, added_none, added-unknown, added-small, added-field}
use Rattle.radiotap_plan.proofs.planned.Goals.{In-Some}
use Rattle.radiotap_plan.proofs.planned.Goals as goal

pub loop-bit-init : goal.loop-bit-init
loop-bit-init c =
    let a = c.args in
    let all = ap (λ (s : SetBits). s.left) c.into_iter-bit-iterator.ensures.into_iter_gives ∙ c.set_bits-bit-items.ensures in
    let first = bits_all a.presence all c.ranges.presence.fits in
    record { can = tt; ends = tt; left = first.0; added = added_none our_rules refl a.taken a.presence first.1 }

-- what is added up before the bit that was taken, and the bits behind it
before : (c : In-Some) → Added our_rules c.args.taken c.args.presence c.loop-bit.at c.loop-bit.summed c.in-Some.bit
before c =
    subst (λ (bit : ℕ). Added our_rules c.args.taken c.args.presence c.loop-bit.at c.loop-bit.summed bit) (sym c.in-Some.ensures.steps.1) c.loop-bit.invariant.added

behind : (c : In-Some) → (c.in-Some.bit < 32) × BitsLeft c.args.presence c.next.new.self.left
    × NextSet c.args.presence (c.in-Some.bit + 1) (lowest c.next.new.self.left)
behind c = let e = c.in-Some.ensures.steps in bits_next c.args.presence c.loop-bit.invariant.left e.0 e.1 e.2

pub returns-in_err-field : goal.returns-in_err-field
returns-in_err-field c =
    let a = c.args in
    let s = (goal.at.returns-in_err-field c).In-Some in
    rw c.from_residual.ensures (added-unknown our_rules refl a.taken a.presence (before s) (behind s).0 (sym c.in_err-field.ensures))

pub overflow_add-at : goal.overflow_add-at
overflow_add-at c =
    let a = c.args in
    let s = (goal.at.overflow_add-at c).In-Some in
    omega (arith, added-small our_rules refl a.taken a.presence (before s) (behind s).0 (sym c.in_ok-field.ensures) (omega arith))

pub overflow_cast-at : goal.overflow_cast-at
overflow_cast-at c =
    let a = c.args in
    let s = (goal.at.overflow_cast-at c).In-Some in
    omega (arith, added-small our_rules refl a.taken a.presence (before s) (behind s).0 (sym c.in_ok-field.ensures) (omega arith))

pub loop-bit-preserved : goal.loop-bit-preserved
loop-bit-preserved c =
    let a = c.args in
    let s = (goal.at.loop-bit-preserved c).In-Some in
    let next = behind s in
    let added = added-field our_rules refl a.taken a.presence (before s) next.0 (sym c.in_ok-field.ensures) (omega arith) next.2 in
    record { can = tt; ends = tt; left = next.1; added = added }
