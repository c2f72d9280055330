-- `radiotap_write::put_fields` meets its contract: the loop keeps that the fields before the bit reached are put (`Filled`), and each field put carries it on.
use Prim.Native.Nat.{ℕ, ◌+◌, ◌<◌, ◌≤◌}
use mathlib.Core.Path.{◌≡◌, refl, sym, ap, subst, ◌∙◌}
use native.Mathlib.Omega.{arith}
use lib.ListN.{length}
use Rattle.octets.specs.Parts.{put}
use Rattle.radiotap_rules.specs.Table.{our_rules}
use Rattle.radiotap_rules.specs.Answers.{lies, lay_of}
use Rattle.radiotap_bits.specs.declared.SetBits.{SetBits}
use Rattle.radiotap_bits.specs.Bits.{NextSet}
use Rattle.radiotap_bits.proofs.SetBitsLaws.{BitsLeft, lowest, bits_all, bits_next}
use Rattle.radiotap_plan.proofs.PlanLaws.{Met, met-field}
use Rattle.radiotap_write.proofs.PutLaws.{Filled, filled_none, filled-known, filled-fits, filled-field}
use Rattle.radiotap_write.proofs.put_fields.Goals.{In-Some}
use Rattle.radiotap_write.proofs.put_fields.Goals as goal

pub loop-bit-init : goal.loop-bit-init
loop-bit-init c =
    let a = c.args in
    let all = ap (λ (s : SetBits). s.left) c.into_iter-bit-iterator.ensures.into_iter_gives ∙ c.set_bits-bit-items.ensures in
    let first = bits_all a.presence all c.ranges.presence.fits in
    let filled = filled_none our_rules a.out.now a.place a.taken a.presence a.values.now c.requires.known c.requires.long first.1 in
    record { can = tt; ends = tt; left = first.0; filled = filled }

-- what is put before the bit that was taken, and the bits behind it
before : (c : In-Some) → Filled our_rules c.args.out.now c.args.place c.args.taken c.args.presence c.args.values.now c.loop-bit.out c.loop-bit.free c.loop-bit.used c.in-Some.bit
before c =
    let a = c.args in
    let l = c.loop-bit in
    subst (λ (bit : ℕ). Filled our_rules a.out.now a.place a.taken a.presence a.values.now l.out l.free l.used bit) (sym c.in-Some.ensures.steps.1) l.invariant.filled

behind : (c : In-Some) → (c.in-Some.bit < 32) × BitsLeft c.args.presence c.next.new.self.left
    × NextSet c.args.presence (c.in-Some.bit + 1) (lowest c.next.new.self.left)
behind c = let e = c.in-Some.ensures.steps in bits_next c.args.presence c.loop-bit.invariant.left e.0 e.1 e.2

-- the field that the table gives at it
field_met : (c : In-Some) {start size : ℕ} → lay_of our_rules c.args.taken c.in-Some.bit c.loop-bit.free ≡ lies start size
    → Met our_rules c.args.taken c.args.presence c.loop-bit.free c.in-Some.bit start size
field_met c e = met-field our_rules c.args.taken c.args.presence (before c).here (behind c).0 refl e

field-fits : (c : In-Some) {start size : ℕ} → lay_of our_rules c.args.taken c.in-Some.bit c.loop-bit.free ≡ lies start size
    → c.args.place + (start + size) ≤ length c.args.out.now
field-fits c e =
    let a = c.args in
    filled-fits our_rules a.out.now a.place a.taken a.presence a.values.now (before c) (field_met c e) c.requires.fits

pub returns-in_default : goal.returns-in_default
returns-in_default c =
    let a = c.args in
    let s = (goal.at.returns-in_default c).In-Some in
    absurd (filled-known our_rules a.out.now a.place a.taken a.presence a.values.now (before s) (behind s).0 (sym c.in_default.ensures))

pub overflow_sub-field : goal.overflow_sub-field
overflow_sub-field c = (field_met (goal.at.overflow_sub-field c).In-Some (sym c.in-Some-lay.ensures)).after

pub put_pad-requires : goal.put_pad-requires
put_pad-requires c =
    let met = field_met (goal.at.put_pad-requires c).In-Some (sym c.in-Some-lay.ensures) in
    omega (arith, met.near)

pub overflow_add-place-in-loop-bit : goal.overflow_add-place-in-loop-bit
overflow_add-place-in-loop-bit c =
    omega (arith, field-fits (goal.at.overflow_add-place-in-loop-bit c).In-Some (sym c.in-Some-lay.ensures))

pub overflow_add-free : goal.overflow_add-free
overflow_add-free c = omega (arith, field-fits (goal.at.overflow_add-free c).In-Some (sym c.in-Some-lay.ensures))

pub overflow_cast-free : goal.overflow_cast-free
overflow_cast-free c =
    let s = (goal.at.overflow_cast-free c).In-Some in
    let met = field_met s (sym c.in-Some-lay.ensures) in
    omega (arith, met.near, (before s).here.low, (behind s).0)

pub loop-bit-preserved : goal.loop-bit-preserved
loop-bit-preserved c =
    let a = c.args in
    let s = (goal.at.loop-bit-preserved c).In-Some in
    let met = field_met s (sym c.in-Some-lay.ensures) in
    let next = behind s in
    let padded = c.put_pad in
    let value = ap (put padded.new.out (a.place + c.in-Some-lay.field.start)) c.part.ensures in
    let filled = filled-field our_rules a.out.now a.place a.taken a.presence a.values.now
    (before s) met c.requires.fits next.0 (omega arith) next.2 padded.ensures (c.put.ensures ∙ value) in
    record { can = tt; ends = tt; left = next.1; filled = filled }
