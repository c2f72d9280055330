-- `radiotap_write::write` meets its contract: each way out is one outcome of the write.
use Prim.Native.Nat.{ℕ, ◌+◌, ◌≤◌}
use mathlib.Core.Path.{◌≡◌, refl, sym, ◌∙◌}
use mathlib.Core.List.{List}
use lib.ListN.{length}
use native.Mathlib.Omega.{arith}
use borrow.Author.Tests.{leb-true, leb-false}
use Rattle.std.specs.Prelude.{Some}
use Rattle.radiotap_rules.specs.Table.{our_rules}
use Rattle.radiotap_rules.specs.Writing.{plan, summed, header_octets}
use Rattle.radiotap_rules.proofs.Planning.{header-ends}
use Rattle.radiotap_plan.specs.declared.Plan.{Plan}
use Rattle.radiotap_plan.specs.Says.{PlanSays}
use Rattle.radiotap_write.proofs.WriteLaws.{write_edition, write_unknown, write_values, write_room, write_given}
use Rattle.radiotap_write.proofs.write.Goals as goal

-- the values that a plan asks for, and the header's length by it
lengths : (e presence : ℕ) (values : List ℕ) {p : Plan} → PlanSays e presence (Some p) → length values ≡ p.summed
    → (length values ≡ summed (plan our_rules e presence)) × (length (header_octets our_rules e presence values) ≡ p.size)
lengths e presence values told all =
    let same : length values ≡ summed (plan our_rules e presence) = omega (arith, told.2) in
    (same, header-ends our_rules e presence values refl same ∙ sym told.1)

pub returns-then-not-served : goal.returns-then-not-served
returns-then-not-served c =
    let a = c.args in
    let above = sym c.served.ensures ∙ c.if-not-served.true in
    let outcome = write_edition our_rules a.out.now a.place a.edition a.presence a.values.now _ refl above in
    record { result_value = c.write_refused.ensures ∙ outcome.0; out_after = outcome.1 }

pub returns-then-values-plan : goal.returns-then-values-plan
returns-then-values-plan c =
    let edition_served = sym c.served.ensures ∙ c.if-not-served.false in
    let fields = c.in-Some.ensures in
    let a = c.args in
    let e = c.writing-taken in
    let outcome =
    write_values our_rules a.out.now a.place a.edition a.presence a.values.now e.result e.ensures
    edition_served fields.0 (λ same. absurd (omega (arith, fields.2))) in
    record { result_value = c.write_refused-then-values-plan.ensures ∙ outcome.0; out_after = outcome.1 }

pub returns-then-not-has_room : goal.returns-then-not-has_room
returns-then-not-has_room c =
    let edition_served = sym c.served.ensures ∙ c.if-not-served.false in
    let fields = c.in-Some.ensures in
    let long = lengths c.writing-taken.result c.args.presence c.args.values.now fields c.if-values-plan.false in
    let a = c.args in
    let e = c.writing-taken in
    let few = leb-false _ _ (sym c.has_room.ensures ∙ c.if-not-has_room.true) in
    let outcome =
    write_room our_rules a.out.now a.place a.edition a.presence a.values.now e.result e.ensures
    edition_served fields.0 long.0 _ long.1 few in
    record { result_value = c.write_refused-then-not-has_room.ensures ∙ outcome.0; out_after = outcome.1 }

pub put_header-requires : goal.put_header-requires
put_header-requires c =
    let fields = c.in-Some.ensures in
    let long = lengths c.writing-taken.result c.args.presence c.args.values.now fields c.if-values-plan.false in
    let room : c.args.place + c.in-Some.plan.size ≤ length c.args.out.now = leb-true _ _ (sym c.has_room.ensures ∙ c.if-not-has_room.false) in
    (record { known = fields.0; long = long.0; fits = rw long.1 room }, sym long.1)

pub returns-in_default : goal.returns-in_default
returns-in_default c =
    let edition_served = sym c.served.ensures ∙ c.if-not-served.false in
    let a = c.args in
    let e = c.writing-taken in
    let unknown = c.in_default.ensures in
    let outcome =
    write_unknown our_rules a.out.now a.place a.edition a.presence a.values.now e.result e.ensures
    edition_served unknown in
    record { result_value = c.write_refused-in_default.ensures ∙ outcome.0; out_after = outcome.1 }

pub returns : goal.returns
returns c =
    let edition_served = sym c.served.ensures ∙ c.if-not-served.false in
    let fields = c.in-Some.ensures in
    let long = lengths c.writing-taken.result c.args.presence c.args.values.now fields c.if-values-plan.false in
    let room : c.args.place + c.in-Some.plan.size ≤ length c.args.out.now = leb-true _ _ (sym c.has_room.ensures ∙ c.if-not-has_room.false) in
    let a = c.args in
    let e = c.writing-taken in
    let outcome =
    write_given our_rules a.out.now a.place a.edition a.presence a.values.now e.result e.ensures
    edition_served fields.0 long.0 _ long.1 room c.put_header.ensures in
    record { result_value = outcome.0; out_after = outcome.1 }
