-- `radiotap_field::walk` meets its contract: the loop keeps that the whole outcome is what was found so far and the outcome of the walk from the
-- cursor on (`SoFar`), and that the field of the number is kept once it is met (`KeptOf`); each step carries it on or ends it.
use Prim.Native.Nat.{◌+◌}
use native.Mathlib.Omega.{arith}
use mathlib.Core.Path.{◌≡◌, refl, sym, ap, subst, ◌∙◌}
use Rattle.std.proofs.lemmas.Result.{err_from_is_err_and}
use Rattle.radiotap_rules.specs.declared.Cursor.{Cursor}
use Rattle.radiotap_rules.specs.Table.{our_rules}
use Rattle.radiotap_step.specs.Says.{met_of, MetSized}
use Rattle.radiotap.specs.Outcomes.{none_kept}
use Rattle.radiotap.proofs.WalkLaws.{SoFar, begins, countable, head_inside}
use Rattle.radiotap_field.specs.declared.FieldAnswer.{FieldAnswer}
use Rattle.radiotap_field.proofs.KeptLaws.{nearer, shown_inside, keeps, leaves, still-kept, refused-number, over-number}
use Rattle.radiotap_field.proofs.walk.Goals as goal
use Rattle.radiotap_field.proofs.walk.Goals.{then-fields-number, else-fields-number}

pub loop-stop-init : goal.loop-stop-init
loop-stop-init c =
    let a = c.args in (
      subst (λ (x : Cursor). SoFar our_rules a.taken a.s.now a.head.size a.number x 0 none_kept) (sym c.start-cursor.ensures)
          (begins our_rules a.taken a.s.now a.number a.head c.requires),
      omega arith,
    )

pub overflow_add-fields : goal.overflow_add-fields
overflow_add-fields c =
    let a = c.args in
    omega (arith, countable our_rules a.taken a.s.now a.number c.loop-stop.invariant.0)

pub returns-in_err-next_taken-clause-result_value : goal.returns-in_err-next_taken-clause-result_value
returns-in_err-next_taken-clause-result_value c =
    let a = c.args in
    let p = err_from_is_err_and c.from_residual.result c.from_residual.ensures.1 in
    rw (p.1, p.2) (refused-number our_rules a.taken a.s.now a.number c.loop-stop.invariant.0 (sym c.in_err-next_taken.ensures.result_value))

pub returns-in-End : goal.returns-in-End
returns-in-End c =
    let a = c.args in
    let i = c.loop-stop.invariant in
    let step = sym c.in_ok-next_taken.ensures.result_value ∙ ap (met_of a.s.now) c.in-End.is in
    let told = over-number our_rules a.taken a.s.now a.number c.loop-stop.kept i.0 i.1 step FieldAnswer.End refl tt in
    rw c.kept_or.ensures (record { result_value = told.0; field_sized = told.1 })

pub returns-in-Stop : goal.returns-in-Stop
returns-in-Stop c =
    let a = c.args in
    let i = c.loop-stop.invariant in
    let step = sym c.in_ok-next_taken.ensures.result_value ∙ ap (met_of a.s.now) c.in-Stop.is in
    let told = over-number our_rules a.taken a.s.now a.number c.loop-stop.kept i.0 i.1 step (FieldAnswer.Stop c.in-Stop.stop) refl tt in
    rw c.kept_or-in-Stop.ensures (record { result_value = told.0; field_sized = told.1 })

pub loop-stop-smaller : goal.loop-stop-smaller
loop-stop-smaller c =
    let a = c.args in
    let step = sym c.in_ok-next_taken.ensures.result_value ∙ ap (met_of a.s.now) c.in-Field.is in
    nearer our_rules a.taken a.s.now a.number c.loop-stop.invariant.0 step

pub loop-stop-preserved : goal.loop-stop-preserved
loop-stop-preserved c =
    let a = c.args in
    let i = c.loop-stop.invariant in
    let f = c.in-Field.field in
    let step = sym c.in_ok-next_taken.ensures.result_value ∙ ap (met_of a.s.now) c.in-Field.is in
    let sized : f.next.at ≡ f.start + f.size = subst MetSized c.in-Field.is c.in_ok-next_taken.ensures.step_sized in
    let input = head_inside a.s.now a.head c.requires in
    elim c.if-fields-number.branch [
      | then-fields-number w ↦
          rw w.kept-is
          (keeps our_rules a.taken a.s.now a.number i.0 step w.if-fields-number.true, (omega (arith, w.if-fields-number.true), shown_inside our_rules a.taken a.s.now a.number i.0 step f.start f.size input sized))
      | else-fields-number w ↦
          rw w.kept-is
          (leaves our_rules a.taken a.s.now a.number i.0 step w.if-fields-number.false, still-kept a.s.now a.number c.loop-stop.kept w.if-fields-number.false i.1)
    ]
