-- `boundary_record::judged` meets its contract: the rows of the judgement's case laws, test by test.
use Prim.Native.Nat.{◌+◌, ◌<◌, ◌≤◌}
use native.Mathlib.Omega.{arith}
use Rattle.btsnoop_rules.specs.Record.{record_length, numbers_at}
use Rattle.btsnoop_rules.proofs.RecordLaws.{judged_above, judged_past, judged-whole}
use Rattle.boundary_record.proofs.Answers.{row_of}
use Rattle.boundary_record.proofs.judged.Goals as goal

pub returns-then-original-included : goal.returns-then-original-included
unfolding numbers_at
returns-then-original-included c =
    let a = c.args in
    let n = numbers_at a.s.now a.place in
    let above : n.original < n.included = omega (arith, c.be_at-original.ensures, c.be_at-included.ensures) in
    row_of c.refused.result _ _ c.refused.ensures (judged_above a.left a.place n above)

pub returns-then-left-included : goal.returns-then-left-included
unfolding numbers_at
returns-then-left-included c =
    let a = c.args in
    let n = numbers_at a.s.now a.place in
    let fits : n.included ≤ n.original = omega (arith, c.be_at-original.ensures, c.be_at-included.ensures) in
    let past : a.left < record_length + n.included = omega (arith, c.be_at-included.ensures) in
    row_of c.refused-then-left-included.result _ _ c.refused-then-left-included.ensures (judged_past a.left a.place n fits past)

pub whole-requires : goal.whole-requires
unfolding numbers_at
whole-requires c =
    record { included_in_bounds = omega arith; original_value = c.be_at-original.ensures; included_value = c.be_at-included.ensures }

pub returns : goal.returns
unfolding numbers_at
returns c =
    let a = c.args in
    let n = numbers_at a.s.now a.place in
    let fits : n.included ≤ n.original = omega (arith, c.be_at-original.ensures, c.be_at-included.ensures) in
    let enough : record_length + n.included ≤ a.left = omega (arith, c.be_at-included.ensures) in
    row_of c.whole.result _ _ c.whole.ensures (judged-whole a.left a.place n fits enough)
