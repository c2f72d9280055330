-- `btsnoop_survey::survey` meets its contract: the loop keeps that the whole survey is what was counted so far and the survey of what is left (`SoFar`), and each
-- answer of the record reader carries it on.
use native.Mathlib.Omega.{arith}
use mathlib.Core.Path.{sym}
use Rattle.btsnoop_survey.proofs.SurveyLaws.{below, past, start, passes, finished, unfinished}
use Rattle.btsnoop_survey.proofs.survey.Goals as goal
use Rattle.btsnoop_survey.proofs.survey.Goals.{then-place-lt-HEADER_LENGTH-via-then-place-lt-HEADER_LENGTH, then-place-lt-HEADER_LENGTH-via-else-place-lt-HEADER_LENGTH+then-s-place}

pub returns-then-place-lt-HEADER_LENGTH : goal.returns-then-place-lt-HEADER_LENGTH
returns-then-place-lt-HEADER_LENGTH c =
    let a = c.args in
    rw c.at.ensures
    (elim c.then-place-lt-HEADER_LENGTH.branch [
      | then-place-lt-HEADER_LENGTH-via-then-place-lt-HEADER_LENGTH w ↦ sym (below a.s.now a.place a.number (omega arith))
      | then-place-lt-HEADER_LENGTH-via-else-place-lt-HEADER_LENGTH+then-s-place w ↦ sym (past a.s.now a.place a.number (omega arith) (omega arith))
    ])

pub loop-count-init : goal.loop-count-init
loop-count-init c =
    let a = c.args in
    start a.s.now a.place a.number (omega arith) (omega arith)

pub loop-count-preserved : goal.loop-count-preserved
loop-count-preserved c =
    let a = c.args in
    let found = rw c.in-Ok-Some.field-0-is at c.in-Ok-Some.ensures in
    passes a.s.now a.place a.number c.loop-count.invariant (omega arith) (sym found)

pub returns-then-reached-s : goal.returns-then-reached-s
returns-then-reached-s c =
    let a = c.args in
    sym (finished a.s.now a.place a.number c.loop-count.invariant (omega arith) c.if-reached-s.true)

pub returns-else-reached-s : goal.returns-else-reached-s
returns-else-reached-s c =
    let a = c.args in
    sym (unfinished a.s.now a.place a.number c.loop-count.invariant (omega arith) c.if-reached-s.false)
