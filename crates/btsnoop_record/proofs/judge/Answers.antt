-- `btsnoop_record::judge` meets its contract: the case laws of the judgement, test by test.
use mathlib.Core.Path.{sym}
use native.Mathlib.Omega.{arith}
use Rattle.btsnoop_rules.proofs.RecordLaws.{judged_above, judged_past, judged-whole}
use Rattle.btsnoop_record.proofs.judge.Goals as goal

pub returns-then-numbers : goal.returns-then-numbers
returns-then-numbers c =
    let a = c.args in
    rw c.at.ensures (sym (judged_above a.left a.place a.numbers (omega arith)))

pub returns-then-left-included : goal.returns-then-left-included
returns-then-left-included c =
    let a = c.args in
    rw c.at-then-left-included.ensures (sym (judged_past a.left a.place a.numbers (omega arith) (omega arith)))

pub returns : goal.returns
returns c =
    let a = c.args in
    sym (judged-whole a.left a.place a.numbers (omega arith) (omega arith))
