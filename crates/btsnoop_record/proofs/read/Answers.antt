-- `btsnoop_record::read` meets its contract: the case laws of the record reader, test by test.
use mathlib.Core.Path.{sym, ap, ◌∙◌}
use Prim.Native.Nat.{◌-◌, ◌<◌}
use lib.ListN.{length}
use lib.Arith.{lt_of_le-ne}
use Rattle.std.proofs.lemmas.Result.{err_from_is_err_and}
use Rattle.btsnoop_rules.specs.Record.{record_judged}
use native.Mathlib.Omega.{arith}
use Rattle.btsnoop_rules.proofs.RecordLaws.{record_below, record_past, record_end, record_short, record_judged_lem}
use Rattle.btsnoop_record.proofs.read.Goals as goal
use Rattle.btsnoop_record.proofs.read.Goals.{then-place-lt-HEADER_LENGTH-via-then-place-lt-HEADER_LENGTH, then-place-lt-HEADER_LENGTH-via-else-place-lt-HEADER_LENGTH+then-s-place}

pub returns-then-place-lt-HEADER_LENGTH : goal.returns-then-place-lt-HEADER_LENGTH
returns-then-place-lt-HEADER_LENGTH c =
    let a = c.args in
    rw c.at.ensures
    (elim c.then-place-lt-HEADER_LENGTH.branch [
      | then-place-lt-HEADER_LENGTH-via-then-place-lt-HEADER_LENGTH w ↦ sym (record_below a.s.now a.place (omega arith))
      | then-place-lt-HEADER_LENGTH-via-else-place-lt-HEADER_LENGTH+then-s-place w ↦ sym (record_past a.s.now a.place (omega arith) (omega arith))
    ])

pub returns-then-place-s : goal.returns-then-place-s
returns-then-place-s c =
    let a = c.args in
    sym (record_end a.s.now a.place (omega arith) (omega arith))

pub returns-then-left-lt-RECORD_LENGTH : goal.returns-then-left-lt-RECORD_LENGTH
returns-then-left-lt-RECORD_LENGTH c =
    let inside : c.args.place < length c.args.s.now = lt_of_le-ne (omega arith) c.if-place-s.false in
    let a = c.args in
    rw c.at-then-left-lt-RECORD_LENGTH.ensures (sym (record_short a.s.now a.place (omega arith) inside (omega arith)))

pub returns-in_err-judge : goal.returns-in_err-judge
returns-in_err-judge c =
    let inside : c.args.place < length c.args.s.now = lt_of_le-ne (omega arith) c.if-place-s.false in
    let a = c.args in
    let p = err_from_is_err_and c.from_residual.result c.from_residual.ensures.1 in
    rw (p.1, p.2)
    (c.in_err-judge.ensures
    ∙ ap (record_judged (length a.s.now - a.place) a.place) c.numbers.ensures
    ∙ sym (record_judged_lem a.s.now a.place (omega arith) inside (omega arith)))

pub returns : goal.returns
returns c =
    let inside : c.args.place < length c.args.s.now = lt_of_le-ne (omega arith) c.if-place-s.false in
    let a = c.args in
    c.in_ok-judge.ensures
    ∙ ap (record_judged (length a.s.now - a.place) a.place) c.numbers.ensures
    ∙ sym (record_judged_lem a.s.now a.place (omega arith) inside (omega arith))
