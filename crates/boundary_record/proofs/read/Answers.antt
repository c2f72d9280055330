-- `boundary_record::read` meets its contract: the rows of the record reader's case laws, test by test.
use Prim.Native.Nat.{◌<◌}
use native.Mathlib.Omega.{arith}
use lib.Arith.{lt_of_le-ne}
use lib.ListN.{length}
use Rattle.btsnoop_rules.proofs.RecordLaws.{record_below, record_past, record_end, record_short, record_judged_lem}
use Rattle.boundary_record.proofs.Answers.{row_of}
use Rattle.boundary_record.proofs.read.Goals as goal
use Rattle.boundary_record.proofs.read.Goals.{then-place-lt-HEADER_LENGTH-via-then-place-lt-HEADER_LENGTH, then-place-lt-HEADER_LENGTH-via-else-place-lt-HEADER_LENGTH+then-s-place}

pub returns-then-place-lt-HEADER_LENGTH : goal.returns-then-place-lt-HEADER_LENGTH
returns-then-place-lt-HEADER_LENGTH c =
    let a = c.args in
    row_of c.refused.result _ _ c.refused.ensures
    (elim c.then-place-lt-HEADER_LENGTH.branch [
      | then-place-lt-HEADER_LENGTH-via-then-place-lt-HEADER_LENGTH w ↦ record_below a.s.now a.place (omega arith)
      | then-place-lt-HEADER_LENGTH-via-else-place-lt-HEADER_LENGTH+then-s-place w ↦ record_past a.s.now a.place (omega arith) (omega arith)
    ])

pub returns-then-place-s : goal.returns-then-place-s
returns-then-place-s c =
    let a = c.args in
    row_of c.end.result _ _ c.end.ensures
    (record_end a.s.now a.place (omega arith) (omega arith))

pub returns-then-left-lt-RECORD_LENGTH : goal.returns-then-left-lt-RECORD_LENGTH
returns-then-left-lt-RECORD_LENGTH c =
    let inside : c.args.place < length c.args.s.now = lt_of_le-ne (omega arith) c.if-place-s.false in
    let a = c.args in
    row_of c.refused-then-left-lt-RECORD_LENGTH.result _ _ c.refused-then-left-lt-RECORD_LENGTH.ensures
    (record_short a.s.now a.place (omega arith) inside (omega arith))

pub returns : goal.returns
returns c =
    let inside : c.args.place < length c.args.s.now = lt_of_le-ne (omega arith) c.if-place-s.false in
    let a = c.args in
    row_of c.judged.result _ _ c.judged.ensures
    (record_judged_lem a.s.now a.place (omega arith) inside (omega arith))
