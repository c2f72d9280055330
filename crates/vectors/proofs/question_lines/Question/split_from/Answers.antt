-- `vectors::question_lines::Question::split_from` meets its contract: each way out is one outcome of the definition, by the two
-- lengths read.
use Prim.Native.Nat.{◌≤◌, ◌<◌}
use native.Mathlib.Omega.{arith}
use lib.ListN.{length}
use Rattle.vectors.specs.Questions.{whole_length}
use Rattle.vectors.proofs.QuestionLaws.{no_head, cut, whole, dropped}
use Rattle.vectors.proofs.question_lines.Question.split_from.Goals as goal

pub returns-in_err-head-clause-behind : goal.returns-in_err-head-clause-behind
returns-in_err-head-clause-behind c = rw c.from_residual.ensures (no_head c.args.input.now c.in_err-head.ensures.cases)

pub returns-in_err-first-clause-behind : goal.returns-in_err-first-clause-behind
returns-in_err-first-clause-behind c =
    let s = c.args.input.now in
    let head = c.in_ok-head.ensures.cases in
    let past : length s < whole_length s = omega (arith, c.be_at.ensures, head, c.in_err-first.ensures.cases) in
    rw c.from_residual-in_err-first.ensures (cut s head.0 past)

pub returns-in_err-second-clause-behind : goal.returns-in_err-second-clause-behind
returns-in_err-second-clause-behind c =
    let s = c.args.input.now in
    let head = c.in_ok-head.ensures.cases in
    let first = c.in_ok-first.ensures.cases in
    let past : length s < whole_length s = omega (arith, c.be_at.ensures, c.be_at-2.ensures, head, first, c.in_err-second.ensures.cases) in
    rw c.from_residual-in_err-second.ensures (cut s head.0 past)

pub returns-clause-behind : goal.returns-clause-behind
returns-clause-behind c =
    let s = c.args.input.now in
    let head = c.in_ok-head.ensures.cases in
    let first = c.in_ok-first.ensures.cases in
    let second = c.in_ok-second.ensures.cases in
    let fits : whole_length s ≤ length s = omega (arith, c.be_at.ensures, c.be_at-2.ensures, head, first, second) in
    dropped s c.be_at.ensures c.be_at-2.ensures head.2 first.2 second.2 (whole s head.0 fits)
