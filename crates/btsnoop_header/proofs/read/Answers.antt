-- `btsnoop_header::read` meets its contract: the case laws of the file header, test by test.
use mathlib.Core.Path.{sym, ◌∙◌}
use native.Mathlib.Omega.{arith}
use Rattle.btsnoop_rules.proofs.HeaderLaws.{header-short, header-judged}
use Rattle.btsnoop_header.proofs.read.Goals as goal

pub returns-then-s-lt-HEADER_LENGTH : goal.returns-then-s-lt-HEADER_LENGTH
returns-then-s-lt-HEADER_LENGTH c =
    rw c.at.ensures (sym (header-short c.args.s.now c.if-s-lt-HEADER_LENGTH.true))

pub returns : goal.returns
returns c = c.judge.ensures ∙ sym (header-judged c.args.s.now (omega arith))
