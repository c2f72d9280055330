-- `btsnoop_numbers::time` meets its contract: the signed number of its eight octets.
use native.Mathlib.Omega.{arith}
use Rattle.twos_complement.proofs.Halves.{signed64_at}
use Rattle.btsnoop_rules.specs.Record.{numbers_at}
use Rattle.btsnoop_numbers.proofs.time.Goals as goal

pub returns : goal.returns
unfolding numbers_at
returns c =
    signed64_at c.args.held.now 16 20 (omega arith) (record { sfits = c.signed64.type_inv }) c.signed64.ensures c.be_at.ensures
    c.be_at-2.ensures
