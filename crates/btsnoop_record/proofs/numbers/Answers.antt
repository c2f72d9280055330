-- `btsnoop_record::numbers` meets its contract: each number by the promise of its reader.
use Prim.Native.Nat.{◌+◌}
use native.Mathlib.Omega.{arith}
use Rattle.twos_complement.proofs.Halves.{signed64_at}
use Rattle.btsnoop_rules.specs.Record.{numbers_at}
use Rattle.btsnoop_rules.proofs.RecordLaws.{numbers-same}
use Rattle.btsnoop_record.proofs.numbers.Goals as goal

pub returns : goal.returns
unfolding numbers_at
returns c =
    let a = c.args in
    numbers-same c.be_at.ensures c.be_at-2.ensures
    c.be_at-3.ensures c.be_at-4.ensures
    (signed64_at a.s.now (a.place + 16) (a.place + 20) (omega arith) (record { sfits = c.signed64.type_inv })
    c.signed64.ensures c.be_at-5.ensures c.be_at-6.ensures)
