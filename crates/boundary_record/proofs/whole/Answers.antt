-- `boundary_record::whole` meets its contract: the row of the record's numbers, each by its octets.
use Prim.Native.Nat.{◌+◌}
use mathlib.Core.Path.{◌≡◌, ap}
use native.Mathlib.Omega.{arith}
use Rattle.refusals.specs.Refusals.{given}
use Rattle.octets.specs.Numbers.{big, number_at}
use Rattle.twos_complement.proofs.Halves.{signed64_at}
use Rattle.btsnoop_rules.specs.declared.Numbers.{Numbers}
use Rattle.btsnoop_rules.specs.Record.{record_length, numbers_at, whole}
use Rattle.btsnoop_rules.proofs.RecordLaws.{numbers-same}
use Rattle.boundary_record.specs.Rows.{record_row}
use Rattle.boundary_record.proofs.whole.Goals as goal

pub returns : goal.returns
unfolding numbers_at
returns c =
    let a = c.args in
    let original : a.original ≡ number_at big 4 a.s.now a.place = c.requires.original_value in
    let included : a.included ≡ number_at big 4 a.s.now (a.place + 4) = c.requires.included_value in
    ap (λ (n : Numbers). record_row (given (whole n (a.place + record_length) (a.place + record_length + n.included))))
    (numbers-same original included
    c.be_at.ensures c.be_at-2.ensures
    (signed64_at a.s.now (a.place + 16) (a.place + 20) (omega arith) (record { sfits = c.signed64.type_inv })
    c.signed64.ensures c.be_at-3.ensures c.be_at-4.ensures))
