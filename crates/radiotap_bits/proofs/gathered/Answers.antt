-- `radiotap_bits::gathered` meets its contract: the loop keeps that the bits of the rows so far are gathered (`KnownBelow`).
use Rattle.std.proofs.Common.{◌≡◌, sym, ap, ◌∙◌, arith}
use Rattle.radiotap_rules.specs.Rules.{row_known, knows}
use Rattle.radiotap_rules.specs.Table.{our_rules}
use Rattle.radiotap_table.proofs.RowLaws.{row_at}
use Rattle.radiotap_bits.proofs.KnownLaws.{known_set, known_clear}
use Rattle.radiotap_bits.proofs.gathered.Goals.{then-known, else-known}
use Rattle.radiotap_bits.proofs.gathered.Goals as goal

pub loop-bit-preserved : goal.loop-bit-preserved
loop-bit-preserved c =
    let a = c.args in
    let bit = c.loop-bit.bit in
    let told : c.known.result ≡ knows our_rules a.taken bit = c.known.ensures
    ∙ ap (row_known a.taken) (row_at our_rules c.rows-rows.result c.rows-rows.ensures bit) in
    elim c.if-known.branch [
      | then-known w ↦ rw w.bits-is (known_set a.taken c.loop-bit.invariant (omega arith) (sym told ∙ w.if-known.true))
      | else-known w ↦ rw w.bits-is (known_clear a.taken c.loop-bit.invariant (sym told ∙ w.if-known.false))
    ]
