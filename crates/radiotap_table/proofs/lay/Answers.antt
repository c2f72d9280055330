-- `radiotap_table::lay` meets its contract: the row at the bit's index is the bit's, and past the rows there is none.
use Rattle.std.proofs.Common.{sym}
use Rattle.radiotap_rules.specs.Table.{our_rules}
use Rattle.radiotap_table.proofs.RowLaws.{row_at, row_past}
use Rattle.radiotap_table.proofs.lay.Goals as goal

pub returns-then-bit-ge32 : goal.returns-then-bit-ge32
returns-then-bit-ge32 c = let a = c.args in sym (row_past our_rules a.bit a.taken a.at c.if-bit-ge32.true)

pub returns : goal.returns
returns c =
    let bit = c.args.bit in
    c.lay.ensures bit (row_at our_rules c.rows-rows.result c.rows-rows.ensures bit)
