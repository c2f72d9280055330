-- `radiotap_table::Row::lay` meets its contract: the row says whether the field is known, and the table's one test gives a known field its alignment.
use Rattle.std.proofs.Common.{sym, refl, ◌∙◌}
use Rattle.radiotap_rules.specs.Table.{our_rules}
use Rattle.radiotap_table.proofs.RowLaws.{by_row, lay_unknown, lay_known}
use Rattle.radiotap_table.proofs.Row.lay.Goals as goal

pub returns-then-not-known : goal.returns-then-not-known
returns-then-not-known c =
    let a = c.args in λ bit its.
    sym (lay_unknown our_rules bit a.taken a.at (sym (by_row our_rules bit its a.taken a.at (sym c.if-not-known.true ∙ c.known.ensures))))

pub returns : goal.returns
returns c =
    let a = c.args in λ bit its.
    sym (lay_known our_rules bit its a.taken a.at c.aligned.result refl c.aligned.ensures (sym c.if-not-known.false ∙ c.known.ensures))
