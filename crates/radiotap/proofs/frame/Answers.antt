-- `radiotap::frame` meets its contract: the input from the length on where the header is read, else nothing.
use mathlib.Core.Path.{sym, ◌∙◌}
use Rattle.radiotap.proofs.ReadLaws.{frame-part}
use Rattle.radiotap.proofs.frame.Goals as goal

pub returns-in-Ok : goal.returns-in-Ok
returns-in-Ok c =
    let a = c.args in
    c.part.ensures ∙ frame-part a.edition a.s.now (sym c.in-Ok.ensures)
