-- `capture_time::write_time` meets its contract: a time that cannot be written is refused, and any other has its field.
use mathlib.Core.Path.{ap, sym, ◌∙◌}
use Rattle.twos_complement.proofs.Signs.{kept}
use Rattle.refusals.specs.Refusals.{given}
use Rattle.capture_time.proofs.Laws.{writing-refused, writing-given, writable}
use Rattle.capture_time.proofs.write_time.Goals as goal

pub returns-then-is_unwritable : goal.returns-then-is_unwritable
returns-then-is_unwritable c =
    let a = c.args.time in
    sym (writing-refused a.seconds a.microseconds (sym c.is_unwritable.ensures ∙ c.if-is_unwritable.true))

pub returns-else-is_unwritable : goal.returns-else-is_unwritable
returns-else-is_unwritable c =
    let a = c.args.time in
    let can = sym c.is_unwritable.ensures ∙ c.if-is_unwritable.false in
    ap given (kept c.field.ensures (writable a.seconds a.microseconds can).1)
    ∙ sym (writing-given a.seconds a.microseconds can)
