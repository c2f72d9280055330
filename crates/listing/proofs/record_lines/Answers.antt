-- `listing::record_lines` meets its contract: the loop keeps that what is left completes the lines of the whole walk (`Listed`),
-- and each answer of the record reader carries it on.
use native.Mathlib.Omega.{arith}
use mathlib.Core.Path.{sym, ap, ◌∙◌}
use Rattle.std.specs.Prelude.{Ok}
use Rattle.std.proofs.lemmas.Result.{err_from_is_err_and}
use Rattle.refusals.specs.Says.{says_by}
use Rattle.btsnoop_rules.specs.Record.{step_on}
use Rattle.btsnoop_rules.proofs.Files.{forward}
use Rattle.btsnoop_record.specs.Says.{found_of}
use Rattle.listing.proofs.RecordLaws.{start, refuses, ends, passes}
use Rattle.listing.proofs.record_lines.Goals as goal

pub loop-record-init : goal.loop-record-init
loop-record-init c = start c.args.input.now c.args.lines.now c.requires.0

pub returns-in_err-record-clause-lacks_last : goal.returns-in_err-record-clause-lacks_last
returns-in_err-record-clause-lacks_last c =
    let p = err_from_is_err_and c.from_residual.result c.from_residual.ensures.1 in
    rw (p.1, p.2) (refuses c.args.input.now c.args.lines.now c.loop-record.invariant (sym c.in_err-record.ensures))

pub loop-record-smaller : goal.loop-record-smaller
loop-record-smaller c =
    let s = c.args.input.now in
    let read = sym c.read.ensures ∙ ap (says_by found_of) (c.in_ok-record.was ∙ ap Ok c.in-Some.is) in
    omega (arith, (forward s).onward (ap (step_on s) read), (forward s).inside (ap (step_on s) read))

pub loop-record-preserved : goal.loop-record-preserved
loop-record-preserved c =
    let w = c.write.ensures in
    let read = sym c.read.ensures ∙ ap (says_by found_of) (c.in_ok-record.was ∙ ap Ok c.in-Some.is) in
    passes c.args.input.now c.args.lines.now c.loop-record.invariant read w.same_output w.wrote w.upper_bound

pub returns-clause-lacks_last : goal.returns-clause-lacks_last
returns-clause-lacks_last c =
    let read = sym c.read.ensures ∙ ap (says_by found_of) (c.in_ok-record.was ∙ ap Ok c.in_default.is) in
    ends c.args.input.now c.args.lines.now c.loop-record.invariant read
