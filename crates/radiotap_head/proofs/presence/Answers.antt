-- `radiotap_head::presence` meets its contract: the loop keeps that the head is what the words read so far tell and the words from the one at hand on (`SoFar`).
use native.Mathlib.Omega.{arith}
use Rattle.radiotap_head.proofs.PresenceLaws.{start, calls_for_another}
use Rattle.radiotap_head.proofs.presence.Goals as goal

pub loop-word-init : goal.loop-word-init
loop-word-init c =
    let a = c.args in
    start a.s.now a.size c.le_at-first.ensures

pub loop-word-preserved : goal.loop-word-preserved
loop-word-preserved c =
    let a = c.args in
    calls_for_another a.s.now a.size c.loop-word.invariant c.loop-word-test.true
    (λ e. omega arith) (omega arith) c.le_at-word.ensures
