-- `radiotap_step::next_taken` meets its contract: the loop keeps that the step is what is met from the position reached on and how its word
-- numbers its bits (`Searches`); the next set bit of the word carries it on to bit 30 or the next word, or is what the step meets.
use Prim.Native.Nat.{ℕ, ◌/◌}
use native.Mathlib.Omega.{arith}
use mathlib.Core.Path.{refl, sym, subst, subst₂}
use Rattle.radiotap_rules.specs.Table.{our_rules}
use Rattle.radiotap_rules.specs.Answers.{lay_of}
use Rattle.radiotap_step.proofs.StepLaws.{answers, Searches, searches, meets-again, meets_continued, passes_29, next_word}
use Rattle.radiotap_step.proofs.next_taken.Goals as goal

pub loop-position-init : goal.loop-position-init
loop-position-init c =
    let a = c.args in
    subst (Searches our_rules a.taken a.s.now a.cursor _ _) (sym c.starts_again-again.ensures)
    (searches our_rules a.taken a.s.now a.cursor)

pub returns-then-again-clause-result_value : goal.returns-then-again-clause-result_value
returns-then-again-clause-result_value c =
    let a = c.args in
    let word : ℕ = c.loop-position.position / 32 in
    let bit : ℕ = c.next_set-bit.result in
    let bits : ℕ = c.loop-position.bits in
    (answers a.s.now a.cursor word bit bits (lay_of our_rules a.taken bit a.cursor.at) c.meet.result c.meet.ensures
    (meets-again our_rules a.taken a.s.now a.cursor c.loop-position.invariant (omega arith) c.next_set-bit.ensures (omega arith) c.if-bit-ne29.true refl c.if-again.true)).0

pub returns-then-bit-ne29-clause-result_value : goal.returns-then-bit-ne29-clause-result_value
returns-then-bit-ne29-clause-result_value c =
    let a = c.args in
    sym (meets_continued our_rules a.taken a.s.now a.cursor c.loop-position.invariant (omega arith) c.next_set-bit.ensures (omega arith) c.if-bit-ne29.true refl c.if-again.false)

pub loop-position-preserved-then-bit-lt31 : goal.loop-position-preserved-then-bit-lt31
loop-position-preserved-then-bit-lt31 c =
    let a = c.args in
    passes_29 our_rules a.taken a.s.now a.cursor c.loop-position.invariant (omega arith) c.next_set-bit.ensures c.if-bit-ne29.false

pub loop-position-preserved : goal.loop-position-preserved
loop-position-preserved c =
    let a = c.args in
    subst₂ (Searches our_rules a.taken a.s.now a.cursor _) (sym c.le_at-bits.ensures) (sym c.resets-again.ensures)
    (next_word our_rules a.taken a.s.now a.cursor c.loop-position.invariant (omega arith) c.next_set-bit.ensures (omega arith))
