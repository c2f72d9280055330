-- `radiotap_head::word` meets its contract: the head's answer says which case holds, and a word below the count is the number at its place.
use Prim.Native.Nat.{ℕ}
use mathlib.Core.Path.{sym, ap, ◌∙◌}
use Rattle.std.proofs.lemmas.Result.{err_from_is_err_and}
use Rattle.refusals.specs.Refusals.{given}
use Rattle.radiotap_rules.specs.Answers.{the_word}
use Rattle.radiotap_head.proofs.WordLaws.{refused-word, word_below, word_past}
use Rattle.radiotap_head.proofs.word.Goals as goal

pub returns-in_err-head : goal.returns-in_err-head
returns-in_err-head c =
    let p = err_from_is_err_and c.from_residual.result c.from_residual.ensures.1 in
    rw (p.1, p.2) (sym (refused-word c.args.s.now c.args.number (sym c.in_err-head.ensures)))

pub returns-then-number-head : goal.returns-then-number-head
returns-then-number-head c =
    let a = c.args in
    ap (λ (w : ℕ). given (the_word w)) c.le_at.ensures
    ∙ sym (word_below a.s.now a.number (sym c.in_ok-head.ensures) c.if-number-head.true)

pub returns-else-number-head : goal.returns-else-number-head
returns-else-number-head c =
    let a = c.args in
    sym (word_past a.s.now a.number (sym c.in_ok-head.ensures) c.if-number-head.false)
