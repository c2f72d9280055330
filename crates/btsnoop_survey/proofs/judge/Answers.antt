-- `btsnoop_survey::judge` meets its contract: each answer is one outcome of the record reader, judged by the two lengths.
use Prim.Native.Nat.{ℕ, ◌+◌, ◌-◌, ◌≤◌, ◌<◌}
use native.Mathlib.Omega.{arith}
use mathlib.Core.Path.{◌≡◌, sym, ap, ◌∙◌}
use mathlib.Core.List.{List}
use lib.ListN.{length}
use lib.Arith.{lt_of_le-ne}
use Rattle.refusals.specs.Refusals.{given}
use Rattle.btsnoop_rules.specs.Header.{header_length}
use Rattle.btsnoop_rules.specs.Record.{record_length, numbers_at, whole, record_at, record_judged}
use Rattle.btsnoop_rules.proofs.RecordLaws.{record_end, record_short, record_judged_lem, judged_above, judged_past, judged-whole}
use Rattle.btsnoop_survey.proofs.judge.Goals as goal

-- with a record's header left at a place, its reading is the judgement of its numbers
judged : (s : List ℕ) (p : ℕ) → header_length ≤ p → p ≤ length s → (p ≡ length s → ⊥) → record_length ≤ length s - p
    → record_at s p ≡ record_judged (length s - p) p (numbers_at s p)
judged s p low high other left = record_judged_lem s p low (lt_of_le-ne high other) left

pub returns-then-place-s : goal.returns-then-place-s
returns-then-place-s c =
    let a = c.args in
    sym (record_end a.s.now a.place (omega arith) c.if-place-s.true)

pub returns-then-left-lt-RECORD_LENGTH : goal.returns-then-left-lt-RECORD_LENGTH
returns-then-left-lt-RECORD_LENGTH c =
    let a = c.args in
    rw c.at.ensures (sym (record_short a.s.now a.place (omega arith) (lt_of_le-ne (omega arith) c.if-place-s.false) (omega arith)))

pub returns-then-be_at-included : goal.returns-then-be_at-included
unfolding numbers_at
returns-then-be_at-included c =
    let a = c.args in
    let n = numbers_at a.s.now a.place in
    let above : n.original < n.included = omega (arith, c.by_octets-included.ensures, c.be_at.ensures) in
    rw c.at-then-be_at-included.ensures
    (sym (judged a.s.now a.place (omega arith) (omega arith) c.if-place-s.false (omega arith)
    ∙ judged_above (length a.s.now - a.place) a.place n above))

pub returns-then-s-packet : goal.returns-then-s-packet
unfolding numbers_at
returns-then-s-packet c =
    let a = c.args in
    let n = numbers_at a.s.now a.place in
    let fits : n.included ≤ n.original = omega (arith, c.by_octets-included.ensures, c.be_at.ensures) in
    let past : length a.s.now - a.place < record_length + n.included = omega (arith, c.by_octets-included.ensures) in
    rw c.at-then-s-packet.ensures
    (sym (judged a.s.now a.place (omega arith) (omega arith) c.if-place-s.false (omega arith)
    ∙ judged_past (length a.s.now - a.place) a.place n fits past))

pub returns : goal.returns
unfolding numbers_at
returns c =
    let a = c.args in
    let n = numbers_at a.s.now a.place in
    let fits : n.included ≤ n.original = omega (arith, c.by_octets-included.ensures, c.be_at.ensures) in
    let enough : record_length + n.included ≤ length a.s.now - a.place = omega (arith, c.by_octets-included.ensures) in
    ap (λ (k : ℕ). given (whole n (a.place + record_length) (a.place + record_length + k))) c.by_octets-included.ensures
    ∙ sym (judged a.s.now a.place (omega arith) (omega arith) c.if-place-s.false (omega arith)
    ∙ judged-whole (length a.s.now - a.place) a.place n fits enough)
