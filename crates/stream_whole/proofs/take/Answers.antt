-- `stream_whole::take` meets its contract: a record that lies whole in the chunk, by the numbers in its first 24 octets.
use Prim.Native.Nat.{ℕ, ◌+◌, ◌≤◌}
use mathlib.Core.Path.{◌≡◌, sym, ap, ◌∙◌}
use mathlib.Core.List.{[]}
use native.Mathlib.Omega.{arith}
use lib.ListN.{length, take, drop, length-drop}
use lib.Seq.{length-take-le}
use borrow.Author.Tests.{leb-true}
use Rattle.btsnoop_rules.specs.declared.Numbers.{Numbers}
use Rattle.btsnoop_rules.specs.Record.{record_length, numbers_at}
use Rattle.stream_rules.specs.Stream.{most_octets, finished, in_record, outcome, take_at}
use Rattle.stream_state.proofs.Rows.{answers}
use Rattle.stream_packet.proofs.Handings.{finished_as}
use Rattle.stream_record.proofs.Begins.{front-numbers, whole_record}
use Rattle.stream_whole.proofs.take.Goals as goal

pub returns-then-lies_in : goal.returns-then-lies_in
returns-then-lies_in c =
    let a = c.args in
    let s = a.chunk.now in
    let rest = drop record_length s in
    let n = c.numbers-numbers.result in
    let first = c.in-Some.ensures.cases in
    let same : n ≡ numbers_at s 0 =
    c.numbers-numbers.ensures ∙ ap (λ x. numbers_at x 0) first.same ∙ front-numbers s first.enough in
    let included = ap (λ (m : Numbers). m.included) same in
    let original = ap (λ (m : Numbers). m.original) same in
    let inside : a.octets + length s ≤ most_octets =
    leb-true (a.octets + length s) most_octets (sym c.within.ensures ∙ c.if-within.true) in
    let lies = c.lies_in.ensures c.if-lies_in.true in
    let enough : n.included ≤ length (drop record_length s) = omega (arith, lies.0, length-drop record_length s) in
    answers c.finished.result
    (finished_as record_length 0 n.included a.octets _ n c.finished.result c.finished.ensures (take n.included rest) (length-take-le n.included rest enough))
    (ap (λ (m : Numbers). outcome (record_length + m.included) (finished a.octets m 0 (take m.included rest)) (in_record (a.octets + (record_length + m.included)) [])) same
    ∙ whole_record a.octets s inside (omega (arith, lies.0, included)) (omega (arith, lies.1, included, original))
    ∙ ap (λ (k : ℕ). take_at (in_record a.octets (take k a.held.octets)) s) (sym c.if-held-eq0.true))
