-- `stream_header::take` meets its contract: 32, octets held, or what the header reader answers of all 16.
use Prim.Native.Nat.{ℕ, ◌+◌, ◌≤◌, ◌<◌}
use mathlib.Core.Path.{sym, ap, ◌∙◌}
use native.Mathlib.Omega.{arith}
use lib.ListN.{length, take}
use borrow.Author.Tests.{leb-true, leb-false}
use Rattle.std.specs.Prelude.{Result}
use Rattle.refusals.specs.declared.Refusal.{Refusal}
use Rattle.refusals.specs.Says.{says}
use Rattle.btsnoop_rules.specs.Header.{header_at}
use Rattle.stream_rules.specs.Stream.{most_octets, header_taken}
use Rattle.stream_state.proofs.Rows.{answers, refused_for}
use Rattle.stream_header.proofs.Headers.{past, waits, read}
use Rattle.stream_header.proofs.take.Goals as goal

pub returns-then-not-within : goal.returns-then-not-within
returns-then-not-within c =
    let a = c.args in
    let s = a.chunk.now in
    let long : most_octets < a.octets + length s =
    leb-false (a.octets + length s) most_octets (sym c.within.ensures ∙ c.if-not-within.true) in
    answers c.refused.result c.refused.ensures
    (refused_for a.octets c.at.ensures ∙ past a.octets (take a.held.count a.held.octets) s long)

pub returns-then-chunk-need : goal.returns-then-chunk-need
returns-then-chunk-need c =
    let a = c.args in
    let s = a.chunk.now in
    let inside : a.octets + length s ≤ most_octets =
    leb-true (a.octets + length s) most_octets (sym c.within.ensures ∙ c.if-not-within.false) in
    answers c.holding.result c.holding.ensures
    (waits a.octets (take a.held.count a.held.octets) s inside _ c.with.ensures
    (omega (arith, c.len.ensures.size, c.saturating_sub-need.ensures, c.if-chunk-need.true)))

pub returns-in-Ok : goal.returns-in-Ok
returns-in-Ok c =
    let a = c.args in
    let s = a.chunk.now in
    let k = c.saturating_sub-need.result in
    let inside : a.octets + length s ≤ most_octets =
    leb-true (a.octets + length s) most_octets (sym c.within.ensures ∙ c.if-not-within.false) in
    answers c.accepted.result c.accepted.ensures
    (ap (λ (r : Result ℕ Refusal). header_taken a.octets k (says r)) (sym c.in-Ok.is)
    ∙ ap (header_taken a.octets k) (c.read.ensures ∙ ap header_at c.as_slice.ensures)
    ∙ read a.octets (take a.held.count a.held.octets) s inside k
    (omega (arith, c.len.ensures.size, c.saturating_sub-need.ensures)) (omega (arith, c.if-chunk-need.false))
    (omega (arith, c.len.ensures.size, c.len.ensures.room)) _ c.with-whole.ensures)

pub returns-in-Err : goal.returns-in-Err
returns-in-Err c =
    let a = c.args in
    let s = a.chunk.now in
    let k = c.saturating_sub-need.result in
    let inside : a.octets + length s ≤ most_octets =
    leb-true (a.octets + length s) most_octets (sym c.within.ensures ∙ c.if-not-within.false) in
    answers c.refused-in-Err.result c.refused-in-Err.ensures
    (ap (λ (r : Result ℕ Refusal). header_taken a.octets k (says r)) (sym c.in-Err.is)
    ∙ ap (header_taken a.octets k) (c.read.ensures ∙ ap header_at c.as_slice.ensures)
    ∙ read a.octets (take a.held.count a.held.octets) s inside k
    (omega (arith, c.len.ensures.size, c.saturating_sub-need.ensures)) (omega (arith, c.if-chunk-need.false))
    (omega (arith, c.len.ensures.size, c.len.ensures.room)) _ c.with-whole.ensures)
