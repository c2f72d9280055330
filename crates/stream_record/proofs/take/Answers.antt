-- `stream_record::take` meets its contract: 32, octets held, 6, or the packet behind the header.
use Prim.Native.Nat.{ℕ, ◌+◌, ◌-◌, ◌≤◌, ◌<◌}
use mathlib.Core.Path.{◌≡◌, sym, ap, ◌∙◌}
use mathlib.Core.List.{List, ◌++◌}
use native.Mathlib.Omega.{arith}
use lib.ListN.{length, take, length-append}
use lib.Seq.{take_all}
use borrow.Author.Tests.{leb-true, leb-false}
use Rattle.refusals.specs.Refusals.{included_length}
use Rattle.btsnoop_rules.specs.Record.{record_length}
use Rattle.stream_rules.specs.Stream.{most_octets, nothing, in_record, outcome, refuses}
use Rattle.stream_state.proofs.Rows.{answers, refused_for}
use Rattle.stream_record.proofs.Begins.{past, waits, above_refused, packet-begun}
use Rattle.stream_record.proofs.take.Goals as goal

pub returns-then-not-within : goal.returns-then-not-within
returns-then-not-within c =
    let a = c.args in
    let s = a.chunk.now in
    let long : most_octets < a.octets + length s =
    leb-false (a.octets + length s) most_octets (sym c.within.ensures ∙ c.if-not-within.true) in
    answers c.refused.result c.refused.ensures
    (refused_for a.octets c.at.ensures ∙ past a.octets (take a.held.count a.held.octets) s long)

pub returns-then-chunk-need : goal.returns-then-chunk-need
returns-then-chunk-need c =
    let a = c.args in
    let s = a.chunk.now in
    let h = take a.held.count a.held.octets in
    let t = c.with.result in
    let inside : a.octets + length s ≤ most_octets =
    leb-true (a.octets + length s) most_octets (sym c.within.ensures ∙ c.if-not-within.false) in
    let room : length h + length s < record_length = omega (arith, c.len-need.ensures.size, c.if-chunk-need.true) in
    let held : take t.count t.octets ≡ h ++ s =
    c.with.ensures ∙ take_all record_length (h ++ s) (omega (arith, length-append h s)) in
    answers c.holding.result c.holding.ensures
    (ap (λ (x : List ℕ). outcome (length s) nothing (in_record (a.octets + length s) x)) held
    ∙ waits a.octets h s inside room)

pub returns-then-above : goal.returns-then-above
returns-then-above c =
    let a = c.args in
    let s = a.chunk.now in
    let h = take a.held.count a.held.octets in
    let inside : a.octets + length s ≤ most_octets =
    leb-true (a.octets + length s) most_octets (sym c.within.ensures ∙ c.if-not-within.false) in
    answers c.refused-then-above.result c.refused-then-above.ensures
    (refused_for a.octets c.at-then-above.ensures
    ∙ ap (λ (q : ℕ). refuses a.octets included_length (q + 4)) c.saturating_sub-start.ensures
    ∙ above_refused a.octets h s (omega (arith, c.len-need.ensures.size, c.len-need.ensures.room)) inside
    (omega (arith, c.len-need.ensures.size, c.if-chunk-need.false)) c.whole-header.result c.whole-header.ensures
    (record_length - c.len-need.result) (ap (λ (n : ℕ). record_length - n) c.len-need.ensures.size)
    (sym c.above.ensures ∙ c.if-above.true))

pub returns : goal.returns
returns c =
    let a = c.args in
    let s = a.chunk.now in
    let h = take a.held.count a.held.octets in
    let inside : a.octets + length s ≤ most_octets =
    leb-true (a.octets + length s) most_octets (sym c.within.ensures ∙ c.if-not-within.false) in
    answers c.take_from.result c.take_from.ensures
    (packet-begun a.octets h s (omega (arith, c.len-need.ensures.size, c.len-need.ensures.room)) inside
    (omega (arith, c.len-need.ensures.size, c.if-chunk-need.false)) c.whole-header.result c.whole-header.ensures
    (record_length - c.len-need.result) (ap (λ (n : ℕ). record_length - n) c.len-need.ensures.size)
    (sym c.above.ensures ∙ c.if-above.false))
