-- `radiotap::count` meets its contract: the outer loop keeps what was found up to a word (`AtWord`), the inner one where it stands in the
-- word (`Counting`); each bit that is shown is a field that is met or refused, and behind them the word stops the walk, ends it or is passed.
use native.Mathlib.Omega.{arith}
use mathlib.Core.Path.{refl, sym, ap, ◌∙◌}
use lib.ListN.{get_or}
use Rattle.octets.specs.Numbers.{number_at}
use Rattle.numbers.proofs.Orders.{joined_little}
use Rattle.radiotap_rules.specs.Table.{our_rules}
use Rattle.radiotap_table.proofs.RowLaws.{row-spans}
use Rattle.radiotap.specs.Outcomes.{summarised}
use Rattle.radiotap.proofs.WalkLaws.{refuses, finishes}
use Rattle.radiotap.proofs.CountLaws.{word_first, held, word_last, word-followed, stop_inside, stop-none, counts_stop, counts_end, counts_continued, counts_word, counts_near, counts_past, counts_next}
use Rattle.radiotap.proofs.count.Goals as goal

pub loop-bit-init : goal.loop-bit-init
loop-bit-init c =
    let a = c.args in
    (_, word_first a.taken a.s.now c.known-known.result a.head c.requires c.known-known.ensures)

pub overflow_add-last-in-loop-left : goal.overflow_add-last-in-loop-left
overflow_add-last-in-loop-left c =
    let a = c.args in
    let w = c.loop-left.invariant.1 in
    let spans = row-spans our_rules c.rows-rows.result c.rows-rows.ensures _ c.span-span.ensures in
    omega (arith, counts_near a.taken a.s.now c.known-known.result w c.loop-left-test.true spans, w.sofar.room)

pub overflow_add-before : goal.overflow_add-before
overflow_add-before c =
    let a = c.args in
    let w = c.loop-left.invariant.1 in
    let spans = row-spans our_rules c.rows-rows.result c.rows-rows.ensures _ c.span-span.ensures in
    omega (arith, counts_near a.taken a.s.now c.known-known.result w c.loop-left-test.true spans, w.sofar.room)

pub returns-then-size-last : goal.returns-then-size-last
returns-then-size-last c =
    let a = c.args in
    let w = c.loop-left.invariant.1 in
    let spans = row-spans our_rules c.rows-rows.result c.rows-rows.ensures _ c.span-span.ensures in
    let step = counts_past a.taken a.s.now c.known-known.result w c.loop-left-test.true spans c.if-size-last.true in
    rw c.at.ensures (sym (ap (summarised _ a.head) (refuses our_rules a.taken a.s.now 0 w.sofar.found step)))

pub loop-left-preserved : goal.loop-left-preserved
loop-left-preserved c =
    let a = c.args in
    let w = c.loop-left.invariant.1 in
    let spans = row-spans our_rules c.rows-rows.result c.rows-rows.ensures _ c.span-span.ensures in
    (_, counts_next a.taken a.s.now c.known-known.result c.loop-left.invariant.1 c.loop-left-test.true spans c.if-size-last.false)

pub bounds-s-at : goal.bounds-s-at
bounds-s-at c =
    let a = c.args in
    let more = word-followed a.taken a.s.now c.known-known.result c.loop-bit.invariant.1 c.if-word-eq0.false in
    omega (arith, more, c.loop-left.invariant.1.sofar.inside)

pub bounds-s-at-in-loop-bit : goal.bounds-s-at-in-loop-bit
bounds-s-at-in-loop-bit c =
    let a = c.args in
    let more = word-followed a.taken a.s.now c.known-known.result c.loop-bit.invariant.1 c.if-word-eq0.false in
    omega (arith, more, c.loop-left.invariant.1.sofar.inside)

pub bounds-s-at-in-loop-bit-2 : goal.bounds-s-at-in-loop-bit-2
bounds-s-at-in-loop-bit-2 c =
    let a = c.args in
    let more = word-followed a.taken a.s.now c.known-known.result c.loop-bit.invariant.1 c.if-word-eq0.false in
    omega (arith, more, c.loop-left.invariant.1.sofar.inside)

pub bounds-s-at-in-loop-bit-3 : goal.bounds-s-at-in-loop-bit-3
bounds-s-at-in-loop-bit-3 c =
    let a = c.args in
    let more = word-followed a.taken a.s.now c.known-known.result c.loop-bit.invariant.1 c.if-word-eq0.false in
    omega (arith, more, c.loop-left.invariant.1.sofar.inside)

pub loop-bit-preserved : goal.loop-bit-preserved
unfolding number_at
loop-bit-preserved c =
    let a = c.args in
    let more = word-followed a.taken a.s.now c.known-known.result c.loop-bit.invariant.1 c.if-word-eq0.false in
    let w = c.loop-left.invariant.1 in
    let known = c.known-known.result in
    let past = stop-none a.taken a.s.now known c.if-carried-ne0.false in
    (_, counts_word a.taken a.s.now known w c.loop-left-test.false past more (c.from_le_bytes-next.ensures ∙ joined_little _ 3 refl) (held a.taken a.s.now known c.loop-bit.invariant.1) c.continued-unknown.ensures c.known-known.ensures c.if-unknown-ne0.false)

pub returns-then-carried-ne0 : goal.returns-then-carried-ne0
returns-then-carried-ne0 c =
    let a = c.args in
    let w = c.loop-left.invariant.1 in
    let known = c.known-known.result in
    let inside = stop_inside a.taken a.s.now known c.carries-carried.ensures c.if-carried-ne0.true in
    let step = counts_stop a.taken a.s.now known w c.loop-left-test.false inside in
    rw c.octet-pad.ensures (sym (ap (summarised _ a.head) (finishes our_rules a.taken a.s.now 0 w.sofar.found step)))

pub returns-then-word-eq0 : goal.returns-then-word-eq0
returns-then-word-eq0 c =
    let a = c.args in
    let w = c.loop-left.invariant.1 in
    let known = c.known-known.result in
    let past = stop-none a.taken a.s.now known c.if-carried-ne0.false in
    let last = word_last a.taken a.s.now known c.loop-bit.invariant.1 c.if-word-eq0.true in
    let step = counts_end a.taken a.s.now known w c.loop-left-test.false past last in
    rw c.octet-pad.ensures (sym (ap (summarised _ a.head) (finishes our_rules a.taken a.s.now 0 w.sofar.found step)))

pub returns-then-unknown-ne0 : goal.returns-then-unknown-ne0
unfolding number_at
returns-then-unknown-ne0 c =
    let a = c.args in
    let more = word-followed a.taken a.s.now c.known-known.result c.loop-bit.invariant.1 c.if-word-eq0.false in
    let w = c.loop-left.invariant.1 in
    let known = c.known-known.result in
    let past = stop-none a.taken a.s.now known c.if-carried-ne0.false in
    let step = counts_continued a.taken a.s.now known w c.loop-left-test.false past more (c.from_le_bytes-next.ensures ∙ joined_little _ 3 refl) (held a.taken a.s.now known c.loop-bit.invariant.1) c.continued-unknown.ensures c.if-unknown-ne0.true in
    rw c.octet-pad.ensures (sym (ap (summarised (get_or a.s.now 1 0) a.head) (finishes our_rules a.taken a.s.now 0 w.sofar.found step)))
