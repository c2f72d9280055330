-- `radiotap_list::list` meets its contract: it walks as `radiotap::count` does (`AtWord`, `Counting`), and the loops keep besides that the
-- list holds the first of the fields met so far, as many as there is room for (`SoFar`); the inner loop for any list that it was made from.
use Prim.Native.Nat.{ℕ, min}
use native.Mathlib.Omega.{arith}
use native.Mathlib.Nat.{zero-min}
use mathlib.Core.Path.{◌≡◌, refl, sym, ap, ◌∙◌, subst}
use lib.ListN.{get_or}
use Rattle.octets.specs.Numbers.{number_at}
use Rattle.numbers.proofs.Orders.{joined_little}
use Rattle.radiotap_rules.specs.Table.{our_rules}
use Rattle.radiotap_rules.specs.Steps.{first_cursor}
use Rattle.radiotap_bits.specs.declared.SetBits.{SetBits}
use Rattle.radiotap_table.specs.Says.{SpannedAs}
use Rattle.radiotap_table.proofs.RowLaws.{row-spans}
use Rattle.radiotap.specs.Outcomes.{summarised}
use Rattle.radiotap.proofs.WalkLaws.{head_inside}
use Rattle.radiotap.proofs.WalkLaws.{refuses as walk-refuses, finishes as walk-finishes}
use Rattle.radiotap.proofs.CountLaws.{word_first, held, word_last, word-followed, word-opens, stop_inside, stop-none, counts_stop, counts_end, counts_continued, counts_word, counts_near, counts_past, counts_field, counts_next}
use Rattle.radiotap_list.proofs.ListLaws.{SoFar, filled, rebased, begins, refuses, finishes, puts, skips}
use Rattle.radiotap_list.proofs.list.Goals as goal
use Rattle.radiotap_list.proofs.list.Goals.{then-fields-room, else-fields-room}

pub loop-bit-init : goal.loop-bit-init
loop-bit-init c =
    let a = c.args in
    let none : 0 ≡ min 0 a.room = sym (zero-min a.room) in (
      _,
      word_first a.taken a.s.now c.known-known.result a.head c.requires.0 c.known-known.ensures,
      subst (SoFar our_rules a.taken a.s.now a.room (first_cursor a.head) a.out.now a.out.now (first_cursor a.head)) none
          (begins our_rules a.taken a.s.now a.room (first_cursor a.head) a.out.now (head_inside a.s.now a.head c.requires.0)),
    )

pub loop-bit-2-init : goal.loop-bit-2-init
loop-bit-2-init c =
    let a = c.args in
    let all = sym (ap (λ (s : SetBits). s.left) c.into_iter-bit-iterator.ensures.into_iter_gives ∙ c.set_bits-bit-items.ensures) in
    let opens = word-opens a.taken a.s.now c.known-known.result c.loop-bit.invariant.1 c.carries-carried.ensures in
    record { can = tt; ends = tt; counting = (_, rw all at opens, rebased our_rules a.taken a.s.now a.room (first_cursor a.head) c.loop-bit.invariant.2) }

pub overflow_add-last-in-loop-bit-2 : goal.overflow_add-last-in-loop-bit-2
overflow_add-last-in-loop-bit-2 c =
    let a = c.args in
    let w = c.loop-bit-2.invariant.counting.1 in
    let taken = c.in-Some.ensures.steps in
    let some : c.loop-bit-2.bit-iterator.left ≡ 0 → ⊥ = λ z. omega (arith, taken.0) in
    let spans = subst (λ (bit : ℕ). SpannedAs bit c.span-span.result) taken.1 (row-spans our_rules a.rows.now c.requires.1 _ c.span-span.ensures) in
    omega (arith, counts_near a.taken a.s.now c.known-known.result w some spans, w.sofar.room)

pub overflow_add-before : goal.overflow_add-before
overflow_add-before c =
    let a = c.args in
    let w = c.loop-bit-2.invariant.counting.1 in
    let taken = c.in-Some.ensures.steps in
    let some : c.loop-bit-2.bit-iterator.left ≡ 0 → ⊥ = λ z. omega (arith, taken.0) in
    let spans = subst (λ (bit : ℕ). SpannedAs bit c.span-span.result) taken.1 (row-spans our_rules a.rows.now c.requires.1 _ c.span-span.ensures) in
    omega (arith, counts_near a.taken a.s.now c.known-known.result w some spans, w.sofar.room)

pub returns-then-size-last : goal.returns-then-size-last
returns-then-size-last c =
    let a = c.args in
    let holds = c.loop-bit-2.invariant.counting.2 a.out.now (filled our_rules a.taken a.s.now a.room (first_cursor a.head) c.loop-bit.invariant.2) in
    let w = c.loop-bit-2.invariant.counting.1 in
    let taken = c.in-Some.ensures.steps in
    let some : c.loop-bit-2.bit-iterator.left ≡ 0 → ⊥ = λ z. omega (arith, taken.0) in
    let spans = subst (λ (bit : ℕ). SpannedAs bit c.span-span.result) taken.1 (row-spans our_rules a.rows.now c.requires.1 _ c.span-span.ensures) in
    let i = c.loop-bit-2.invariant.counting in
    let step = counts_past a.taken a.s.now c.known-known.result i.1 some spans c.if-size-last.true in
    record {
      result_value = rw c.at.ensures (sym (ap (summarised _ a.head) (walk-refuses our_rules a.taken a.s.now 0 i.1.sofar.found step)));
      out_after = refuses our_rules a.taken a.s.now a.room (first_cursor a.head) a.out.now holds step;
    }

pub loop-bit-2-preserved : goal.loop-bit-2-preserved
loop-bit-2-preserved c =
    let a = c.args in
    let w = c.loop-bit-2.invariant.counting.1 in
    let taken = c.in-Some.ensures.steps in
    let some : c.loop-bit-2.bit-iterator.left ≡ 0 → ⊥ = λ z. omega (arith, taken.0) in
    let spans = subst (λ (bit : ℕ). SpannedAs bit c.span-span.result) taken.1 (row-spans our_rules a.rows.now c.requires.1 _ c.span-span.ensures) in
    let i = c.loop-bit-2.invariant.counting in
    let step = counts_field a.taken a.s.now c.known-known.result i.1 some spans c.if-size-last.false in
    let next = rw (← taken.2) at (counts_next a.taken a.s.now c.known-known.result i.1 some spans c.if-size-last.false) in
    record {
      can = tt;
      ends = tt;
      counting = (
        _,
        next,
        λ base same.
            elim c.if-fields-room.branch [
              | then-fields-room w ↦
                  puts our_rules a.taken a.s.now a.room (first_cursor a.head) base (i.2 base same) w.if-fields-room.true _ _ _ _ step refl (rw taken.1 at (w.out-is ∙ w.put.ensures))
              | else-fields-room w ↦
                  skips our_rules a.taken a.s.now a.room (first_cursor a.head) base (i.2 base same) w.if-fields-room.false refl w.out-is
            ],
      );
    }

pub returns-then-carried-ne0 : goal.returns-then-carried-ne0
returns-then-carried-ne0 c =
    let a = c.args in
    let holds = c.loop-bit-2.invariant.counting.2 a.out.now (filled our_rules a.taken a.s.now a.room (first_cursor a.head) c.loop-bit.invariant.2) in
    let i = c.loop-bit-2.invariant.counting in
    let inside = stop_inside a.taken a.s.now c.known-known.result c.carries-carried.ensures c.if-carried-ne0.true in
    let step = counts_stop a.taken a.s.now c.known-known.result i.1 c.in-None.ensures.steps inside in
    record {
      result_value = rw c.octet-pad.ensures (sym (ap (summarised _ a.head) (walk-finishes our_rules a.taken a.s.now 0 i.1.sofar.found step)));
      out_after = finishes our_rules a.taken a.s.now a.room (first_cursor a.head) a.out.now holds step;
    }

pub returns-then-word-eq0 : goal.returns-then-word-eq0
returns-then-word-eq0 c =
    let a = c.args in
    let holds = c.loop-bit-2.invariant.counting.2 a.out.now (filled our_rules a.taken a.s.now a.room (first_cursor a.head) c.loop-bit.invariant.2) in
    let i = c.loop-bit-2.invariant.counting in
    let known = c.known-known.result in
    let past = stop-none a.taken a.s.now known c.if-carried-ne0.false in
    let last = word_last a.taken a.s.now known c.loop-bit.invariant.1 c.if-word-eq0.true in
    let step = counts_end a.taken a.s.now known i.1 c.in-None.ensures.steps past last in
    record {
      result_value = rw c.octet-pad.ensures (sym (ap (summarised _ a.head) (walk-finishes our_rules a.taken a.s.now 0 i.1.sofar.found step)));
      out_after = finishes our_rules a.taken a.s.now a.room (first_cursor a.head) a.out.now holds step;
    }

pub bounds-s-at : goal.bounds-s-at
bounds-s-at c =
    let a = c.args in
    let more = word-followed a.taken a.s.now c.known-known.result c.loop-bit.invariant.1 c.if-word-eq0.false in
    omega (arith, more, c.loop-bit-2.invariant.counting.1.sofar.inside)

pub bounds-s-at-in-loop-bit : goal.bounds-s-at-in-loop-bit
bounds-s-at-in-loop-bit c =
    let a = c.args in
    let more = word-followed a.taken a.s.now c.known-known.result c.loop-bit.invariant.1 c.if-word-eq0.false in
    omega (arith, more, c.loop-bit-2.invariant.counting.1.sofar.inside)

pub bounds-s-at-in-loop-bit-2 : goal.bounds-s-at-in-loop-bit-2
bounds-s-at-in-loop-bit-2 c =
    let a = c.args in
    let more = word-followed a.taken a.s.now c.known-known.result c.loop-bit.invariant.1 c.if-word-eq0.false in
    omega (arith, more, c.loop-bit-2.invariant.counting.1.sofar.inside)

pub bounds-s-at-in-loop-bit-3 : goal.bounds-s-at-in-loop-bit-3
bounds-s-at-in-loop-bit-3 c =
    let a = c.args in
    let more = word-followed a.taken a.s.now c.known-known.result c.loop-bit.invariant.1 c.if-word-eq0.false in
    omega (arith, more, c.loop-bit-2.invariant.counting.1.sofar.inside)

pub returns-then-unknown-ne0 : goal.returns-then-unknown-ne0
unfolding number_at
returns-then-unknown-ne0 c =
    let a = c.args in
    let holds = c.loop-bit-2.invariant.counting.2 a.out.now (filled our_rules a.taken a.s.now a.room (first_cursor a.head) c.loop-bit.invariant.2) in
    let more = word-followed a.taken a.s.now c.known-known.result c.loop-bit.invariant.1 c.if-word-eq0.false in
    let w = c.loop-bit-2.invariant.counting.1 in
    let known = c.known-known.result in
    let past = stop-none a.taken a.s.now known c.if-carried-ne0.false in
    let step = counts_continued a.taken a.s.now known w c.in-None.ensures.steps past more (c.from_le_bytes-next.ensures ∙ joined_little _ 3 refl) (held a.taken a.s.now known c.loop-bit.invariant.1) c.continued-unknown.ensures c.if-unknown-ne0.true in
    record {
      result_value = rw c.octet-pad.ensures (sym (ap (summarised (get_or a.s.now 1 0) a.head) (walk-finishes our_rules a.taken a.s.now 0 w.sofar.found step)));
      out_after = finishes our_rules a.taken a.s.now a.room (first_cursor a.head) a.out.now holds step;
    }

pub loop-bit-preserved : goal.loop-bit-preserved
unfolding number_at
loop-bit-preserved c =
    let a = c.args in
    let holds = c.loop-bit-2.invariant.counting.2 a.out.now (filled our_rules a.taken a.s.now a.room (first_cursor a.head) c.loop-bit.invariant.2) in
    let more = word-followed a.taken a.s.now c.known-known.result c.loop-bit.invariant.1 c.if-word-eq0.false in
    let w = c.loop-bit-2.invariant.counting.1 in
    let known = c.known-known.result in
    let past = stop-none a.taken a.s.now known c.if-carried-ne0.false in
    (_, counts_word a.taken a.s.now known w c.in-None.ensures.steps past more (c.from_le_bytes-next.ensures ∙ joined_little _ 3 refl) (held a.taken a.s.now known c.loop-bit.invariant.1) c.continued-unknown.ensures c.known-known.ensures c.if-unknown-ne0.false, holds)
