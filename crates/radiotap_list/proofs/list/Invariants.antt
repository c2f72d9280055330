use Prim.Native.Nat.{ℕ, ◌-◌, min}
use mathlib.Core.List.{List}
use lib.Count.{count_trailing_zeros}
use Rattle.radiotap_rules.specs.declared.Cursor.{Cursor}
use Rattle.radiotap_rules.specs.Table.{our_rules}
use Rattle.radiotap_rules.specs.Reading.{word_bits}
use Rattle.radiotap_rules.specs.Steps.{first_cursor}
use Rattle.radiotap.proofs.CountLaws.{AtWord, Counting}
use Rattle.radiotap_list.proofs.ListLaws.{SoFar, Filled}
use Rattle.radiotap_list.proofs.list.Given as goal

abbrev pub invariant-loop-bit-2 : goal.invariant-loop-bit-2
invariant-loop-bit-2 l = record {
  can : (goal.iterator-loop-bit-2).can_next l.bit-iterator;
  ends : (goal.iterator-loop-bit-2).is_finite l.bit-iterator;
  counting : (c : Cursor)
      × Counting l.taken l.s l.known l.size l.head.words c l.index l.bit-iterator.left (count_trailing_zeros word_bits l.carried.unknown) l.last l.fields
      × ((base : List ℕ) → Filled our_rules l.taken l.s l.room (first_cursor l.head) base l.initial.out (min l.initial.fields l.room)
      → SoFar our_rules l.taken l.s l.room (first_cursor l.head) base l.out c (min l.fields l.room));
}

abbrev pub invariant-loop-bit : goal.invariant-loop-bit
invariant-loop-bit l =
    (c : Cursor)
    × AtWord l.taken l.s l.known l.size l.head.words c l.index l.word l.last l.fields
    × SoFar our_rules l.taken l.s l.room (first_cursor l.head) l.initial.out l.out c (min l.fields l.room)

abbrev pub decreases-loop-bit : goal.decreases-loop-bit
decreases-loop-bit l = l.head.words - l.index
