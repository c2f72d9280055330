use Prim.Native.Nat.{◌-◌}
use lib.Count.{count_trailing_zeros}
use Rattle.radiotap_rules.specs.declared.Cursor.{Cursor}
use Rattle.radiotap_rules.specs.Reading.{word_bits}
use Rattle.radiotap.proofs.CountLaws.{AtWord, Counting}
use Rattle.radiotap.proofs.count.Given as goal

abbrev pub invariant-loop-left : goal.invariant-loop-left
invariant-loop-left l =
    (c : Cursor) × Counting l.taken l.s l.known l.size l.head.words c l.index l.left (count_trailing_zeros word_bits l.carried.unknown) l.last l.fields

abbrev pub decreases-loop-left : goal.decreases-loop-left
decreases-loop-left l = l.left

abbrev pub invariant-loop-bit : goal.invariant-loop-bit
invariant-loop-bit l =
    (c : Cursor) × AtWord l.taken l.s l.known l.size l.head.words c l.index l.word l.last l.fields

abbrev pub decreases-loop-bit : goal.decreases-loop-bit
decreases-loop-bit l = l.head.words - l.index
