use Rattle.radiotap_rules.specs.Table.{our_rules}
use Rattle.radiotap_bits.proofs.SetBitsLaws.{lowest, BitsLeft}
use Rattle.radiotap_write.proofs.PutLaws.{Filled}
use Rattle.radiotap_write.proofs.put_fields.Given as goal

abbrev pub invariant-loop-bit : goal.invariant-loop-bit
invariant-loop-bit l = record {
  can : (goal.iterator-loop-bit).can_next l.bit-iterator;
  ends : (goal.iterator-loop-bit).is_finite l.bit-iterator;
  left : BitsLeft l.presence l.bit-iterator.left;
  filled : Filled our_rules l.initial.out l.place l.taken l.presence l.values l.out l.free l.used (lowest l.bit-iterator.left);
}
