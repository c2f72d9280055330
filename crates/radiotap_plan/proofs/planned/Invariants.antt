use Rattle.radiotap_rules.specs.Table.{our_rules}
use Rattle.radiotap_bits.proofs.SetBitsLaws.{lowest, BitsLeft}
use Rattle.radiotap_plan.proofs.PlanLaws.{Added}
use Rattle.radiotap_plan.proofs.planned.Given as goal

abbrev pub invariant-loop-bit : goal.invariant-loop-bit
invariant-loop-bit l = record {
  can : (goal.iterator-loop-bit).can_next l.bit-iterator;
  ends : (goal.iterator-loop-bit).is_finite l.bit-iterator;
  left : BitsLeft l.presence l.bit-iterator.left;
  added : Added our_rules l.taken l.presence l.at l.summed (lowest l.bit-iterator.left);
}
