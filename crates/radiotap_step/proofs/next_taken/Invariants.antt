use Prim.Native.Nat.{◌-◌, ◌*◌}
use Rattle.radiotap_rules.specs.Table.{our_rules}
use Rattle.radiotap_step.proofs.StepLaws.{Searches}
use Rattle.radiotap_step.proofs.next_taken.Given as goal

abbrev pub invariant-loop-position : goal.invariant-loop-position
invariant-loop-position l = Searches our_rules l.taken l.s l.cursor l.position l.bits l.again

abbrev pub decreases-loop-position : goal.decreases-loop-position
decreases-loop-position l = 32 * l.cursor.words - l.position
