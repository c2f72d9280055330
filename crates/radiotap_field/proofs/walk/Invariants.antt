use Rattle.radiotap_rules.specs.Table.{our_rules}
use Rattle.radiotap_rules.proofs.Steps.{positions_left}
use Rattle.radiotap.proofs.WalkLaws.{SoFar}
use Rattle.radiotap_field.proofs.KeptLaws.{kept_of, KeptOf}
use Rattle.radiotap_field.proofs.walk.Given as goal

abbrev pub invariant-loop-stop : goal.invariant-loop-stop
invariant-loop-stop l =
    SoFar our_rules l.taken l.s l.fn.head.size l.number l.cursor l.fields (kept_of l.s l.kept) × KeptOf l.s l.number l.fields l.kept

abbrev pub decreases-loop-stop : goal.decreases-loop-stop
decreases-loop-stop l = positions_left l.cursor
