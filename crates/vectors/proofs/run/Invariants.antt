use lib.ListN.{length}
use Rattle.vectors.proofs.run.Given as goal

abbrev pub decreases-loop-question : goal.decreases-loop-question
decreases-loop-question l = length l.left
