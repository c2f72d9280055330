use Prim.Native.Nat.{◌-◌}
use Rattle.radiotap_rules.specs.Reading.{most_words}
use Rattle.radiotap_head.proofs.PresenceLaws.{SoFar}
use Rattle.radiotap_head.proofs.presence.Given as goal

abbrev pub invariant-loop-word : goal.invariant-loop-word
invariant-loop-word l = SoFar l.s l.size l.first l.word l.words

abbrev pub decreases-loop-word : goal.decreases-loop-word
decreases-loop-word l = most_words - l.words
