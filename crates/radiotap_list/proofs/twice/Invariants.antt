use mathlib.Core.Path.{◌≡◌}
use mathlib.Core.Bool.{cond}
use Rattle.radiotap_list.proofs.FieldsLaws.{room}
use Rattle.radiotap_list.proofs.twice.Given as goal

abbrev pub invariant-loop-judged : goal.invariant-loop-judged
invariant-loop-judged l = (l.out ≡ l.initial.out) × (l.room ≡ room l.edition l.s l.most l.judged)

abbrev pub decreases-loop-judged : goal.decreases-loop-judged
decreases-loop-judged l = cond l.judged 0 1
