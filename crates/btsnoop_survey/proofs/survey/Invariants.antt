use Rattle.btsnoop_survey.proofs.SurveyLaws.{SoFar}
use Rattle.btsnoop_survey.proofs.survey.Given as goal

abbrev pub invariant-loop-count : goal.invariant-loop-count
invariant-loop-count l = SoFar l.s l.place l.number l.reached l.count
