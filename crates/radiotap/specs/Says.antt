-- What the readers' answers say in document 01's terms, case by case.
use Rattle.std.specs.Prelude.{ℕ, cond, Option, Some, None}
use Rattle.refusals.specs.Refusals.{Answer, refused}
use Rattle.radiotap_rules.specs.declared.Head.{Head}
use Rattle.radiotap_rules.specs.Rules.{served}
use Rattle.radiotap_rules.specs.Table.{our_rules}
use Rattle.radiotap_rules.specs.Reading.{edition_above, Ending, ended, stopped}
use Rattle.radiotap_rules.specs.Answers.{Summary}
use Rattle.radiotap_step.specs.declared.Stop.{Stop}
use Rattle.radiotap.specs.declared.Reading.{Reading}

-- 15 comes before all that stands before the fields
abbrev pub opening : (edition : ℕ) → Answer Head → Answer Head
opening edition head = cond (served our_rules edition) head (refused edition_above 0)

-- how a reading ends: at the end, or at a stop
abbrev pub ending_of : Option Stop → Ending
ending_of None = ended
ending_of (Some stop) = stopped stop.word stop.bit

-- the summary of a header that is read, with the end or the stop
abbrev pub summary_of : Reading → Summary
summary_of r =
    record { fields = r.fields; ending = ending_of r.stop; frame = r.frame; pad = r.pad; words = r.words }
