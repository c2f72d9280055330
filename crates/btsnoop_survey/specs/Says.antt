-- What the answers of survey and check say in document 01's terms, case by case.
use Rattle.std.specs.Prelude.{ℕ, ◌+◌, List, Option, Some, None, Result, Ok, Err}
use Rattle.refusals.specs.declared.Refusal.{Refusal}
use Rattle.refusals.specs.Says.{number_of}
use Rattle.tiling.specs.Tiling.{Survey, ended, more, broken}
use Rattle.tiling.specs.Tiling.{Ending as WalkEnding}
use Rattle.btsnoop_rules.specs.Record.{Found, record_length, numbers_at, end, whole}
use Rattle.btsnoop_rules.specs.File.{File as AcceptedFile}
use Rattle.btsnoop_survey.specs.declared.Ending.{Ending}
use Rattle.btsnoop_survey.specs.declared.Surveyed.{Surveyed}
use Rattle.btsnoop_survey.specs.declared.File.{File}

-- what a survey meets at a place: the end, or a whole record with the place of the next
abbrev pub met_of : List ℕ → ℕ → Option ℕ → Found
met_of s p None = end
met_of s p (Some next) = whole (numbers_at s p) (p + record_length) next

-- the end or "more" with the place reached, or the refusal
abbrev pub ending_says : Result Ending Refusal → WalkEnding
ending_says (Ok (Ending.End reached)) = ended reached
ending_says (Ok (Ending.More reached)) = more reached
ending_says (Err r) = broken (number_of r.reason) r.place

-- a survey: the count and the ending
abbrev pub survey_says : Surveyed → Survey
survey_says v = record { count = v.count; ending = ending_says v.ending }

-- an accepted file: the code and the number of records
abbrev pub accepted_of : File → AcceptedFile
accepted_of f = record { datalink = f.datalink; records = f.records }
