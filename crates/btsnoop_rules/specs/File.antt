-- Document 01, "BTSnoop": the walk over a file's records, the survey and the check of a whole file.
use Rattle.std.specs.Prelude.{ℕ, List, length}
use Rattle.refusals.specs.Refusals.{Answer, refused, given, record_place}
use Rattle.tiling.specs.Tiling.{Walk, Ending, ended, more, broken, Survey, walk, items, ending, survey}
use Rattle.btsnoop_rules.specs.Header.{header_length, header_at}
use Rattle.btsnoop_rules.specs.Record.{Record, record_step}

-- the survey from a place with a number of records it may pass
unfoldable pub survey_at : List ℕ → ℕ → ℕ → Survey
survey_at s p number = survey header_length (length s) (record_step s) number p

-- the one walk over a file: its whole records with places and packets, and then the end or the refusal. No record is
-- empty, so as many records as the input has octets are enough.
unfoldable pub file_walk : List ℕ → Walk Record
file_walk s = walk (record_step s) (length s) header_length

-- an accepted file: its datalink code and its number of records
pub record File : Type 0 where
  pub datalink : ℕ
  pub records : ℕ

-- a file whose walk ended with so many records. (Behind a valid header it never ends with "more": claim WalkNeverMore.)
abbrev pub file_of : ℕ → ℕ → Ending → Answer File
file_of code count (ended q) = given (record { datalink = code; records = count })
file_of code count (more q) = refused record_place q
file_of code count (broken n q) = refused n q

-- a header accepted, and then the walk over the records
abbrev pub behind : List ℕ → Answer ℕ → Answer File
behind s (refused n q) = refused n q
behind s (given code) = file_of code (length (items (file_walk s))) (ending (file_walk s))

-- the check of a whole file: accepted, with its code and its number of records, or the first refusal
unfoldable pub file_at : List ℕ → Answer File
file_at s = behind s (header_at s)
