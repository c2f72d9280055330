-- The C boundary of BTSnoop's readers: the struct that each answer is returned as, field by field; a record's is in
-- `boundary_record`. Kind 0 is a refusal, 1 values, 2 the end, 3 "more"; a field that the kind has no value for is 0.
use Rattle.std.specs.Prelude.{ℕ}
use Rattle.refusals.specs.Refusals.{Answer, refused, given}
use Rattle.tiling.specs.Tiling.{Ending, ended, more, broken}
use Rattle.tiling.specs.Tiling.{Survey as Surveyed}
use Rattle.btsnoop_rules.specs.File.{File as AcceptedFile}
use Rattle.btsnoop_earlier.specs.Earlier.{refused_in, both_stop, packet_of}
use Rattle.btsnoop_earlier.specs.Earlier.{Earlier as EarlierOf}
use Rattle.boundary_btsnoop.specs.declared.Header.{Header}
use Rattle.boundary_btsnoop.specs.declared.File.{File}
use Rattle.boundary_btsnoop.specs.declared.Survey.{Survey}
use Rattle.boundary_btsnoop.specs.declared.Earlier.{Earlier}

-- zalghimo_header
abbrev pub header_row : Answer ℕ → Header
header_row (refused n q) = record { kind = 0; number = n; place = q; datalink = 0 }
header_row (given code) = record { kind = 1; number = 0; place = 0; datalink = code }

-- zalghimo_file
abbrev pub file_row : Answer AcceptedFile → File
file_row (refused n q) = record { kind = 0; number = n; place = q; datalink = 0; records = 0 }
file_row (given f) = record { kind = 1; number = 0; place = 0; datalink = f.datalink; records = f.records }

-- zalghimo_survey: a refusal adds its count
abbrev pub survey_row_of : ℕ → Ending → Survey
survey_row_of count (ended reached) = record { kind = 2; number = 0; place = 0; count = count; reached = reached }
survey_row_of count (more reached) = record { kind = 3; number = 0; place = 0; count = count; reached = reached }
survey_row_of count (broken n q) = record { kind = 0; number = n; place = q; count = count; reached = 0 }

abbrev pub survey_row : Surveyed → Survey
survey_row v = survey_row_of v.count v.ending

-- zalghimo_earlier: a refusal adds its capture
abbrev pub earlier_row : EarlierOf → Earlier
earlier_row (refused_in capture n q) = record { kind = 0; number = n; place = q; capture = capture; packet = 0; size = 0 }
earlier_row both_stop = record { kind = 2; number = 0; place = 0; capture = 0; packet = 0; size = 0 }
earlier_row (packet_of capture packet size) =
    record { kind = 1; number = 0; place = 0; capture = capture; packet = packet; size = size }
