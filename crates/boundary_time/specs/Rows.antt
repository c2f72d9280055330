-- The C boundary of the time field: the struct that each answer is returned as, field by field. Kind 0 is a refusal, 1
-- values; a field that the kind has no value for is 0.
use Rattle.std.specs.Prelude.{ℤ, pos}
use Rattle.refusals.specs.Refusals.{Answer, refused, given}
use Rattle.capture_time.specs.Time.{CaptureTime}
use Rattle.boundary_time.specs.declared.Time.{Time}
use Rattle.boundary_time.specs.declared.TimeField.{TimeField}

-- zalghimo_time
abbrev pub time_row : Answer CaptureTime → Time
time_row (refused n q) = record { kind = 0; number = n; place = q; seconds = pos 0; microseconds = 0 }
time_row (given t) = record { kind = 1; number = 0; place = 0; seconds = t.seconds; microseconds = t.microseconds }

-- zalghimo_time_field
abbrev pub time_field_row : Answer ℤ → TimeField
time_field_row (refused n q) = record { kind = 0; number = n; place = q; field = pos 0 }
time_field_row (given f) = record { kind = 1; number = 0; place = 0; field = f }
