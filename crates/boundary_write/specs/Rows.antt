-- The C boundary of every writer: the struct that its answer is returned as, field by field. Kind 0 is a refusal, 1
-- values; a field that the kind has no value for is 0.
use Rattle.std.specs.Prelude.{ℕ}
use Rattle.refusals.specs.Refusals.{Answer, refused, given}
use Rattle.boundary_write.specs.declared.Written.{Written}

-- zalghimo_written
abbrev pub written_row : Answer ℕ → Written
written_row (refused n q) = record { kind = 0; number = n; place = q; next = 0 }
written_row (given next) = record { kind = 1; number = 0; place = 0; next = next }
