-- The C boundary of an answer that has no values of its own, since they go to what was lent: the struct that it is returned
-- as, field by field. Kind 0 is a refusal, 1 done.
use Rattle.std.specs.Prelude.{ℕ}
use Rattle.refusals.specs.Refusals.{Answer, refused, given}
use Rattle.boundary_done.specs.declared.Done.{Done}

abbrev pub refused_row : (number place : ℕ) → Done
refused_row n q = record { kind = 0; number = n; place = q }

abbrev pub filled_row : Done
filled_row = record { kind = 1; number = 0; place = 0 }

-- zalghimo_done
abbrev pub done_row : {A : Type 0} → Answer A → Done
done_row (refused n q) = refused_row n q
done_row (given a) = filled_row
