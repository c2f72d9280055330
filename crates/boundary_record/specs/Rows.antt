-- The C boundary of the record reader: the struct that its answer is returned as, field by field. Kind 0 is a refusal, 1
-- values, 2 the end; a field that the kind has no value for is 0.
use Rattle.std.specs.Prelude.{pos}
use Rattle.refusals.specs.Refusals.{Answer, refused, given}
use Rattle.btsnoop_rules.specs.Record.{Found, end, whole}
use Rattle.boundary_record.specs.declared.Record.{Record}

-- zalghimo_record
abbrev pub record_row : Answer Found → Record
record_row (refused n q) =
    record { kind = 0; number = n; place = q; original = 0; included = 0; flags = 0; drops = 0; time = pos 0; packet = 0; next = 0 }
record_row (given end) =
    record { kind = 2; number = 0; place = 0; original = 0; included = 0; flags = 0; drops = 0; time = pos 0; packet = 0; next = 0 }
record_row (given (whole m packet next)) =
    record {
      kind = 1;
      number = 0;
      place = 0;
      original = m.original;
      included = m.included;
      flags = m.flags;
      drops = m.drops;
      time = m.time;
      packet = packet;
      next = next;
    }
