-- What the record reader's answer says in document 01's terms, case by case.
use Rattle.std.specs.Prelude.{Option, Some, None}
use Rattle.btsnoop_rules.specs.Record.{Found, end, whole}
use Rattle.btsnoop_record.specs.declared.Record.{Record}

-- a whole record
abbrev pub whole_of : Record → Found
whole_of r = whole r.numbers r.packet r.next

-- the end, or a whole record
abbrev pub found_of : Option Record → Found
found_of None = end
found_of (Some r) = whole_of r
