-- What a fault and a judgement of the code say in document 01's terms, case by case.
use Rattle.std.specs.Prelude.{Result, Ok, Err}
use Rattle.le_rules.specs.Reading as Reading
use Rattle.le_rules.specs.Reading.{channel_above, pdu_type_reserved, phy_reserved, out_of, within}
use Rattle.le_ranges.specs.declared.Fault.{Fault}

-- the three faults
abbrev pub fault_says : Fault → Reading.Fault
fault_says Fault.ChannelAbove = channel_above
fault_says Fault.PduTypeReserved = pdu_type_reserved
fault_says Fault.PhyReserved = phy_reserved

-- the fault that is given, or none
abbrev pub range_says : {A : Type 0} → Result A Fault → Reading.Range
range_says (Err fault) = out_of (fault_says fault)
range_says (Ok u) = within
