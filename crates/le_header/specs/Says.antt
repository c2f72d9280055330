-- What a header of the code says in document 01's terms.
use Rattle.le_rules.specs.Reading as Reading
use Rattle.le_flags.specs.Says.{told_says}
use Rattle.le_header.specs.declared.Header.{Header}

-- its values, and what the flags tell
abbrev pub header_of : Header → Reading.Header
header_of h = record { values = h.values; told = told_says h.told }
