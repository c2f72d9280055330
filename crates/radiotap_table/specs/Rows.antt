-- The rows of the table as the code holds them.
use Rattle.radiotap_rules.specs.Rules.{row}
use Rattle.radiotap_rules.specs.Rules.{Row as RuleOf}
use Rattle.radiotap_table.specs.declared.Row.{Row}

-- a row as the rules have it
abbrev pub in_rules : Row → RuleOf
in_rules r = row r.alignment r.size r.first
