-- What the code's enum says in document 01's terms, case by case.
use Rattle.std.specs.Prelude.{Bool, true, false}
use Rattle.pseudo_header.specs.declared.Knowledge.{Knowledge}

-- whether a value's flag is set
abbrev pub knowledge_says : Knowledge → Bool
knowledge_says Knowledge.Known = true
knowledge_says Knowledge.Unknown = false
