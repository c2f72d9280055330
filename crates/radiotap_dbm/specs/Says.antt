-- What the answer to the value of a dBm field says in document 01's terms, case by case.
use Rattle.std.specs.Prelude.{ℕ, cond, Result, Ok, Err}
use Rattle.refusals.specs.Says.{number_of}
use Rattle.refusals.specs.declared.Refusal.{Refusal}
use Rattle.octets.specs.Signed.{signed}
use Rattle.radiotap_rules.specs.Reading.{ended, stopped}
use Rattle.radiotap_rules.specs.Answers.{is_dbm, Dbm, refused_dbm, no_dbm_field, not_dbm, dbm_value}
use Rattle.radiotap_dbm.specs.declared.DbmAnswer.{DbmAnswer}

-- a dBm value that is not refused: the end, the stop, that the field is no dBm, or the signed number
abbrev pub value_of : DbmAnswer → Dbm
value_of DbmAnswer.End = no_dbm_field ended
value_of (DbmAnswer.Stop stop) = no_dbm_field (stopped stop.word stop.bit)
value_of DbmAnswer.NotDbm = not_dbm
value_of (DbmAnswer.Dbm value) = dbm_value value

-- a dBm value: what it is, or the refusal
abbrev pub dbm_says : Result DbmAnswer Refusal → Dbm
dbm_says (Ok answer) = value_of answer
dbm_says (Err r) = refused_dbm (number_of r.reason) r.place

-- the value of a field, by its bit and its first octet
abbrev pub valued_as : (bit octet : ℕ) → Dbm
valued_as bit octet = cond (is_dbm bit) (dbm_value (signed 8 octet)) not_dbm
