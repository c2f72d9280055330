-- The proved set follows from the rules: both sides of the one statement compute to the same list.
-- Assumes nothing.
use mathlib.Core.Path.{refl}
use Rattle.octets.specs.Numbers.{number, number_at}
use Rattle.octets.specs.Signed.{signed}
use Rattle.octets.specs.Parts.{part}
use Rattle.btsnoop_rules.specs.Header.{header_judged, header_at}
use Rattle.btsnoop_rules.specs.Record.{numbers_at, record_judged, record_at}
use Rattle.btsnoop_rules.specs.File.{file_walk, file_at}
use Rattle.btsnoop_rules.specs.Drops.{drops_between}
use Rattle.capture_time.specs.Time.{reading}
use Rattle.radiotap_rules.specs.Reading as Radiotap
use Rattle.radiotap_rules.specs.Reading.{fixed_header, presence_words, meaning, fields_of}
use Rattle.le_rules.specs.Reading.{values_in, reading_of}
use Rattle.proved_set.specs.ProvedSet.{Shown}

pub shown : Shown
unfolding number number_at signed part header_judged header_at numbers_at record_judged record_at file_walk file_at drops_between reading Radiotap.reading fixed_header presence_words meaning fields_of values_in reading_of
shown = refl
