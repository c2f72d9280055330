-- A `refusals::Refusal` that a function answers with has the number of a reason with a name, unless the caller handed it in.
-- Each claim is on what the function's promise equates its answer with, and speaks of the number alone: no promise says which
-- reason of that number an answer holds. Proofs: proofs/Captures.antt, Values.antt, Radiotap.antt.
use Rattle.std.specs.Prelude.{ℕ, ◌≡◌, List, ℤ}
use Rattle.refusals.specs.Refusals.{Answer, refused}
use Rattle.tiling.specs.Tiling.{broken}
use Rattle.btsnoop_rules.specs.Header.{header_at}
use Rattle.btsnoop_rules.specs.Record.{record_at}
use Rattle.btsnoop_rules.specs.File.{survey_at, file_at}
use Rattle.btsnoop_rules.specs.Writing.{header_writing, record_writing}
use Rattle.btsnoop_earlier.specs.Earlier.{refused_in, earlier_of}
use Rattle.capture_time.specs.Time as Time
use Rattle.tally_rules.specs.declared.Tally.{Tally}
use Rattle.tally_rules.specs.declared.Entry.{Entry}
use Rattle.tally_rules.specs.Tally.{updating}
use Rattle.le_rules.specs.declared.Values as LeValues
use Rattle.le_rules.specs.Reading as Le
use Rattle.le_rules.specs.Writing as LeWriting
use Rattle.bredr_rules.specs.Reading as BrEdr
use Rattle.radiotap_rules.specs.declared.Cursor.{Cursor}
use Rattle.radiotap_rules.specs.Rules.{Rules}
use Rattle.radiotap_rules.specs.Reading.{fixed_header, reading, refused_field, field_of}
use Rattle.radiotap_rules.specs.Steps.{head_at, refused_step, step_of}
use Rattle.radiotap_rules.specs.Answers.{word_number, summary, refused_dbm, dbm_of}
use Rattle.radiotap_rules.specs.Writing as RadiotapWriting
use Rattle.radiotap_step.specs.Asked.{step_in}
use Rattle.radiotap.specs.Says.{opening}
use Rattle.radiotap_place.specs.Places.{fresh_place, answer_at, moved_on}
use Rattle.radiotap_reader.specs.Reader.{answer_after}
use Rattle.listing_rules.specs.Lines.{listing_writing}
use Rattle.refusal_numbers.specs.Named.{NamedNumber}

-- BTSnoop: a file header, a record, a survey, the check of a file, the earlier of two, the writers
pub record BtsnoopNamed : Type 0 where
  pub header : (s : List ℕ) (n q : ℕ) → header_at s ≡ refused n q → NamedNumber n
  pub one_record : (s : List ℕ) (p : ℕ) (n q : ℕ) → record_at s p ≡ refused n q → NamedNumber n
  pub survey : (s : List ℕ) (p number : ℕ) (n q : ℕ) → (survey_at s p number).ending ≡ broken n q → NamedNumber n
  pub file : (s : List ℕ) (n q : ℕ) → file_at s ≡ refused n q → NamedNumber n
  pub earlier : (first : List ℕ) (first_at : ℕ) (second : List ℕ) (second_at : ℕ) (capture n q : ℕ)
      → earlier_of first first_at second second_at ≡ refused_in capture n q → NamedNumber n
  pub writes_header : (size at code : ℕ) (n q : ℕ) → header_writing size at code ≡ refused n q → NamedNumber n
  pub writes_record : (size at original : ℕ) (packet : List ℕ) (n q : ℕ) → record_writing size at original packet ≡ refused n q → NamedNumber n

-- values of their own: a time, read and written, and a tally, updated
pub record ValuesNamed : Type 0 where
  pub reads : (field : ℤ) (n q : ℕ) → Time.reading field ≡ refused n q → NamedNumber n
  pub writes : (seconds : ℤ) (microseconds : ℕ) (n q : ℕ) → Time.writing seconds microseconds ≡ refused n q → NamedNumber n
  pub updates : (t : Tally) (e : Entry) (n q : ℕ) → updating t e ≡ refused n q → NamedNumber n

-- an LE pseudo-header, a fault of its values alone, and its writer; a BR/EDR pseudo-header
pub record PacketsNamed : Type 0 where
  pub faults : (fault : Le.Fault) → NamedNumber (Le.fault_number fault)
  pub reads : (s : List ℕ) (n q : ℕ) → Le.reading_of s ≡ refused n q → NamedNumber n
  pub writes : (size at : ℕ) (v : LeValues.Values) (packet : List ℕ) (n q : ℕ) → LeWriting.writing size at v packet ≡ refused n q → NamedNumber n
  pub reads_bredr : (s : List ℕ) (n q : ℕ) → BrEdr.reading_of s ≡ refused n q → NamedNumber n

-- Radiotap over any table: the fixed header, what stands before the fields, the same in an edition (of our own table), a presence
-- word, the whole header, a field by its number, its dBm value, a step in the edition taken and in one asked for, the writer
pub record RadiotapNamed (rules : Rules) : Type 0 where
  pub fixed : (s : List ℕ) (n q : ℕ) → fixed_header s ≡ refused n q → NamedNumber n
  pub head : (s : List ℕ) (n q : ℕ) → head_at s ≡ refused n q → NamedNumber n
  pub opened : (edition : ℕ) (s : List ℕ) (n q : ℕ) → opening edition (head_at s) ≡ refused n q → NamedNumber n
  pub word : (s : List ℕ) (k : ℕ) (n q : ℕ) → word_number s k ≡ refused n q → NamedNumber n
  pub whole : (edition : ℕ) (s : List ℕ) (n q : ℕ) → summary s (reading rules edition s) ≡ refused n q → NamedNumber n
  pub numbered : (edition : ℕ) (s : List ℕ) (k : ℕ) (n q : ℕ) → field_of (reading rules edition s) k ≡ refused_field n q → NamedNumber n
  pub dbm : (edition : ℕ) (s : List ℕ) (k : ℕ) (n q : ℕ) → dbm_of (field_of (reading rules edition s) k) ≡ refused_dbm n q → NamedNumber n
  pub step : (taken : ℕ) (s : List ℕ) (c : Cursor) (n q : ℕ) → step_of rules taken s c ≡ refused_step n q → NamedNumber n
  pub step_asked : (edition : ℕ) (s : List ℕ) (c : Cursor) (n q : ℕ) → step_in rules edition s c ≡ refused_step n q → NamedNumber n
  pub writes : (size at edition word : ℕ) (values : List ℕ) (n q : ℕ) → RadiotapWriting.writing rules size at edition word values ≡ refused n q → NamedNumber n

-- a place that is a cursor, or a refusal with a named number
abbrev pub NamedPlace : Answer Cursor → Type 0
NamedPlace place = (n q : ℕ) → place ≡ refused n q → NamedNumber n

-- a reader's places: a fresh one; from such a place what is answered there and the place moved on to; what is answered
-- after so many moves
pub record PlacesNamed (rules : Rules) (edition : ℕ) (s : List ℕ) : Type 0 where
  pub fresh : NamedPlace (fresh_place rules edition s)
  pub answered : (place : Answer Cursor) → NamedPlace place → (n q : ℕ) → answer_at rules edition s place ≡ refused_step n q → NamedNumber n
  pub moved : (place : Answer Cursor) → NamedPlace place → NamedPlace (moved_on rules edition s place)
  pub after : (moves : ℕ) (n q : ℕ) → answer_after rules edition s moves ≡ refused_step n q → NamedNumber n

-- a listing's writer
abbrev pub ListingNamed : Type 0
ListingNamed = (size at : ℕ) (s : List ℕ) (n q : ℕ) → listing_writing size at s ≡ refused n q → NamedNumber n
