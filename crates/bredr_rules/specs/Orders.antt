-- Request W-206, "Refusals": each is given exactly when its condition holds and no earlier one in the order does.
-- Proofs: proofs/Orders.antt, proofs/Surveys.antt.
use Rattle.std.specs.Prelude.{ℕ, ◌+◌, ◌*◌, ◌%◌, ◌≤◌, ◌<◌, ◌≡◌, ◌↔◌, List, length, get_or}
use Rattle.refusals.specs.Refusals.{Answer, refused, given}
use Rattle.bredr_rules.specs.declared.Values.{Values}
use Rattle.bredr_rules.specs.Reading.{header_length, values_in, last_channel, Header, header_of, reading_of}
use Rattle.bredr_rules.specs.Writing.{writing}
use Rattle.bredr_rules.specs.Survey.{whole_length, channels_in, counts_of, survey_of}

-- what a reading answers and when, in the order 1, 8
pub data Reads (s : List ℕ) : Answer Header → Type 0 where
  short : length s < 22 → Reads s (refused 1 (length s))
  above : 22 ≤ length s → 78 < (values_in s).rf_channel → Reads s (refused 8 0)
  accepted : 22 ≤ length s → (values_in s).rf_channel ≤ 78 → Reads s (given (header_of (values_in s)))

abbrev pub ReadingExactly : Type 0
ReadingExactly = (s : List ℕ) (answer : Answer Header) → (reading_of s ≡ answer) ↔ Reads s answer

-- what writing answers and when, in the order 8, 13, both at place 0
pub data Writes (size at : ℕ) (v : Values) : Answer ℕ → Type 0 where
  above : 78 < v.rf_channel → Writes size at v (refused 8 0)
  full : v.rf_channel ≤ 78 → size < at + 22 → Writes size at v (refused 13 0)
  accepted : v.rf_channel ≤ 78 → at + 22 ≤ size → Writes size at v (given (at + 22))

abbrev pub WritingExactly : Type 0
WritingExactly = (size at : ℕ) (v : Values) (answer : Answer ℕ) → (writing size at v ≡ answer) ↔ Writes size at v answer

-- the first channel above 78 of a list
pub record FirstAbove (channels : List ℕ) (i : ℕ) : Type 0 where
  pub inside : i < length channels
  pub here : 78 < get_or channels i 0
  pub before : (j : ℕ) → j < i → get_or channels j 0 ≤ 78

-- what a survey answers and when, in the order 1, at the last whole multiple of 22, and 8, where the first header whose
-- channel is above 78 starts
pub data Surveys (s : List ℕ) : Answer (List ℕ) → Type 0 where
  ragged : (length s % 22 ≡ 0 → ⊥) → Surveys s (refused 1 (whole_length s))
  above : (i : ℕ) → length s % 22 ≡ 0 → FirstAbove (channels_in s) i → Surveys s (refused 8 (i * 22))
  counted : length s % 22 ≡ 0 → ((i : ℕ) → get_or (channels_in s) i 0 ≤ 78) → Surveys s (given (counts_of (channels_in s)))

abbrev pub SurveyExactly : Type 0
SurveyExactly = (s : List ℕ) (answer : Answer (List ℕ)) → (survey_of s ≡ answer) ↔ Surveys s answer
