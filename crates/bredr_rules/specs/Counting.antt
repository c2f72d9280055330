-- Request W-206: what an accepted survey's counts are. Proofs: proofs/Counting.antt.
use Rattle.std.specs.Prelude.{ℕ, ◌+◌, ◌*◌, ◌<◌, ◌≤◌, ◌≡◌, List, [], ◌∷◌, length, get_or}
use Rattle.refusals.specs.Refusals.{given}
use Rattle.octets.specs.Parts.{part}
use Rattle.bredr_rules.specs.Reading.{header_length, Header, reading_of}
use Rattle.bredr_rules.specs.Survey.{headers_in, channels_in, naming, survey_of}

abbrev pub sum : List ℕ → ℕ
sum [] = 0
sum (n ∷ ns) = n + sum ns

-- the header that starts a number of headers behind the input's start: the reader accepts it, and it names the channel
-- that is counted
pub record Named (s : List ℕ) (i : ℕ) : Type 0 where
  pub header : Header
  pub read : reading_of (part s (i * header_length) header_length) ≡ given header
  pub channel : header.values.rf_channel ≡ get_or (channels_in s) i 0

-- the headers fill the input; there is a count for each of the 79 channels, of the headers that named it; and the counts
-- sum to the number of headers
pub record Counted (s counts : List ℕ) : Type 0 where
  pub whole : headers_in s * header_length ≡ length s
  pub headers : length (channels_in s) ≡ headers_in s
  pub named : (i : ℕ) → i < headers_in s → Named s i
  pub long : length counts ≡ 79
  pub each : (channel : ℕ) → channel < 79 → get_or counts channel 0 ≡ naming channel (channels_in s)
  pub total : sum counts ≡ headers_in s

abbrev pub SurveyCounts : Type 0
SurveyCounts = (s counts : List ℕ) → survey_of s ≡ given counts → Counted s counts
