-- Request W-206: the survey over headers laid end to end.
use Rattle.std.specs.Prelude.{ℕ, zero, suc, ◌+◌, ◌*◌, ◌/◌, ◌%◌, cond, List, [], ◌∷◌, length, drop, eqb}
use Rattle.refusals.specs.Refusals.{Answer, refused, given, short_header}
use Rattle.bredr_rules.specs.declared.Values.{Values}
use Rattle.bredr_rules.specs.Reading.{rf_channel, header_length, values_in, last_channel, channel_test}

-- how many whole headers an input has, and where the last of them ends
abbrev pub headers_in : List ℕ → ℕ
headers_in s = length s / header_length

abbrev pub whole_length : List ℕ → ℕ
whole_length s = headers_in s * header_length

-- the channels that so many headers name, the first of which starts at a place
abbrev pub channels_from : List ℕ → (at number : ℕ) → List ℕ
channels_from s at zero = []
channels_from s at (suc n) = (values_in (drop at s)).rf_channel ∷ channels_from s (at + header_length) n

abbrev pub channels_in : List ℕ → List ℕ
channels_in s = channels_from s 0 (headers_in s)

-- how many of a list of channels are this one
abbrev pub naming : (channel : ℕ) → List ℕ → ℕ
naming channel [] = 0
naming channel (c ∷ cs) = cond (eqb c channel) 1 0 + naming channel cs

-- the counts of so many channels from one on, and of all, 0 to 78
abbrev pub counts_from : (channel number : ℕ) → List ℕ → List ℕ
counts_from channel zero cs = []
counts_from channel (suc n) cs = naming channel cs ∷ counts_from (suc channel) n cs

unfoldable pub counts_of : List ℕ → List ℕ
counts_of cs = counts_from 0 (suc last_channel) cs

-- channels judged header by header, the first of which starts at a place: what is given where all are in range, or the
-- refusal of the first that is not
abbrev pub judged_from : {A : Type 0} → A → (at : ℕ) → List ℕ → Answer A
judged_from a at [] = given a
judged_from a at (c ∷ cs) = cond (channel_test c) (judged_from a (at + header_length) cs) (refused rf_channel at)

-- the survey, in the order 1, 8: how many headers named each channel
unfoldable pub survey_of : List ℕ → Answer (List ℕ)
survey_of s =
    cond (eqb (length s % header_length) 0)
    (judged_from (counts_of (channels_in s)) 0 (channels_in s))
    (refused short_header (whole_length s))
