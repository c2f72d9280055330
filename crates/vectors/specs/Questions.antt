-- The stored questions: how many octets one takes (rust/README.md has the format), which are of a kind, and the room for an output.
use Rattle.std.specs.Prelude.{ℕ, ◌+◌, Bool, cond, ◌&&◌, List, length, replicate, leb}
use Rattle.octets.specs.Numbers.{big, number_at}
use Rattle.octets.specs.Parts.{put}

-- a question's number, parameters and two lengths, and then the octets of both lengths
abbrev pub whole_length : List ℕ → ℕ
whole_length s = 49 + number_at big 4 s 41 + number_at big 4 s 45

-- the question at the start of an input; 0 where no whole question stands there
unfoldable pub question_length : List ℕ → ℕ
question_length s = cond (leb 49 (length s)) (cond (leb (whole_length s) (length s)) (whole_length s) 0) 0

-- whether a question is one of those from low to high
unfoldable pub is_among : ℕ → ℕ → ℕ → Bool
is_among low high op = leb low op && leb op high

-- the room for an output: the octets that stand there before the writing, then zeros; only zeros where they are too many
unfoldable pub room_of : List ℕ → List ℕ
room_of before = put (replicate 512 0) 0 before
