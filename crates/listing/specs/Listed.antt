-- What is written of a listing while its last line is not.
use Rattle.std.specs.Prelude.{ℕ, List, Result, Ok, Err}
use Rattle.refusals.specs.declared.Refusal.{Refusal}
use Rattle.refusals.specs.Says.{number_of}
use Rattle.listing_rules.specs.Lines.{stop_line, end_line}
use Rattle.text_lines.specs.declared.Lines.{Lines}
use Rattle.text_lines.specs.Wrote.{Wrote}

-- the last line: the end behind so many records, or a refusal
abbrev pub last_of : Result ℕ Refusal → List ℕ
last_of (Ok count) = end_line count
last_of (Err r) = stop_line (number_of r.reason) r.place

-- what was written lacks these octets of all: with them behind it, all is written
abbrev pub Lacks : (before : Lines) (all : List ℕ) (now : Lines) (rest : List ℕ) → Type 0
Lacks before all now rest =
    (after : List ℕ) (behind : ℕ) → Wrote now.output.now now.at rest after behind → Wrote before.output.now before.at all after behind
