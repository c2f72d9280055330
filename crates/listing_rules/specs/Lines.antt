-- Document 01, "The listing program": the lines that list a BTSnoop file, as octets.
use Rattle.std.specs.Prelude.{ℕ, ◌+◌, cond, List, [], ◌∷◌, ◌++◌, length, ltb}
use Rattle.refusals.specs.Refusals.{Answer, refused, given, after_write, record_place, no_room}
use Rattle.octets.specs.Parts.{splice, has_room}
use Rattle.tiling.specs.Tiling.{Placed, Walk, Ending, ended, more, broken, items, ending}
use Rattle.btsnoop_rules.specs.declared.Numbers.{Numbers}
use Rattle.btsnoop_rules.specs.Header.{version_number, header_at}
use Rattle.btsnoop_rules.specs.Record.{Record}
use Rattle.btsnoop_rules.specs.File.{file_walk}
use Rattle.capture_time.specs.Time.{CaptureTime, reading}
use Rattle.text.specs.Decimal.{decimal, signed_decimal}

-- 20: the input is above 65,536 octets
abbrev pub input_above : ℕ
input_above = 20

-- the most octets that are listed
abbrev pub most_octets : ℕ
most_octets = 65536

-- no listing has more octets: a record takes 24 octets of the input at least, and its line 192 at most
abbrev pub most_listed : ℕ
most_listed = 524288

-- the octets between fields and behind a line
abbrev pub tab : ℕ
tab = 9

abbrev pub newline : ℕ
newline = 10

-- the words that lines start with
abbrev pub file_word : List ℕ
file_word = 0x66 ∷ 0x69 ∷ 0x6c ∷ 0x65 ∷ []

abbrev pub rec_word : List ℕ
rec_word = 0x72 ∷ 0x65 ∷ 0x63 ∷ []

abbrev pub end_word : List ℕ
end_word = 0x65 ∷ 0x6e ∷ 0x64 ∷ []

abbrev pub stop_word : List ℕ
stop_word = 0x73 ∷ 0x74 ∷ 0x6f ∷ 0x70 ∷ []

-- the sign for a time that is refused, `-`
abbrev pub dash : List ℕ
dash = 0x2d ∷ []

-- fields, a tab before each, and the line's end
abbrev pub fields_of : List (List ℕ) → List ℕ
fields_of [] = newline ∷ []
fields_of (field ∷ fields) = tab ∷ (field ++ fields_of fields)

-- a line: a word and fields with tabs between them
abbrev pub line : List ℕ → List (List ℕ) → List ℕ
line word fields = word ++ fields_of fields

-- the file: its version and its datalink code
unfoldable pub file_line : (code : ℕ) → List ℕ
file_line code = line file_word (decimal version_number ∷ decimal code ∷ [])

-- a time's seconds and microseconds; one refused by 14 shows `-` twice
abbrev pub time_fields : Answer CaptureTime → List (List ℕ)
time_fields (refused n q) = dash ∷ dash ∷ []
time_fields (given t) = signed_decimal t.seconds ∷ decimal t.microseconds ∷ []

-- a record: place, original, included, flags, drops, seconds, microseconds
unfoldable pub record_line : (place : ℕ) → Numbers → List ℕ
record_line place n =
    line rec_word
    (decimal place
    ∷ decimal n.original
    ∷ decimal n.included
    ∷ decimal n.flags
    ∷ decimal n.drops
    ∷ time_fields (reading n.time))

-- a refusal: its number and place
unfoldable pub stop_line : (number place : ℕ) → List ℕ
stop_line number place = line stop_word (decimal number ∷ decimal place ∷ [])

-- the end: how many records there are
unfoldable pub end_line : (count : ℕ) → List ℕ
end_line count = line end_word (decimal count ∷ [])

-- the lines of whole records, in order
abbrev pub record_lines : List (Placed Record) → List ℕ
record_lines [] = []
record_lines (r ∷ rs) = record_line r.place r.value.numbers ++ record_lines rs

-- the last line, behind so many records. (Behind a valid header a walk over a file never ends with "more".)
abbrev pub last_line : (count : ℕ) → Ending → List ℕ
last_line count (ended q) = end_line count
last_line count (more q) = stop_line record_place q
last_line count (broken n q) = stop_line n q

-- the lines of a walk behind so many records: those of its whole records, and then the end or the refusal
abbrev pub walk_lines : (count : ℕ) → Walk Record → List ℕ
walk_lines count w = record_lines (items w) ++ last_line (count + length (items w)) (ending w)

-- a header refusal gives the stop line alone
abbrev pub lines_behind : List ℕ → Answer ℕ → List ℕ
lines_behind s (refused n q) = stop_line n q
lines_behind s (given code) = file_line code ++ walk_lines 0 (file_walk s)

-- the listing of an input: 20 first of all, then the header, the records and the last line
unfoldable pub listing : List ℕ → List ℕ
listing s = cond (ltb most_octets (length s)) (stop_line input_above most_octets) (lines_behind s (header_at s))

-- what writing the listing of an input into an output of a size answers: the place after it, or 13
unfoldable pub listing_writing : (size at : ℕ) → List ℕ → Answer ℕ
listing_writing size at s =
    cond (has_room size at (length (listing s))) (given (at + length (listing s))) (refused no_room 0)

-- what the output then holds
unfoldable pub listing_written : List ℕ → (at : ℕ) → List ℕ → List ℕ
listing_written out at s = after_write (listing_writing (length out) at s) out (splice out at (listing s))
