-- Document 01, "Refusal numbers": what a refusal is, and the numbers that several formats give.
-- A definition's choice by a test is the library's `cond` of mathlib.Core.Bool.
use Rattle.std.specs.Prelude.{ℕ, List}

-- an answer: a refusal with its number and its place, or a value
pub data Answer (A : Type 0) : Type 0 where
  refused : (number place : ℕ) → Answer A
  given : A → Answer A

-- an output after a write: changed where the write is accepted, as it was where it is refused
abbrev pub after_write : Answer ℕ → List ℕ → List ℕ → List ℕ
after_write (refused n q) before written = before
after_write (given next) before written = written

-- 1: the input is shorter than the fixed header
abbrev pub short_header : ℕ
short_header = 1

-- 2: the identification octets differ
abbrev pub identification : ℕ
identification = 2

-- 3: the version is another
abbrev pub version : ℕ
version = 3

-- 4: the datalink code is not served
abbrev pub datalink : ℕ
datalink = 4

-- 5: fewer octets than a record's header remain where a record starts
abbrev pub short_record : ℕ
short_record = 5

-- 6: the included length is above the original length
abbrev pub included_length : ℕ
included_length = 6

-- 7: the packet octets run past the input, or an LE packet is too short
abbrev pub short_packet : ℕ
short_packet = 7

-- 13: the output has no room from the given place
abbrev pub no_room : ℕ
no_room = 13

-- 17: a record place is outside the part of the input where records lie
abbrev pub record_place : ℕ
record_place = 17
