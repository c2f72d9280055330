-- Parts of an input, and octets written into an output.
use Rattle.std.specs.Prelude.{ℕ, ◌+◌, List, ◌++◌, Bool, cond, length, take, drop, leb}

-- so many octets of an input from a place on
unfoldable pub part : List ℕ → ℕ → ℕ → List ℕ
part s at n = take n (drop at s)

-- an output with octets written over it from a place on, every other octet as it was
unfoldable pub splice : List ℕ → ℕ → List ℕ → List ℕ
splice out at xs = take at out ++ xs ++ drop (at + length xs) out

-- whether an output of a length has room for so many octets from a place on
abbrev pub has_room : ℕ → ℕ → ℕ → Bool
has_room size at n = leb (at + n) size

-- an output after octets were put at a place: spliced in where there is room for all, else as it was
unfoldable pub put : List ℕ → ℕ → List ℕ → List ℕ
put out at xs = cond (has_room (length out) at (length xs)) (splice out at xs) out
