-- Document 01, "Refusal numbers": an accepted write changes only the octets written.
use Rattle.std.specs.Prelude.{ℕ, ◌+◌, ◌≡◌, List, length, take, drop}

-- an output after a write of so many octets at a place: as long as before, and every other octet as it was
pub record WritesOnly (out : List ℕ) (at size : ℕ) (after : List ℕ) : Type 0 where
  pub long : length after ≡ length out
  pub before : take at after ≡ take at out
  pub behind : drop (at + size) after ≡ drop (at + size) out
