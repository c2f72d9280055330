-- Document 01, "Refusal numbers", for the listing: 20 and 13 are given exactly when their conditions hold. Proofs:
-- proofs/Orders.antt.
use Rattle.std.specs.Prelude.{ℕ, ◌+◌, ◌≤◌, ◌<◌, ◌≡◌, List, length}
use Rattle.refusals.specs.Refusals.{refused, given, no_room}
use Rattle.refusals.specs.Orders.{Exactly, Otherwise}
use Rattle.btsnoop_rules.specs.Header.{header_at}
use Rattle.listing_rules.specs.Lines.{stop_line, lines_behind, listing, listing_writing}

-- 20 comes first of all: its stop line alone for an input above 65,536 octets, and otherwise what its header leads to
pub record Listed (s : List ℕ) : Type 0 where
  pub above : 65536 < length s → listing s ≡ stop_line 20 65536
  pub within : length s ≤ 65536 → listing s ≡ lines_behind s (header_at s)

abbrev pub ListedExactly : Type 0
ListedExactly = (s : List ℕ) → Listed s

-- writing a listing: 13 where the output has no room for all of it from the place on, and otherwise the place after it
abbrev pub ListingWritingExactly : Type 0
ListingWritingExactly = (size at : ℕ) (s : List ℕ)
    → Exactly (refused no_room 0) (size < at + length (listing s)) (Otherwise (given (at + length (listing s)))) (listing_writing size at s)
