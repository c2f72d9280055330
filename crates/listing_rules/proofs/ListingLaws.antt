-- Case laws of a listing and of writing it.
-- Assumes nothing.
use Prim.Native.Nat.{ℕ, ◌+◌, ◌≤◌, ◌<◌}
use mathlib.Core.Path.{◌≡◌, ap, ◌∙◌}
use mathlib.Core.Bool.{Bool, true, false, cond}
use mathlib.Core.List.{List}
use lib.ListN.{length}
use borrow.Author.Tests.{lt-ltb, le-ltb}
use Rattle.refusals.specs.Refusals.{Answer, refused, given, after_write, no_room}
use Rattle.octets.specs.Parts.{splice, has_room}
use Rattle.btsnoop_rules.specs.Header.{header_at}
use Rattle.listing_rules.specs.Lines.{input_above, most_octets, stop_line, lines_behind, listing, listing_writing, listing_written}

module _ (s : List ℕ) where
  pub listing_above : most_octets < length s → listing s ≡ stop_line input_above most_octets
  unfolding listing
  listing_above h =
      ap (λ (t : Bool). cond t (stop_line input_above most_octets) (lines_behind s (header_at s))) (lt-ltb most_octets (length s) h)

  pub listing-behind : {header : Answer ℕ} → length s ≤ most_octets → header_at s ≡ header → listing s ≡ lines_behind s header
  unfolding listing
  listing-behind h e =
      ap (λ (t : Bool). cond t (stop_line input_above most_octets) (lines_behind s (header_at s))) (le-ltb most_octets (length s) h)
      ∙ ap (lines_behind s) e

module _ (out : List ℕ) (at : ℕ) (s : List ℕ) where
  -- with room for the listing
  pub writing-room : has_room (length out) at (length (listing s)) ≡ true
      → listing_writing (length out) at s ≡ given (at + length (listing s))
  unfolding listing_writing
  writing-room e = ap (λ (t : Bool). cond t (given (at + length (listing s))) (refused no_room 0)) e

  pub written_room : has_room (length out) at (length (listing s)) ≡ true → listing_written out at s ≡ splice out at (listing s)
  unfolding listing_written
  written_room e = ap (λ (a : Answer ℕ). after_write a out (splice out at (listing s))) (writing-room e)

  -- without it
  pub writing-none : has_room (length out) at (length (listing s)) ≡ false → listing_writing (length out) at s ≡ refused no_room 0
  unfolding listing_writing
  writing-none e = ap (λ (t : Bool). cond t (given (at + length (listing s))) (refused no_room 0)) e

  pub written_none : has_room (length out) at (length (listing s)) ≡ false → listing_written out at s ≡ out
  unfolding listing_written
  written_none e = ap (λ (a : Answer ℕ). after_write a out (splice out at (listing s))) (writing-none e)
