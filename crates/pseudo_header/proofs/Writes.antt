-- Octets that are spliced into an output change only themselves.
-- Assumes nothing.
use Prim.Native.Nat.{ℕ, ◌+◌, ◌≤◌}
use mathlib.Core.List.{List}
use native.Mathlib.Omega.{arith}
use lib.ListN.{length}
use Rattle.octets.specs.Parts.{splice}
use Rattle.octets.proofs.PartLaws.{length-splice, splice-before, splice-behind}
use Rattle.pseudo_header.specs.Writes.{WritesOnly}

pub splice-only : (out : List ℕ) (at : ℕ) (xs : List ℕ) → at + length xs ≤ length out
    → WritesOnly out at (length xs) (splice out at xs)
splice-only out at xs room =
    record {
      long = length-splice out at xs room;
      before = splice-before out at xs (omega arith);
      behind = splice-behind out at xs (omega arith);
    }
