-- Items written one after another splice their octets in, over any writer of one.
-- Assumes nothing.
use Prim.Native.Nat.{ℕ, ◌+◌, ◌≤◌}
use mathlib.Core.Path.{◌≡◌, refl, ap, ◌∙◌}
use mathlib.Core.List.{List, [], ◌∷◌, ◌++◌, append_assoc, append-nil}
use native.Mathlib.Omega.{arith}
use lib.ListN.{length, length-append}
use Rattle.octets.specs.Parts.{part, splice}
use Rattle.octets.proofs.PartLaws.{length-splice, splice-before, splice-behind, part-splice, splice-splice}
use Rattle.record_rules.specs.Outputs.{All, Output, write_all, joined, splicing, WrittenAt}

-- a splice is a write of the octets, every other octet as it was
pub splicing_written : (out : List ℕ) (at : ℕ) (xs : List ℕ) → at + length xs ≤ length out
    → WrittenAt out at (length xs) (splicing out at xs)
splicing_written out at xs h =
    record {
      answer = refl;
      long = length-splice out at xs h;
      before = splice-before out at xs (omega arith);
      after = splice-behind out at xs (omega arith);
    }

-- a writer that, given room, splices in the octets of an item that can be written
module _ {A : Type 0} (write : List ℕ → ℕ → A → Output) (octets : A → List ℕ) (Can : A → Type 0)
    (one : (out : List ℕ) (at : ℕ) (a : A) → Can a → at + length (octets a) ≤ length out → write out at a ≡ splicing out at (octets a)) where
  next_spliced : (out : List ℕ) (at : ℕ) (done : List ℕ) (a : A) → Can a → at + length (done ++ octets a) ≤ length out
      → write (splice out at done) (at + length done) a ≡ splicing out at (done ++ octets a)
  next_spliced out at done a can h =
      let sum = length-append done (octets a) in
      let long : length (splice out at done) ≡ length out = length-splice out at done (omega arith) in
      let size : at + length done + length (octets a) ≡ at + length (done ++ octets a) = omega arith in
      one (splice out at done) (at + length done) a can (omega arith)
      ∙ rw (splice-splice out at done (octets a) (omega arith), size)

  -- items, one after another
  pub all-spliced : (out : List ℕ) (at : ℕ) (done : List ℕ) (rest : List A) → All Can rest
      → at + length (done ++ joined octets rest) ≤ length out
      → write_all write (splicing out at done) rest ≡ splicing out at (done ++ joined octets rest)
  all-spliced out at done [] can h = rw (append-nil done)
  all-spliced out at done (a ∷ rest) can h =
      let regroup = append_assoc done (octets a) (joined octets rest) in
      let room : at + length (done ++ octets a ++ joined octets rest) ≤ length out = rw regroup h in
      let first : at + length (done ++ octets a) ≤ length out = omega (arith, length-append (done ++ octets a) (joined octets rest)) in
      ap (λ (o : Output). write_all write o rest) (next_spliced out at done a can.0 first)
      ∙ all-spliced out at (done ++ octets a) rest can.1 room
      ∙ ap (splicing out at) regroup

  -- a header first: where the whole stands, and its octets
  pub file-spliced : (out : List ℕ) (at : ℕ) (header : Output) (head : List ℕ) (rest : List A) (size : ℕ)
      → header ≡ splicing out at head → All Can rest → length (head ++ joined octets rest) ≡ size → at + size ≤ length out
      → WrittenAt out at size (write_all write header rest)
      × (part (write_all write header rest).octets at size ≡ head ++ joined octets rest)
  file-spliced out at header head rest size first can e h =
      let xs : List ℕ = head ++ joined octets rest in
      let w : write_all write header rest ≡ splicing out at xs =
      ap (λ (o : Output). write_all write o rest) first ∙ all-spliced out at head rest can (omega arith) in
      rw (w, ← e) (splicing_written out at xs (omega arith), part-splice out at xs (omega arith))
