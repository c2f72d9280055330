-- What a case of a write answers, with what the output then holds.
-- Assumes nothing.
use Prim.Native.Nat.{ℕ}
use mathlib.Core.Path.{◌≡◌, ap}
use mathlib.Core.List.{List}
use lib.ListN.{length}
use Rattle.refusals.specs.Refusals.{Answer, after_write}
use Rattle.octets.specs.Parts.{splice}
use Rattle.le_rules.specs.declared.Values.{Values}
use Rattle.le_rules.specs.Writing.{octets_for, writing, written}
use Rattle.le_rules.specs.Orders.{Writes}
use Rattle.le_rules.proofs.Orders.{writing-exactly}

module _ (out : List ℕ) (at : ℕ) (v : Values) (packet : List ℕ) where
  pub outcome : (answer : Answer ℕ) → Writes (length out) at v packet answer
      → (writing (length out) at v packet ≡ answer)
      × (written out at v packet ≡ after_write answer out (splice out at (octets_for v packet)))
  unfolding written
  outcome answer case =
      let told = (writing-exactly (length out) at v packet answer).1 case in
      (told, ap (λ (x : Answer ℕ). after_write x out (splice out at (octets_for v packet))) told)
