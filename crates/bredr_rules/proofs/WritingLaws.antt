-- What a case of a write answers, with what the output then holds.
-- Assumes nothing.
use Prim.Native.Nat.{ℕ}
use mathlib.Core.Path.{◌≡◌, ap}
use mathlib.Core.List.{List}
use lib.ListN.{length}
use Rattle.refusals.specs.Refusals.{Answer, after_write}
use Rattle.octets.specs.Parts.{splice}
use Rattle.bredr_rules.specs.declared.Values.{Values}
use Rattle.bredr_rules.specs.Writing.{header_octets, writing, written}
use Rattle.bredr_rules.specs.Orders.{Writes}
use Rattle.bredr_rules.proofs.Orders.{writing-exactly}

pub outcome : (out : List ℕ) (at : ℕ) (v : Values) (answer : Answer ℕ) → Writes (length out) at v answer
    → (writing (length out) at v ≡ answer) × (written out at v ≡ after_write answer out (splice out at (header_octets v)))
unfolding written
outcome out at v answer case =
    let told = (writing-exactly (length out) at v answer).1 case in
    (told, ap (λ (x : Answer ℕ). after_write x out (splice out at (header_octets v))) told)
