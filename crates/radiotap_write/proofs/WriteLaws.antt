-- One law for each outcome of writing a header: what is answered, and what the output then holds.
-- Assumes nothing.
use Prim.Native.Nat.{ℕ, ◌+◌, ◌≤◌, ◌<◌}
use mathlib.Core.Path.{◌≡◌, refl, sym, ap, ◌∙◌}
use mathlib.Core.Bool.{true, false}
use mathlib.Core.List.{List}
use lib.ListN.{length}
use borrow.Author.Tests.{le-leb, lt-leb, eq-eqb, ne_eqb}
use Rattle.refusals.specs.Refusals.{Answer, refused, given, after_write, no_room}
use Rattle.octets.specs.Parts.{splice}
use Rattle.radiotap_rules.specs.Rules.{Rules, edition_taken, served}
use Rattle.radiotap_rules.specs.Reading.{edition_above}
use Rattle.radiotap_rules.specs.Writing.{unknown_bit, values_length, writable, plan, summed, header_octets, writing, written}

-- writing in an edition that is taken for `e`
module _ (rules : Rules) (out : List ℕ) (at edition word : ℕ) (values : List ℕ) (e : ℕ) (taken : e ≡ edition_taken rules.writing_default edition) where
  -- the answer, and what the output holds after it
  abbrev pub Outcome : Answer ℕ → List ℕ → Type 0
  Outcome answer after =
      (answer ≡ writing rules (length out) at edition word values) × (after ≡ written rules out at edition word values)

  outcome : {after : List ℕ} (answer : Answer ℕ) → writing rules (length out) at edition word values ≡ answer
      → after ≡ after_write answer out (splice out at (header_octets rules e word values)) → Outcome answer after
  unfolding written
  outcome answer told holds =
      (sym told, holds ∙ sym (rw (← taken) (ap (λ (x : Answer ℕ). after_write x out (splice out at (header_octets rules e word values))) told)))

  pub write_edition : served rules edition ≡ false → Outcome (refused edition_above 0) out
  unfolding writing
  write_edition s = outcome (refused edition_above 0) (rw s) refl

  module _ (s : served rules edition ≡ true) where
    pub write_unknown : writable rules e word ≡ false → Outcome (refused unknown_bit 0) out
    unfolding writing
    write_unknown w = outcome (refused unknown_bit 0) (rw (s, ← taken, w)) refl

    module _ (w : writable rules e word ≡ true) where
      pub write_values : (length values ≡ summed (plan rules e word) → ⊥) → Outcome (refused values_length 0) out
      unfolding writing
      write_values other = outcome (refused values_length 0) (rw (s, ← taken, w, ne_eqb _ _ other)) refl

      module _ (long : length values ≡ summed (plan rules e word)) (size : ℕ) (sized : length (header_octets rules e word values) ≡ size) where
        pub write_room : length out < at + size → Outcome (refused no_room 0) out
        unfolding writing
        write_room few = outcome (refused no_room 0) (rw (s, ← taken, w, eq-eqb _ _ long, sized, lt-leb (at + size) (length out) few)) refl

        pub write_given : {after : List ℕ} → at + size ≤ length out → after ≡ splice out at (header_octets rules e word values)
            → Outcome (given (at + size)) after
        unfolding writing
        write_given fits = outcome (given (at + size)) (rw (s, ← taken, w, eq-eqb _ _ long, sized, le-leb (at + size) (length out) fits))
