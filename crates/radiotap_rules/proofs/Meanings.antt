-- What each position means, by its bit: one law for each case, and all of them together.
-- Assumes nothing.
use Prim.Native.Nat.{ℕ, ◌≤◌, ◌<◌}
use mathlib.Core.Path.{◌≡◌, refl, sym, ◌∙◌, subst}
use mathlib.Core.Bool.{Bool, true, false, cond}
use mathlib.Core.Logic.{◌⊎◌, inl, inr}
use mathlib.Core.List.{List, [], ◌∷◌}
use native.Mathlib.Omega.{arith}
use native.Mathlib.Nat.{div-eq_of_lt, mod-eq_of_lt}
use native.Mathlib.Decide.{ℕ_discrete}
use lib.ListN.{get_or}
use borrow.Author.Tests.{ne_eqb}
use Rattle.radiotap_rules.specs.Rules.{Rules, row_of, knows}
use Rattle.radiotap_rules.specs.Reading.{bit_set, word_bits, word_at, bit_at, row_number, present, Meaning, nothing, unknown_here, field, meaning}

-- a position of the one presence word is present where its bit is set
pub present-alone : (word q : ℕ) → q < word_bits → present (word ∷ []) q ≡ bit_set word q
present-alone word q l = rw (div-eq_of_lt l, mod-eq_of_lt l)

both : (t : Bool) → cond t nothing nothing ≡ nothing
both true = refl
both false = refl

-- what is known of a position that means something, where its row has this number
abbrev pub MeansSo : Rules → (edition : ℕ) → (words : List ℕ) → (q n : ℕ) → Meaning → Type 0
MeansSo rules edition words q n nothing = present words q ≡ true → (bit_at q ≡ 29) ⊎ (bit_at q ≡ 31)
MeansSo rules edition words q n unknown_here =
    (present words q ≡ true) × ((bit_at q ≡ 30) ⊎ ((bit_at q ≤ 28) × (knows rules edition n ≡ false)))
MeansSo rules edition words q n (field r) =
    (present words q ≡ true) × (bit_at q ≤ 28) × (knows rules edition n ≡ true) × (r ≡ row_of rules n)

module _ (rules : Rules) (edition : ℕ) (words : List ℕ) (q : ℕ) where
  -- a clear bit means nothing
  pub means-clear : present words q ≡ false → meaning rules edition words q ≡ nothing
  unfolding meaning
  means-clear clear = rw clear

  -- bits 29 and 31 carry no field
  pub means-none : (bit_at q ≡ 29) ⊎ (bit_at q ≡ 31) → meaning rules edition words q ≡ nothing
  unfolding meaning
  means-none (inl e) = rw e (both (bit_set (get_or words (word_at q) 0) 29))
  means-none (inr e) = rw e (both (bit_set (get_or words (word_at q) 0) 31))

  -- bit 30 is a stop
  pub means_vendor : present words q ≡ true → bit_at q ≡ 30 → meaning rules edition words q ≡ unknown_here
  unfolding meaning
  means_vendor set e = rw (set, e)

  module _ (set : present words q ≡ true) (low : bit_at q ≤ 28) where
    -- another set bit is what the edition knows of its field
    pub means-bit : meaning rules edition words q
        ≡ cond (knows rules edition (row_number words q)) (field (row_of rules (row_number words q))) unknown_here
    unfolding meaning
    means-bit =
        rw (
          set,
          ne_eqb (bit_at q) 29 (λ e. omega arith),
          ne_eqb (bit_at q) 31 (λ e. omega arith),
          ne_eqb (bit_at q) 30 (λ e. omega arith),
        )

    pub means-known : knows rules edition (row_number words q) ≡ true → meaning rules edition words q ≡ field (row_of rules (row_number words q))
    means-known known = means-bit ∙ rw known

    pub means-unknown : knows rules edition (row_number words q) ≡ false → meaning rules edition words q ≡ unknown_here
    means-unknown unknown = means-bit ∙ rw unknown

  -- what is known of a position by what it means
  abbrev Known : Meaning → Type 0
  Known = MeansSo rules edition words q (row_number words q)

  pub means_so : Known (meaning rules edition words q)
  means_so = on_present (present words q) refl
    where
      known : (k : Bool) → knows rules edition (row_number words q) ≡ k → present words q ≡ true → bit_at q ≤ 28
          → Known (meaning rules edition words q)
      known true e set low = subst Known (sym (means-known set low e)) (set, low, e, refl)
      known false e set low = subst Known (sym (means-unknown set low e)) (set, inr (low, e))

      on_bit : present words q ≡ true → Dec (bit_at q ≡ 29) → Dec (bit_at q ≡ 30) → Dec (bit_at q ≡ 31)
          → Known (meaning rules edition words q)
      on_bit set (yes e) d d' = subst Known (sym (means-none (inl e))) (λ h. inl e)
      on_bit set (no n) (yes e) d' = subst Known (sym (means_vendor set e)) (set, inl e)
      on_bit set (no n) (no n') (yes e) = subst Known (sym (means-none (inr e))) (λ h. inr e)
      on_bit set (no n) (no n') (no n'') = known (knows rules edition (row_number words q)) refl set (omega arith)

      on_present : (t : Bool) → present words q ≡ t → Known (meaning rules edition words q)
      on_present true set = on_bit set (ℕ_discrete (bit_at q) 29) (ℕ_discrete (bit_at q) 30) (ℕ_discrete (bit_at q) 31)
      on_present false clear =
          subst Known (sym (means-clear clear))
          (λ set. let z : ◌≡◌ {A = ℕ} 0 1 = cc in absurd (omega arith))
