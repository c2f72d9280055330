-- A presence word over which a walk ends without a stop can be written: each set bit is a field that the edition knows.
-- Assumes nothing.
use Prim.Native.Nat.{ℕ, zero, suc, ◌+◌, ◌<◌}
use mathlib.Core.Path.{◌≡◌, refl, sym, ap, ◌∙◌, subst}
use mathlib.Core.Bool.{Bool, true, false, cond}
use mathlib.Core.Logic.{◌⊎◌, inl, inr}
use mathlib.Core.List.{List, [], ◌∷◌}
use native.Mathlib.Omega.{arith}
use native.Mathlib.Nat.{mod-eq_of_lt}
use Rattle.radiotap_rules.specs.Rules.{Rules}
use Rattle.radiotap_rules.specs.Reading.{fixed_length, bit_set, word_bits, bit_at, row_number, Meaning, nothing, unknown_here, field, meaning, Field, ended, stopped, Walk, refused_at, shown, with_field, on_meaning, fields_from, fields_of}
use Rattle.radiotap_rules.specs.Writing.{is_field, writable_at, writable_from, writable}
use Rattle.radiotap_rules.proofs.Meanings.{present-alone, MeansSo, means_so}
use Rattle.radiotap_rules.proofs.Walks.{field_at, on_field_lem}

-- a walk that ends without a stop or a refusal
abbrev Unstopped : Walk → Type 0
Unstopped (refused_at w b p) = ⊥
Unstopped (shown fs ended) = Unit {0}
Unstopped (shown fs (stopped w b)) = ⊥

unstopped_behind : (f : Field) (x : Walk) → Unstopped (with_field f x) → Unstopped x
unstopped_behind f (refused_at w b p) h = h
unstopped_behind f (shown fs ended) h = h
unstopped_behind f (shown fs (stopped w b)) h = h

module _ (rules : Rules) (edition : ℕ) (s : List ℕ) (size word : ℕ) (clear29 : bit_set word 29 ≡ false) (clear31 : bit_set word 31 ≡ false) where
  -- a set bit means something
  set_something : (q : ℕ) → q < word_bits → bit_set word q ≡ true → meaning rules edition (word ∷ []) q ≡ nothing → ⊥
  set_something q inside set e =
      go
      (subst (MeansSo rules edition (word ∷ []) q (row_number (word ∷ []) q)) e (means_so rules edition (word ∷ []) q)
      (present-alone word q inside ∙ set))
    where
      clear : (n : ℕ) → bit_at q ≡ n → bit_set word n ≡ false → ⊥
      clear n same unset =
          let there : q ≡ n = sym (mod-eq_of_lt inside) ∙ same in
          let z : ◌≡◌ {A = ℕ} 0 1 = cc (set, unset, ap (bit_set word) there) in
          omega arith

      go : (bit_at q ≡ 29) ⊎ (bit_at q ≡ 31) → ⊥
      go (inl e) = clear 29 e clear29
      go (inr e) = clear 31 e clear31

  -- a position at which an unstopped walk stands can be written, and the walk behind it is unstopped too
  unstopped_here : (q at : ℕ) → q < word_bits → (rest : ℕ → Walk) (m : Meaning) → meaning rules edition (word ∷ []) q ≡ m
      → Unstopped (on_meaning s size q at rest m) → writable_at rules edition word q ≡ true
  unstopped_here q at inside rest m = go (bit_set word q) refl m
    where
      go : (t : Bool) → bit_set word q ≡ t → (m : Meaning) → meaning rules edition (word ∷ []) q ≡ m
          → Unstopped (on_meaning s size q at rest m) → cond t (is_field (meaning rules edition (word ∷ []) q)) true ≡ true
      go true set nothing e h = absurd (set_something q inside set e)
      go true set unknown_here e h = absurd h
      go true set (field r) e h = ap is_field e
      go false set m e h = refl

  unstopped_next : (q at : ℕ) (rest : ℕ → Walk) (m : Meaning) {P : Type 0} → ((at : ℕ) → Unstopped (rest at) → P)
      → Unstopped (on_meaning s size q at rest m) → P
  unstopped_next q at rest nothing next = next at
  unstopped_next q at rest unknown_here next = λ h. absurd h
  unstopped_next q at rest (field r) {P} next =
      on_field_lem s size q at r (λ on. Unstopped (on rest) → P)
      (λ place fits h. next (place + r.size) (unstopped_behind (field_at s q place r.size) (rest (place + r.size)) h))
      (λ place h. absurd h)

  unstopped_writable : (left q at : ℕ) → q + left ≡ word_bits → Unstopped (fields_from rules edition s size (word ∷ []) left q at)
      → writable_from rules edition word left q ≡ true
  unstopped_writable zero q at count h = refl
  unstopped_writable (suc left) q at count h =
      let rest : ℕ → Walk = fields_from rules edition s size (word ∷ []) left (suc q) in
      let m : Meaning = meaning rules edition (word ∷ []) q in
      let here : writable_at rules edition word q ≡ true = unstopped_here q at (omega arith) rest m refl h in
      let behind : writable_from rules edition word left (suc q) ≡ true =
      unstopped_next q at rest m (λ at h. unstopped_writable left (suc q) at (omega arith) h) h in
      rw (here, behind)

-- a word with bits 29 and 31 clear, over which a walk ends without a stop or a refusal, can be written
pub walk-writable : (rules : Rules) (edition : ℕ) (s : List ℕ) (size word : ℕ) (fs : List Field) → bit_set word 29 ≡ false
    → bit_set word 31 ≡ false → fields_of rules edition s size (word ∷ []) ≡ shown fs ended → writable rules edition word ≡ true
unfolding fields_of writable
walk-writable rules edition s size word fs clear29 clear31 e =
    unstopped_writable rules edition s size word clear29 clear31 word_bits 0 fixed_length refl (subst Unstopped (sym e) tt)
