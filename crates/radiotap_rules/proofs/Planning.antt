-- The fields of a presence word by its plan: where they lie, how long they are laid, and what a walk over the word shows.
-- Assumes nothing.
use Prim.Native.Nat.{ℕ, zero, suc, ◌+◌, ◌-◌, ◌≤◌, ◌<◌}
use mathlib.Core.Path.{◌≡◌, refl, ◌∙◌}
use mathlib.Core.Bool.{Bool, true, false, cond, ◌&&◌, and-false}
use mathlib.Core.List.{List, [], ◌∷◌}
use native.Mathlib.Omega.{arith}
use native.Mathlib.Nat.{lt-div-mul-add, div-eq_of_lt}
use lib.ListN.{length, take, drop, length-append, length-drop, length-replicate}
use lib.Seq.{length-take-le}
use lib.Dec.{leb}
use borrow.Author.Tests.{leb-true, leb-false}
use Rattle.octets.specs.Numbers.{octets_of}
use Rattle.octets.specs.Parts.{part}
use Rattle.radiotap_rules.specs.Rules.{Row, Rules, row_of, knows, table_ok}
use Rattle.radiotap_rules.specs.Reading.{fixed_length, bit_set, word_bits, word_at, bit_at, row_number, Meaning, nothing, unknown_here, field, meaning, aligned, Field, ended, stopped, Walk, refused_at, shown, with_field, on_meaning, fields_from, fields_of}
use Rattle.radiotap_rules.specs.Writing.{is_field, writable_at, writable_from, writable, Planned, with_plan, plan_from, plan, summed, laid, header_octets}
use Rattle.radiotap_rules.specs.Rewriting.{last_end}
use Rattle.radiotap_rules.proofs.TableTests.{known-aligned}
use Rattle.radiotap_rules.proofs.Meanings.{present-alone, means-clear}
use Rattle.radiotap_rules.proofs.Walks.{field_at, by_meaning}

-- something holds of the row of every planned field
abbrev pub EachRow : (Row → Type 0) → List Planned → Type 0
EachRow P [] = Unit {0}
EachRow P (p ∷ ps) = P p.row × EachRow P ps

-- every planned field has an alignment above 0
abbrev pub Aligned : List Planned → Type 0
Aligned = EachRow (λ r. 0 < r.alignment)

-- the next multiple of an alignment above 0 is not before the place
pub aligned_after : (a at : ℕ) → 0 < a → at ≤ aligned a at
aligned_after a at h = omega (arith, lt-div-mul-add {a = at + (a - 1)} {b = a} h)

module _ (rules : Rules) (edition word : ℕ) (P : Row → Type 0)
    (holds : (n : ℕ) → knows rules edition n ≡ true → P (row_of rules n)) where
  each_from : (left q : ℕ) → EachRow P (plan_from rules edition word left q)
  each_from zero q = tt
  each_from (suc left) q = go (plan_from rules edition word left (suc q)) (each_from left (suc q))
    where
      known : (k : Bool) (ps : List Planned) → knows rules edition (row_number (word ∷ []) q) ≡ k → EachRow P ps
          → EachRow P (with_plan q (cond k (field (row_of rules (row_number (word ∷ []) q))) unknown_here) ps)
      known true ps e rest = (holds (row_number (word ∷ []) q) e, rest)
      known false ps e rest = rest

      go : (ps : List Planned) → EachRow P ps → EachRow P (with_plan q (meaning rules edition (word ∷ []) q) ps)
      go ps rest =
          by_meaning (word ∷ []) q (λ meaningIn. EachRow P (with_plan q (meaningIn rules edition) ps)) rest rest
          (known (knows rules edition (row_number (word ∷ []) q)) ps refl rest)

  -- what holds of the row of every field that an edition knows holds of every planned field's
  pub each-planned : EachRow P (plan rules edition word)
  unfolding plan
  each-planned = each_from word_bits 0

-- under a table that passes the test, every planned field has an alignment above 0
planned-aligned : (rules : Rules) (edition word left q : ℕ) → table_ok rules ≡ true → Aligned (plan_from rules edition word left q)
planned-aligned rules edition word left q ok =
    each_from rules edition word (λ r. 0 < r.alignment) (λ n. known-aligned rules edition n ok) left q

pub plan-aligned : (rules : Rules) (edition word : ℕ) → table_ok rules ≡ true → Aligned (plan rules edition word)
plan-aligned rules edition word ok = each-planned rules edition word (λ r. 0 < r.alignment) (λ n. known-aligned rules edition n ok)

-- the last field ends not before the place that the fields are laid from
pub end_after : (at : ℕ) (ps : List Planned) → Aligned ps → at ≤ last_end at ps
end_after at [] h = omega arith
end_after at (p ∷ ps) h =
    omega (arith, aligned_after p.row.alignment at h.0, end_after (aligned p.row.alignment at + p.row.size) ps h.1)

-- the fields laid from a place on reach to where the last one ends
pub length-laid : (at : ℕ) (ps : List Planned) (values : List ℕ) → Aligned ps → summed ps ≤ length values
    → at + length (laid ps at values) ≡ last_end at ps
length-laid at [] values h long = omega arith
length-laid at (p ∷ ps) values h long =
    let place : ℕ = aligned p.row.alignment at in
    let size : ℕ = p.row.size in
    let after : at ≤ place = aligned_after p.row.alignment at h.0 in
    let value : length (take size values) ≡ size = length-take-le size values (omega arith) in
    let rest = length-laid (place + size) ps (drop size values) h.1 (rw length-drop (omega arith)) in
    simp (length-append, length-replicate) (omega arith)

-- the octets of a header are as many as its length says
pub length-header : (rules : Rules) (edition word : ℕ) (values : List ℕ)
    → length (header_octets rules edition word values) ≡ fixed_length + length (laid (plan rules edition word) fixed_length values)
unfolding header_octets octets_of
length-header rules edition word values = omega arith

-- with values of the summed length it ends at the last field
pub header-ends : (rules : Rules) (edition word : ℕ) (values : List ℕ) → table_ok rules ≡ true
    → length values ≡ summed (plan rules edition word)
    → length (header_octets rules edition word values) ≡ last_end fixed_length (plan rules edition word)
header-ends rules edition word values ok long =
    length-header rules edition word values
    ∙ length-laid fixed_length (plan rules edition word) values (plan-aligned rules edition word ok) (omega arith)

-- the planned fields with the octets of an input at their places
abbrev pub planned_fields : List ℕ → (at : ℕ) → List Planned → List Field
planned_fields s at [] = []
planned_fields s at (p ∷ ps) =
    record {
      word = 0;
      bit = p.bit;
      place = aligned p.row.alignment at;
      octets = part s (aligned p.row.alignment at) p.row.size;
    }
    ∷ planned_fields s (aligned p.row.alignment at + p.row.size) ps

-- a clear bit of the one presence word means nothing
pub clear-nothing : (rules : Rules) (edition word q : ℕ) → q < word_bits → bit_set word q ≡ false
    → meaning rules edition (word ∷ []) q ≡ nothing
clear-nothing rules edition word q l clear = means-clear rules edition (word ∷ []) q (present-alone word q l ∙ clear)

-- what a walk over the one presence word comes to: refused, the fields end past the length; shown to the end, they are the
-- planned fields and end inside it; stopped, some set bit is no field that the edition knows
abbrev pub WalkedTo : List ℕ → (size at : ℕ) → List Planned → (known : Bool) → Walk → Type 0
WalkedTo s size at ps known (refused_at w b p) = size < last_end at ps
WalkedTo s size at ps known (shown fs ended) = (fs ≡ planned_fields s at ps) × (last_end at ps ≤ size)
WalkedTo s size at ps known (shown fs (stopped w b)) = known ≡ false

module _ (s : List ℕ) (size q : ℕ) (here known : Bool) where
  -- one position more
  walked_past : (at : ℕ) (ps : List Planned) (x : Walk) → WalkedTo s size at ps known x → WalkedTo s size at ps (here && known) x
  walked_past at ps (refused_at w b p) h = h
  walked_past at ps (shown fs ended) h = h
  walked_past at ps (shown fs (stopped w b)) h = rw h (and-false here)

  -- a field more, which ends inside the length
  walked-field : (at : ℕ) (r : Row) (ps : List Planned) (x : Walk) → word_at q ≡ 0
      → WalkedTo s size (aligned r.alignment at + r.size) ps known x
      → WalkedTo s size at (with_plan q (field r) ps) (here && known) (with_field (field_at s q (aligned r.alignment at) r.size) x)
  walked-field at r ps (refused_at w b p) zeroth h = h
  walked-field at r ps (shown fs ended) zeroth h = (rw (zeroth, h.0), h.1)
  walked-field at r ps (shown fs (stopped w b)) zeroth h = rw h (and-false here)

  walked-meaning : (at : ℕ) (m : Meaning) (ps : List Planned) (rest : ℕ → Walk) → word_at q ≡ 0 → Aligned (with_plan q m ps)
      → (m ≡ unknown_here → here ≡ false) → at ≤ size → ((at : ℕ) → at ≤ size → WalkedTo s size at ps known (rest at))
      → WalkedTo s size at (with_plan q m ps) (here && known) (on_meaning s size q at rest m)
  walked-meaning at nothing ps rest zeroth a stops l h = walked_past at ps (rest at) (h at l)
  walked-meaning at unknown_here ps rest zeroth a stops l h = rw (stops refl)
  walked-meaning at (field r) ps rest zeroth a stops l h = go (leb next size) refl
    where
      next : ℕ
      next = aligned r.alignment at + r.size

      go : (t : Bool) → leb next size ≡ t
          → WalkedTo s size at (with_plan q (field r) ps) (here && known)
          (elim t [
            | true ↦ with_field (field_at s q (aligned r.alignment at) r.size) (rest next)
            | false ↦ refused_at (word_at q) (bit_at q) (aligned r.alignment at)
          ])
      go true e = walked-field at r ps (rest next) zeroth (h next (leb-true next size e))
      go false e = omega (arith, leb-false next size e, end_after next ps a.1)

-- what the walk from a position on comes to
walked_from : (rules : Rules) (edition : ℕ) (s : List ℕ) (size word left q at : ℕ) → table_ok rules ≡ true → q + left ≡ word_bits
    → at ≤ size
    → WalkedTo s size at (plan_from rules edition word left q) (writable_from rules edition word left q)
    (fields_from rules edition s size (word ∷ []) left q at)
walked_from rules edition s size word zero q at ok count l = (refl, l)
walked_from rules edition s size word (suc left) q at ok count l =
    let inside : q < word_bits = omega arith in
    walked-meaning s size q (writable_at rules edition word q) (writable_from rules edition word left (suc q)) at
    (meaning rules edition (word ∷ []) q) (plan_from rules edition word left (suc q))
    (fields_from rules edition s size (word ∷ []) left (suc q)) (div-eq_of_lt inside)
    (planned-aligned rules edition word (suc left) q ok) (stops inside (bit_set word q) refl) l
    (λ at l. walked_from rules edition s size word left (suc q) at ok (omega arith) l)
  where
    stops : q < word_bits → (t : Bool) → bit_set word q ≡ t → meaning rules edition (word ∷ []) q ≡ unknown_here
        → cond t (is_field (meaning rules edition (word ∷ []) q)) true ≡ false
    stops inside true e stop = rw stop
    stops inside false e stop =
        let clear = clear-nothing rules edition word q inside e in
        let z : ◌≡◌ {A = ℕ} 0 1 = cc in
        absurd (omega arith)

-- what the walk over the one presence word comes to
pub walked : (rules : Rules) (edition : ℕ) (s : List ℕ) (size word : ℕ) → table_ok rules ≡ true → fixed_length ≤ size
    → WalkedTo s size fixed_length (plan rules edition word) (writable rules edition word) (fields_of rules edition s size (word ∷ []))
unfolding plan writable fields_of
walked rules edition s size word ok = walked_from rules edition s size word word_bits 0 fixed_length ok refl
