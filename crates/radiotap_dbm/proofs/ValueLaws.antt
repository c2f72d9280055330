-- The value of a dBm field.
-- Assumes nothing.
use Prim.Native.Nat.{ℕ, zero, suc, ◌+◌}
use mathlib.Core.Path.{◌≡◌, refl, sym, ap, ◌∙◌}
use mathlib.Core.Bool.{Bool, true, false, cond, ◌||◌}
use mathlib.Core.List.{List, [], ◌∷◌}
use native.Mathlib.Omega.{arith}
use lib.ListN.{get_or, take, drop}
use lib.Dec.{eqb}
use borrow.Author.Tests.{eqb-true}
use Rattle.octets.specs.Signed.{signed}
use Rattle.octets.specs.Parts.{part}
use Rattle.radiotap_rules.specs.Rules.{row_of}
use Rattle.radiotap_rules.specs.Table.{our_rules}
use Rattle.radiotap_rules.specs.Reading.{Field, Reading, refused_before, refused_at_field, read, reading, the_field, field_of}
use Rattle.radiotap_rules.specs.Answers.{is_dbm, dbm_value, not_dbm, dbm_of}
use Rattle.radiotap_rules.proofs.Places.{fields_inside}
use Rattle.radiotap_dbm.specs.Says.{valued_as}

-- the value of a field: signed dBm for bits 5, 6 and 10
module _ (bit octet : ℕ) where
  pub valued-dbm : is_dbm bit ≡ true → valued_as bit octet ≡ dbm_value (signed 8 octet)
  valued-dbm e = ap (λ (t : Bool). cond t (dbm_value (signed 8 octet)) not_dbm) e

  pub valued-other : is_dbm bit ≡ false → valued_as bit octet ≡ not_dbm
  valued-other e = ap (λ (t : Bool). cond t (dbm_value (signed 8 octet)) not_dbm) e

-- the first octet of a part is the octet at its place
first_octet : (s : List ℕ) (p : ℕ) → get_or (take 1 (drop p s)) 0 0 ≡ get_or s p 0
first_octet [] zero = refl
first_octet [] (suc p) = refl
first_octet (x ∷ s) zero = refl
first_octet (x ∷ s) (suc p) = first_octet s p

-- a dBm field is one octet long
dbm-size : (bit : ℕ) → is_dbm bit ≡ true → (row_of our_rules bit).size ≡ 1
dbm-size bit = go (eqb bit 5) refl (eqb bit 6) refl (eqb bit 10) refl
  where
    is : (n : ℕ) → (row_of our_rules n).size ≡ 1 → eqb bit n ≡ true → (row_of our_rules bit).size ≡ 1
    is n h e = ap (λ (k : ℕ). (row_of our_rules k).size) (eqb-true bit n e) ∙ h

    go : (a : Bool) → eqb bit 5 ≡ a → (b : Bool) → eqb bit 6 ≡ b → (c : Bool) → eqb bit 10 ≡ c → (a || b || c) ≡ true → (row_of our_rules bit).size ≡ 1
    go true e b e' c e'' h = is 5 refl e
    go false e true e' c e'' h = is 6 refl e'
    go false e false e' true e'' h = is 10 refl e''
    go false e false e' false e'' h = let z : ◌≡◌ {A = ℕ} 0 1 = cc in absurd (omega arith)

-- the value of a dBm field is that of the octet at its start
pub value_at : (edition : ℕ) (s : List ℕ) (k : ℕ) (f : Field) → field_of (reading our_rules edition s) k ≡ the_field f
    → valued_as f.bit (get_or s (f.place + 0) 0) ≡ dbm_of (the_field f)
unfolding part
value_at edition s k f = go (reading our_rules edition s) refl
  where
    valued : (octets : is_dbm f.bit ≡ true → get_or f.octets 0 0 ≡ get_or s (f.place + 0) 0) (t : Bool) → is_dbm f.bit ≡ t
        → cond t (dbm_value (signed 8 (get_or s (f.place + 0) 0))) not_dbm ≡ cond t (dbm_value (signed 8 (get_or f.octets 0 0))) not_dbm
    valued octets true e = ap (λ (n : ℕ). dbm_value (signed 8 n)) (sym (octets e))
    valued octets false e = refl

    go : (x : Reading) → reading our_rules edition s ≡ x → field_of x k ≡ the_field f → valued_as f.bit (get_or s (f.place + 0) 0) ≡ dbm_of (the_field f)
    go (refused_before n p) e h = let z : ◌≡◌ {A = ℕ} 0 1 = cc in absurd (omega arith)
    go (refused_at_field w b p) e h = let z : ◌≡◌ {A = ℕ} 0 1 = cc in absurd (omega arith)
    go (read fs ending frame) e h = valued octets (is_dbm f.bit) refl
      where
        octets : is_dbm f.bit ≡ true → get_or f.octets 0 0 ≡ get_or s (f.place + 0) 0
        octets d =
            let at : f.place ≡ f.place + 0 = omega arith in
            ap (λ (xs : List ℕ). get_or xs 0 0) ((fields_inside our_rules edition s fs ending frame refl e).lies k f ending h).octets
            ∙ ap (λ (n : ℕ). get_or (take n (drop f.place s)) 0 0) (dbm-size f.bit d)
            ∙ first_octet s f.place
            ∙ ap (λ (n : ℕ). get_or s n 0) at
