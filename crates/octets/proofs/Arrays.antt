-- Octets read one by one into an array.
-- Assumes nothing.
use Prim.Native.Nat.{ℕ, zero, suc, ◌+◌, ◌<◌}
use mathlib.Core.Path.{◌≡◌, refl, ap, ◌∙◌}
use mathlib.Core.Bool.{Bool, true, false}
use mathlib.Core.List.{List, [], ◌∷◌}
use native.Mathlib.Omega.{arith}
use lib.Dec.{ltb}
use borrow.Author.Tests.{ltb-true, ltb-false}
use lib.ListN.{length, get_or, set, take, drop}
use Rattle.std.proofs.lemmas.List.{get_or-take, get_or-drop, get_or-set_same, get_or-set_other}
use Rattle.octets.specs.Numbers.{octets_after}
use Rattle.octets.specs.Parts.{part}
use Rattle.octets.proofs.Laws.{cons}

-- the first so many of a list are octets of an input, from so far after a place on
abbrev pub OneByOne : (s : List ℕ) (at after n : ℕ) → List ℕ → Type 0
OneByOne s at after n xs = (i : ℕ) → i < n → get_or xs i 0 ≡ get_or s (at + (after + i)) 0

-- a list of so many of them is the octets from there on
pub octets_one_by_one : (s : List ℕ) (at after n : ℕ) (xs : List ℕ) → length xs ≡ n → OneByOne s at after n xs
    → xs ≡ octets_after s at after n
octets_one_by_one s at after zero [] long each = refl
octets_one_by_one s at after zero (x ∷ xs) long each = absurd (omega arith)
octets_one_by_one s at after (suc n) [] long each = absurd (omega arith)
octets_one_by_one s at after (suc n) (x ∷ xs) long each =
    let here : at + (after + 0) ≡ at + after = omega arith in
    cons (each 0 (omega arith) ∙ ap (λ (k : ℕ). get_or s k 0) here)
    (octets_one_by_one s at (suc after) n xs (omega arith)
    (λ i h. let there : at + (after + suc i) ≡ at + (suc after + i) = omega arith in
    each (suc i) (omega arith) ∙ ap (λ (k : ℕ). get_or s k 0) there))

-- one more of them
pub one_more : (s : List ℕ) (at n : ℕ) (xs : List ℕ) (x : ℕ) → n < length xs → OneByOne s at 0 n xs
    → x ≡ get_or s (at + n) 0 → OneByOne s at 0 (n + 1) (set xs n x)
one_more s at n xs x room each e i h = by_test (ltb i n) refl
  where
    by_test : (t : Bool) → ltb i n ≡ t → get_or (set xs n x) i 0 ≡ get_or s (at + (0 + i)) 0
    by_test true t =
        let below : i < n = ltb-true i n t in
        get_or-set_other xs n i x 0 (λ same. absurd (omega arith)) ∙ each i below
    by_test false t =
        let last : i ≡ n = let above = ltb-false i n t in omega arith in
        let place : at + n ≡ at + (0 + i) = omega arith in
        ap (λ (k : ℕ). get_or (set xs n x) k 0) last ∙ get_or-set_same xs n x 0 room ∙ e ∙ ap (λ (k : ℕ). get_or s k 0) place

-- the first so many of a part
pub of_part : (s : List ℕ) (at n : ℕ) → OneByOne s at 0 n (take n (part s at n))
unfolding part
of_part s at n i h =
    let place : at + i ≡ at + (0 + i) = omega arith in
    get_or-take n (take n (drop at s)) i 0 h ∙ get_or-take n (drop at s) i 0 h ∙ get_or-drop at s i 0
    ∙ ap (λ (k : ℕ). get_or s k 0) place
