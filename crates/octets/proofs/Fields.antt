-- Numbers that stand at a place of an input, by the octets from there on: what is read, and what follows.
-- Assumes nothing.
use Prim.Native.Nat.{ℕ, zero, suc, ◌+◌, ◌^◌, ◌≤◌, ◌<◌}
use mathlib.Core.Path.{◌≡◌, refl, sym, ap, ◌∙◌}
use mathlib.Core.List.{List, ◌++◌}
use native.Mathlib.Omega.{arith}
use native.Mathlib.Nat.{add-zero}
use lib.ListN.{length, take, drop, take-append-drop}
use lib.Seq.{take_at, drop_at, drop-drop}
use Rattle.octets.specs.Numbers.{Order, number, octets_of, octets_after, octets_at, number_at, Octets}
use Rattle.octets.specs.Parts.{part}
use Rattle.octets.proofs.Laws.{read_after_write, write_after_read, range, written, octets_after_lem}
use Rattle.octets.proofs.PartLaws.{octets-part}

-- the octets of a number are as many as the width says
pub length-octets_of : (o : Order) (w n : ℕ) → length (octets_of o w n) ≡ w
length-octets_of o w n = (written o w n).long

length_after : (s : List ℕ) (at after n : ℕ) → length (octets_after s at after n) ≡ n
length_after s at after zero = refl
length_after s at after (suc n) = ap suc (length_after s at (suc after) n)

-- behind octets that stand at a place is what follows them
pub past : (s : List ℕ) (p q : ℕ) (xs after : List ℕ) → p + length xs ≡ q → drop p s ≡ xs ++ after → drop q s ≡ after
past s p q xs after at e =
    ap (λ (k : ℕ). drop k s) (sym at)
    ∙ sym (drop-drop (length xs) p s)
    ∙ ap (drop (length xs)) e
    ∙ drop_at xs after (length xs) refl

module _ (s : List ℕ) (p w q : ℕ) (at : p + w ≡ q) (inside : q ≤ length s) where
  here : octets_at s p w ≡ take w (drop p s)
  unfolding part
  here = octets-part s p 0 w (omega arith) ∙ rw add-zero

  rest : drop w (drop p s) ≡ drop q s
  rest = drop-drop w p s ∙ ap (λ (k : ℕ). drop k s) at

  -- the octets at a place stand before the others
  pub octets-front : drop p s ≡ octets_at s p w ++ drop q s
  octets-front = sym (take-append-drop w (drop p s)) ∙ rw (here, rest)

  -- and so do the octets of the number that they make, which fits its width
  pub number_back : (order : Order) → Octets s
      → (drop p s ≡ octets_of order w (number_at order w s p) ++ drop q s) × (number_at order w s p < 256 ^ w)
  unfolding number_at
  number_back order o =
      let xs : List ℕ = octets_at s p w in
      let ho : Octets xs = octets_after_lem s p 0 w o in
      let back : octets_of order w (number order xs) ≡ xs = rw (length_after s p 0 w) at (write_after_read order xs ho) in
      (octets-front ∙ ap (λ (l : List ℕ). l ++ drop q s) (sym back), rw (length_after s p 0 w) at (range order xs ho))

  -- a number whose octets stand at a place is read there, and what follows them is the rest
  pub number_read : (order : Order) (n : ℕ) (after : List ℕ) → n < 256 ^ w → drop p s ≡ octets_of order w n ++ after
      → (number_at order w s p ≡ n) × (drop q s ≡ after)
  unfolding number_at
  number_read order n after h e =
      let xs : List ℕ = octets_of order w n in
      let long : length xs ≡ w = length-octets_of order w n in (
        ap (number order) (here ∙ ap (take w) e ∙ take_at xs after w long) ∙ read_after_write order w n h,
        past s p q xs after (rw long at) e,
      )
