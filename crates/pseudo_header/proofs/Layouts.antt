-- Fields one behind the other: the octets of the numbers in them are the input's own; so is a field of one octet.
-- Assumes nothing.
use Prim.Native.Nat.{ℕ, ◌+◌, ◌≤◌}
use mathlib.Core.Path.{◌≡◌, refl, sym, ap, ◌∙◌}
use mathlib.Core.List.{List, [], ◌∷◌, ◌++◌, append_assoc}
use native.Mathlib.Omega.{arith}
use native.Mathlib.Nat.{add-zero}
use lib.ListN.{length, drop, get_or}
use Rattle.octets.specs.Numbers.{Order, octets_of, octets_at, number_at, Octets}
use Rattle.octets.proofs.Laws.{write_after_read, octets_after_lem}
use Rattle.octets.proofs.Fields.{number_back}
use Rattle.pseudo_header.specs.Layouts.{length_of, numbers_from, octets_in, FieldsBack}

module _ (o : Order) (s : List ℕ) (octets : Octets s) where
  -- from any place on, what is there is the octets of the numbers in the fields, and what follows them
  from_place : (ws : List ℕ) (p : ℕ) → p + length_of ws ≤ length s
      → drop p s ≡ octets_in o ws (numbers_from o ws s p) ++ drop (p + length_of ws) s
  from_place [] p l = rw add-zero
  from_place (w ∷ ws) p l =
      let this : List ℕ = octets_of o w (number_at o w s p) in
      let others : List ℕ = octets_in o ws (numbers_from o ws s (p + w)) in
      let behind : List ℕ = drop (p + (w + length_of ws)) s in
      let place : p + w + length_of ws ≡ p + (w + length_of ws) = omega arith in
      let rest : drop (p + w) s ≡ others ++ behind =
      from_place ws (p + w) (omega arith) ∙ ap (λ (k : ℕ). others ++ drop k s) place in
      (number_back s p w (p + w) refl (omega arith) o octets).0
      ∙ ap (λ (l : List ℕ). this ++ l) rest
      ∙ sym (append_assoc this others behind)

  -- a field of one octet has that octet
  pub octet_field : (p : ℕ) → octets_of o 1 (number_at o 1 s p) ≡ get_or s p 0 ∷ []
  unfolding number_at
  octet_field p =
      write_after_read o (octets_at s p 1) (octets_after_lem s p 0 1 octets) ∙ ap (λ (k : ℕ). get_or s k 0 ∷ []) (add-zero p)

pub fields_back : FieldsBack
fields_back o ws s octets l =
    let start : 0 + length_of ws ≡ length_of ws = omega arith in
    let fields : List ℕ = octets_in o ws (numbers_from o ws s 0) in
    sym (from_place o s octets ws 0 (omega arith) ∙ ap (λ (k : ℕ). fields ++ drop k s) start)
