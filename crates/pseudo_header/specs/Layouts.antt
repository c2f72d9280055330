-- A layout: fields one behind the other, each of a width in octets. What holds of it over any widths, in either order.
-- Proofs: proofs/Layouts.antt.
use Rattle.std.specs.Prelude.{ℕ, ◌+◌, ◌≤◌, ◌≡◌, List, [], ◌∷◌, ◌++◌, length, drop}
use Rattle.octets.specs.Numbers.{Order, octets_of, number_at, Octets}

-- how long the fields are together
abbrev pub length_of : (widths : List ℕ) → ℕ
length_of [] = 0
length_of (w ∷ ws) = w + length_of ws

-- the numbers in the fields, the first of which starts at a place
abbrev pub numbers_from : Order → (widths : List ℕ) → List ℕ → (at : ℕ) → List ℕ
numbers_from o [] s at = []
numbers_from o (w ∷ ws) s at = number_at o w s at ∷ numbers_from o ws s (at + w)

-- the octets of numbers in the fields, 0 for a number that is not there
abbrev pub octets_in : Order → (widths : List ℕ) → (numbers : List ℕ) → List ℕ
octets_in o [] ns = []
octets_in o (w ∷ ws) [] = octets_of o w 0 ++ octets_in o ws []
octets_in o (w ∷ ws) (n ∷ ns) = octets_of o w n ++ octets_in o ws ns

-- the octets of the numbers that were read, and what follows the fields, are the input
abbrev pub FieldsBack : Type 0
FieldsBack = (o : Order) (widths s : List ℕ) → Octets s → length_of widths ≤ length s
    → octets_in o widths (numbers_from o widths s 0) ++ drop (length_of widths) s ≡ s
