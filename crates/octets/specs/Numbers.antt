-- Numbers in octets, in either order and at any width.
use Rattle.std.specs.Prelude.{ℕ, zero, suc, ◌+◌, ◌*◌, ◌/◌, ◌%◌, ◌<◌, List, [], ◌∷◌, ◌++◌, reverse, get_or}

-- the order of a number's octets: the least significant first, or the most significant first
pub data Order : Type 0 where
  little : Order
  big : Order

-- the number that octets make, the least significant first
abbrev pub from_little : List ℕ → ℕ
from_little [] = 0
from_little (x ∷ xs) = x + 256 * from_little xs

-- the octets of a number at a width in octets, the least significant first
abbrev pub to_little : ℕ → ℕ → List ℕ
to_little zero n = []
to_little (suc w) n = n % 256 ∷ to_little w (n / 256)

-- octets in an order, least significant first, and back
abbrev pub ordered : Order → List ℕ → List ℕ
ordered little xs = xs
ordered big xs = reverse xs

-- the number that octets make in an order
unfoldable pub number : Order → List ℕ → ℕ
number o xs = from_little (ordered o xs)

-- high octets and low octets of one number, joined in an order
abbrev pub joined : Order → (high low : List ℕ) → List ℕ
joined little high low = low ++ high
joined big high low = high ++ low

-- the octets of a number in an order, at a width in octets
unfoldable pub octets_of : Order → ℕ → ℕ → List ℕ
octets_of o w n = ordered o (to_little w n)

-- so many octets of an input, from the octet so far after a place on, 0 past its end
abbrev pub octets_after : List ℕ → ℕ → ℕ → ℕ → List ℕ
octets_after s at after zero = []
octets_after s at after (suc n) = get_or s (at + after) 0 ∷ octets_after s at (suc after) n

-- so many octets of an input from a place on, 0 past its end
abbrev pub octets_at : List ℕ → ℕ → ℕ → List ℕ
octets_at s at n = octets_after s at 0 n

-- the number in an order that stands at a place, at a width in octets
unfoldable pub number_at : Order → ℕ → List ℕ → ℕ → ℕ
number_at o w s at = number o (octets_at s at w)

-- every element is an octet
abbrev pub Octets : List ℕ → Type 0
Octets [] = Unit {0}
Octets (x ∷ xs) = (x < 256) × Octets xs
