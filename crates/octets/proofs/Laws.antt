-- The laws of numbers in octets, once over the width and the order.
-- Assumes nothing.
use Prim.Native.Nat.{ℕ, zero, suc, ◌+◌, ◌*◌, ◌/◌, ◌%◌, ◌^◌, ◌<◌}
use mathlib.Core.Path.{◌≡◌, refl, sym, ap, ◌∙◌}
use mathlib.Core.List.{List, [], ◌∷◌, ◌++◌, reverse, reverse_aux, reverse-reverse, reverse-append}
use native.Mathlib.Omega.{arith}
use native.Mathlib.Nat.{pow-succ'}
use lib.ListN.{length, get_or, take, drop, length-reverse}
use Rattle.octets.specs.Numbers.{Order, little, big, from_little, to_little, ordered, number, octets_of, octets_after, Octets}
use Rattle.octets.specs.Claims.{ReadAfterWrite, WriteAfterRead, Range, Written, NumberJoined}

-- what a lent slice tells of each index makes its list octets
pub all-octets : (s : List ℕ) → ((i : ℕ) → get_or s i 0 < 256) → Octets s
all-octets [] h = tt
all-octets (x ∷ xs) h = (h zero, all-octets xs (λ i. h (suc i)))

-- lists with equal heads and equal tails are equal
pub cons : {x y : ℕ} {xs ys : List ℕ} → x ≡ y → xs ≡ ys → x ∷ xs ≡ y ∷ ys
cons p q = λ i. p i ∷ q i

pub last : {x y : ℕ} → x ≡ y → x ∷ [] ≡ y ∷ []
last p = λ i. p i ∷ []

-- octets joined are octets, and so are parts of them
pub octets_append : (s t : List ℕ) → Octets s → Octets t → Octets (s ++ t)
octets_append [] t h k = k
octets_append (x ∷ s) t h k = (h.0, octets_append s t h.1 k)

pub octets-take : (n : ℕ) (s : List ℕ) → Octets s → Octets (take n s)
octets-take zero s h = tt
octets-take (suc n) [] h = tt
octets-take (suc n) (x ∷ s) h = (h.0, octets-take n s h.1)

pub octets-drop : (n : ℕ) (s : List ℕ) → Octets s → Octets (drop n s)
octets-drop zero s h = h
octets-drop (suc n) [] h = tt
octets-drop (suc n) (x ∷ s) h = octets-drop n s h.1

-- octets read one by one are octets, past the end too
pub octet_at : (s : List ℕ) (i : ℕ) → Octets s → get_or s i 0 < 256
octet_at [] i h = omega arith
octet_at (x ∷ s) zero h = h.0
octet_at (x ∷ s) (suc i) h = octet_at s i h.1

pub octets_after_lem : (s : List ℕ) (at after n : ℕ) → Octets s → Octets (octets_after s at after n)
octets_after_lem s at after zero h = tt
octets_after_lem s at after (suc n) h = (octet_at s (at + after) h, octets_after_lem s at (suc after) n h)

-- octets from a place further on are those so many octets after the first
pub octets-further : (s : List ℕ) (at further after n : ℕ)
    → octets_after s (at + further) after n ≡ octets_after s at (further + after) n
octets-further s at further after zero = refl
octets-further s at further after (suc n) =
    let same : at + further + after ≡ at + (further + after) = omega arith in
    let next : further + suc after ≡ suc (further + after) = omega arith in
    cons (ap (λ (i : ℕ). get_or s i 0) same)
    (octets-further s at further (suc after) n ∙ ap (λ (i : ℕ). octets_after s at i n) next)

octets-reverse_aux : (s r : List ℕ) → Octets s → Octets r → Octets (reverse_aux s r)
octets-reverse_aux [] r h k = k
octets-reverse_aux (x ∷ s) r h k = octets-reverse_aux s (x ∷ r) h.1 (h.0, k)

-- the order keeps octets and their count, and is its own inverse
octets-ordered : (o : Order) (s : List ℕ) → Octets s → Octets (ordered o s)
octets-ordered little s h = h
octets-ordered big s h = octets-reverse_aux s [] h tt

length-ordered : (o : Order) (s : List ℕ) → length (ordered o s) ≡ length s
length-ordered little s = refl
length-ordered big s = length-reverse s

ordered-ordered : (o : Order) (s : List ℕ) → ordered o (ordered o s) ≡ s
ordered-ordered little s = refl
ordered-ordered big s = reverse-reverse s

-- the laws with the least significant octet first
from_to : (w n : ℕ) → n < 256 ^ w → from_little (to_little w n) ≡ n
from_to zero n h = omega arith
from_to (suc w) n h =
    let shorter : n / 256 < 256 ^ w = omega (arith, pow-succ' 256 w) in
    omega (arith, from_to w (n / 256) shorter)

to_from : (s : List ℕ) → Octets s → to_little (length s) (from_little s) ≡ s
to_from [] h = refl
to_from (x ∷ s) h =
    let x<256 : x < 256 = h.0 in
    let low : (x + 256 * from_little s) % 256 ≡ x = omega arith in
    let high : (x + 256 * from_little s) / 256 ≡ from_little s = omega arith in
    rw (low, high, to_from s h.1)

below : (s : List ℕ) → Octets s → from_little s < 256 ^ length s
below [] h = omega arith
below (x ∷ s) h =
    let x<256 : x < 256 = h.0 in
    omega (arith, below s h.1, pow-succ' 256 (length s))

length_to : (w n : ℕ) → length (to_little w n) ≡ w
length_to zero n = refl
length_to (suc w) n = ap suc (length_to w (n / 256))

octets_to : (w n : ℕ) → Octets (to_little w n)
octets_to zero n = tt
octets_to (suc w) n = (omega arith, octets_to w (n / 256))

pub read_after_write : ReadAfterWrite
unfolding number octets_of
read_after_write o w n h = ap from_little (ordered-ordered o (to_little w n)) ∙ from_to w n h

pub write_after_read : WriteAfterRead
unfolding number octets_of
write_after_read o s h =
    ap (λ (w : ℕ). ordered o (to_little w (from_little (ordered o s)))) (sym (length-ordered o s))
    ∙ ap (ordered o) (to_from (ordered o s) (octets-ordered o s h))
    ∙ ordered-ordered o s

pub range : Range
unfolding number
range o s h = rw (← length-ordered o s) (below (ordered o s) (octets-ordered o s h))

pub written : Written
unfolding octets_of
written o w n =
    record {
      long = length-ordered o (to_little w n) ∙ length_to w n;
      octets = octets-ordered o (to_little w n) (octets_to w n);
    }

-- low octets stand before high ones
joined-little : (high low : List ℕ) → from_little (low ++ high) ≡ from_little high * 256 ^ length low + from_little low
joined-little high [] = omega arith
joined-little high (x ∷ low) =
    let up : from_little high * 256 ^ suc (length low) ≡ 256 * (from_little high * 256 ^ length low) = rw (pow-succ' 256 (length low)) (omega arith) in
    omega (arith, joined-little high low, up)

pub number-joined : NumberJoined
unfolding number
number-joined little high low = joined-little high low
number-joined big high low =
    ap from_little (reverse-append high low)
    ∙ joined-little (reverse high) (reverse low)
    ∙ ap (λ (k : ℕ). from_little (reverse high) * 256 ^ k + from_little (reverse low)) (length-reverse low)
