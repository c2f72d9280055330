-- The library's reading of octets is the definition's, in either order.
-- Assumes nothing.
use Prim.Native.Nat.{ℕ, zero, suc, ◌+◌, ◌-◌, ◌*◌, ◌/◌, ◌%◌, ◌^◌}
use mathlib.Core.Path.{◌≡◌, refl, sym, ap, ◌∙◌}
use mathlib.Core.List.{List, [], ◌∷◌, ◌++◌, reverse, reverse-append}
use native.Mathlib.Omega.{arith}
use native.Mathlib.Nat.{div-div-eq-div-mul, pow-suc}
use lib.ListN.{length}
use Rattle.std.specs.Prelude.{slice_index}
use Rattle.std.specs.Int.{byte_worth, sum_through, byte_at, bytes_low_first, bytes_high_first}
use Rattle.octets.specs.Numbers.{little, big, number, to_little, octets_of}
use Rattle.octets.proofs.Laws.{cons, last, number-joined}

-- ---- the joining of octets, once over the width

-- a sum's first term taken out
from_first : (f : ℕ → ℕ) (k : ℕ) → sum_through f (suc k) ≡ f zero + sum_through (λ i. f (suc i)) k
from_first f zero = refl
from_first f (suc k) = omega (arith, from_first f k)

-- a sum of terms so many times those of another
times : (m : ℕ) (f g : ℕ → ℕ) → ((i : ℕ) → f i ≡ m * g i) → (k : ℕ) → sum_through f k ≡ m * sum_through g k
times m f g e zero = e zero
times m f g e (suc k) = rw (times m f g e k) (rw (e (suc k)) (omega arith))

-- an octet one place higher is worth 256 times as much
higher : (i x : ℕ) → byte_worth (suc i) x ≡ 256 * byte_worth i x
higher zero x = omega arith
higher (suc i) x = rw (pow-suc 256 (suc i)) (omega arith)

-- octets joined by what each is worth at its place are their number, the least significant first
pub joined_little : (xs : List ℕ) (k : ℕ) → length xs ≡ suc k
    → sum_through (λ i. byte_worth i (slice_index xs i)) k ≡ number little xs
unfolding number
joined_little [] k l = absurd (omega arith)
joined_little (x ∷ []) zero l = omega arith
joined_little (x ∷ y ∷ xs) zero l = absurd (omega arith)
joined_little (x ∷ xs) (suc k) l =
    let rest : sum_through (λ i. byte_worth (suc i) (slice_index xs i)) k ≡ 256 * sum_through (λ i. byte_worth i (slice_index xs i)) k =
    times 256 (λ i. byte_worth (suc i) (slice_index xs i)) (λ i. byte_worth i (slice_index xs i)) (λ i. higher i (slice_index xs i)) k in
    from_first (λ i. byte_worth i (slice_index (x ∷ xs) i)) k
    ∙ ap (λ (n : ℕ). x + n) (rest ∙ ap (λ (n : ℕ). 256 * n) (joined_little xs k (omega arith)))

-- or the most significant first
pub joined_big : (xs : List ℕ) (k : ℕ) → length xs ≡ suc k
    → sum_through (λ i. byte_worth (k - i) (slice_index xs i)) k ≡ number big xs
unfolding number
joined_big [] k l = absurd (omega arith)
joined_big (x ∷ []) zero l = omega arith
joined_big (x ∷ y ∷ xs) zero l = absurd (omega arith)
joined_big (x ∷ xs) (suc k) l =
    let fewer : (i : ℕ) → suc k - suc i ≡ k - i = λ i. omega arith in
    let same : (i : ℕ) → byte_worth (suc k - suc i) (slice_index xs i) ≡ 1 * byte_worth (k - i) (slice_index xs i) =
    λ i. ap (λ (j : ℕ). byte_worth j (slice_index xs i)) (fewer i) ∙ omega arith in
    let rest : sum_through (λ i. byte_worth (suc k - suc i) (slice_index xs i)) k ≡ 1 * sum_through (λ i. byte_worth (k - i) (slice_index xs i)) k =
    times 1 (λ i. byte_worth (suc k - suc i) (slice_index xs i)) (λ i. byte_worth (k - i) (slice_index xs i)) same k in
    let long : length xs ≡ suc k = omega arith in
    let all = from_first (λ i. byte_worth (suc k - i) (slice_index (x ∷ xs) i)) k in
    let parts = number-joined big (x ∷ []) xs in
    let low = joined_big xs k long in
    let power : 256 ^ length xs ≡ 256 ^ suc k = ap (λ (j : ℕ). 256 ^ j) long in
    let whole : suc k - 0 ≡ suc k = omega arith in
    let first : byte_worth (suc k - 0) x ≡ x * 256 ^ suc k = ap (λ (j : ℕ). byte_worth j x) whole in
    let others : sum_through (λ i. byte_worth (suc k - suc i) (slice_index xs i)) k ≡ number big xs = rest ∙ omega (arith, low) in
    all ∙ (λ i. first i + others i) ∙ sym (parts ∙ rw power (omega arith))

-- ---- and so is its writing, once over the width

-- an octet of a number, by its place from the lowest
octet_at : (i n : ℕ) → byte_at i n ≡ n / 256 ^ i % 256
octet_at zero n = omega arith
octet_at (suc i) n = refl

further : (i n : ℕ) {m : ℕ} → m ≡ n / 256 ^ i → m / 256 ≡ n / 256 ^ suc i
further i n e = ap (λ (k : ℕ). k / 256) e ∙ div-div-eq-div-mul n (256 ^ i) 256 ∙ ap (λ (k : ℕ). n / k) (sym (pow-suc 256 i))

low_first : (i k n : ℕ) {m : ℕ} → m ≡ n / 256 ^ i → bytes_low_first i k n ≡ to_little k m
low_first i zero n e = refl
low_first i (suc k) n e = cons (octet_at i n ∙ ap (λ (x : ℕ). x % 256) (sym e)) (low_first (suc i) k n (further i n e))

-- the highest octet stands last
highest : (k n i : ℕ) {m : ℕ} → m ≡ n / 256 ^ i → to_little (suc k) m ≡ to_little k m ++ (byte_at (i + k) n ∷ [])
highest zero n i e =
    let here : i ≡ i + 0 = omega arith in
    last (ap (λ (x : ℕ). x % 256) e ∙ sym (octet_at i n) ∙ ap (λ (j : ℕ). byte_at j n) here)
highest (suc k) n i {m} e =
    let place : suc i + k ≡ i + suc k = omega arith in
    ap (λ (xs : List ℕ). m % 256 ∷ xs)
    (highest k n (suc i) (further i n e) ∙ ap (λ (j : ℕ). to_little k (m / 256) ++ (byte_at j n ∷ [])) place)

high_first : (k n : ℕ) → bytes_high_first k n ≡ reverse (to_little k n)
high_first zero n = refl
high_first (suc k) n =
    let place : 0 + k ≡ k = omega arith in
    let split : to_little (suc k) n ≡ to_little k n ++ (byte_at k n ∷ []) =
    highest k n 0 (omega arith) ∙ ap (λ (j : ℕ). to_little k n ++ (byte_at j n ∷ [])) place in
    ap (λ (xs : List ℕ). byte_at k n ∷ xs) (high_first k n)
    ∙ sym (ap reverse split ∙ reverse-append (to_little k n) (byte_at k n ∷ []))

pub written_little : (k n : ℕ) → bytes_low_first 0 k n ≡ octets_of little k n
unfolding octets_of
written_little k n = low_first 0 k n (omega arith)

pub written_big : (k n : ℕ) → bytes_high_first k n ≡ octets_of big k n
unfolding octets_of
written_big k n = high_first k n
