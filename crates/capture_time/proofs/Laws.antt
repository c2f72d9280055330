-- Reading and writing by their outcomes: one law for each.
use Prim.Native.Nat.{ℕ, suc, ◌+◌, ◌-◌, ◌*◌, ◌<◌, ◌≤◌}
use mathlib.Core.Path.{◌≡◌, refl, ap, ap₂, ◌∙◌}
use mathlib.Core.Bool.{Bool, true, false, cond}
use native.Mathlib.Omega.{arith}
use borrow.Author.Tests.{ltb-true, ltb-false, lt-ltb, le-ltb}
use lib.Dec.{ltb}
use lib.IntN.{ℤ, pos, negsuc, sub_ℕ, ◌+ℤ◌, ◌*ℤ◌, +ℤ_assoc}
use lib.Signed.{lt_z}
use mir.Syntax.{w64}
use mir.Val.{SFits}
use Rattle.std.proofs.lemmas.Bool.{or_parts}
use Rattle.twos_complement.proofs.Signs.{fits_as}
use Rattle.twos_complement.proofs.Units.{sub-down, sub-under, negative_units}
use Rattle.refusals.specs.Refusals.{refused, given}
use Rattle.capture_time.specs.Time.{inexpressible, unix_epoch, per_second, last_microsecond, signed_limit, unix_microseconds, time_of, below_range, leaves_range, reading, field_of, unwritable, writing}

-- ---- a difference and the range

-- not below −2^63
not_below : (a b : ℕ) → b ≤ a + signed_limit → (t : Bool) → ltb a b ≡ t → below_range (sub_ℕ a b) ≡ false
not_below a b h true e =
    let l : a < b = ltb-true a b e in
    ap below_range (sub-under a b l) ∙ le-ltb (signed_limit - 1) (b - suc a) (omega arith)
not_below a b h false e = ap below_range (sub-down a b (ltb-false a b e))

difference_not_below : (a b : ℕ) → b ≤ a + signed_limit → below_range (sub_ℕ a b) ≡ false
difference_not_below a b h = not_below a b h (ltb a b) refl

-- within the signed 64-bit range
fits_by : (a b : ℕ) → a < signed_limit → b ≤ a + signed_limit → (t : Bool) → ltb a b ≡ t → SFits w64 (sub_ℕ a b)
fits_by a b l h true e =
    let k : a < b = ltb-true a b e in
    fits_as (sub-under a b k) (record { sfits = omega arith })
fits_by a b l h false e = fits_as (sub-down a b (ltb-false a b e)) (record { sfits = omega arith })

pub difference_fits : (a b : ℕ) → a < signed_limit → b ≤ a + signed_limit → SFits w64 (sub_ℕ a b)
difference_fits a b l h = fits_by a b l h (ltb a b) refl

-- ---- reading

below_zero : (n : ℕ) → unix_microseconds (negsuc n) ≡ negsuc (n + unix_epoch)
below_zero n = ap negsuc e
  where
    e : suc (n + (unix_epoch - 1)) ≡ n + unix_epoch
    e = omega arith

-- the first field that is read is −(k + 1)
too_early : (k : ℕ) (field : ℤ) → lt_z field (negsuc k) ≡ true → signed_limit ≤ suc k + unix_epoch
    → below_range (unix_microseconds field) ≡ true
too_early k (pos n) t h = let z : ◌≡◌ {A = ℕ} 0 1 = cc in absurd (omega arith)
too_early k (negsuc n) t h =
    let l : k < n = ltb-true k n t in
    ap below_range (below_zero n) ∙ lt-ltb (signed_limit - 1) (n + unix_epoch) (omega arith)

late_enough : (k : ℕ) (field : ℤ) → lt_z field (negsuc k) ≡ false → k + unix_epoch < signed_limit
    → below_range (unix_microseconds field) ≡ false
late_enough k (pos n) t h = difference_not_below n unix_epoch (omega arith)
late_enough k (negsuc n) t h =
    let l : n ≤ k = ltb-false k n t in
    ap below_range (below_zero n) ∙ le-ltb (signed_limit - 1) (n + unix_epoch) (omega arith)

pub unix_fits : (k : ℕ) (field : ℤ) → SFits w64 field → lt_z field (negsuc k) ≡ false → k + unix_epoch < signed_limit
    → SFits w64 (unix_microseconds field)
unix_fits k (pos n) f t h = difference_fits n unix_epoch f.sfits (omega arith)
unix_fits k (negsuc n) f t h =
    let l : n ≤ k = ltb-false k n t in
    fits_as (below_zero n) (record { sfits = omega arith })

module _ (k : ℕ) (field : ℤ) where
  by_the_test : {b : Bool} → below_range (unix_microseconds field) ≡ b
      → reading field ≡ cond b (refused inexpressible 0) (given (time_of (unix_microseconds field)))
  unfolding reading
  by_the_test = ap (λ (b : Bool). cond b (refused inexpressible 0) (given (time_of (unix_microseconds field))))

  pub reading-refused : lt_z field (negsuc k) ≡ true → signed_limit ≤ suc k + unix_epoch
      → reading field ≡ refused inexpressible 0
  reading-refused t h = by_the_test (too_early k field t h)

  pub reading-given : lt_z field (negsuc k) ≡ false → k + unix_epoch < signed_limit
      → reading field ≡ given (time_of (unix_microseconds field))
  reading-given t h = by_the_test (late_enough k field t h)

-- ---- writing

-- −(n + 1) seconds, as microseconds
pub negative-seconds : (n : ℕ) → negsuc n *ℤ pos per_second ≡ negsuc (n * per_second + last_microsecond)
negative-seconds n = negative_units last_microsecond n

-- the field of −(n + 1) seconds: what is to be taken from C and the microseconds
pub field-negative : (n u : ℕ) → field_of (negsuc n) u ≡ sub_ℕ (unix_epoch + u) (suc n * per_second)
field-negative n u =
    +ℤ_assoc (negsuc n *ℤ pos per_second) (pos u) (pos unix_epoch)
    ∙ ap (λ (z : ℤ). z +ℤ pos (u + unix_epoch)) (negative-seconds n)
    ∙ ap₂ sub_ℕ p q
  where
    p : u + unix_epoch ≡ unix_epoch + u
    p = omega arith

    q : suc (n * per_second + last_microsecond) ≡ suc n * per_second
    q = omega arith

-- by whether the time cannot be written
module _ (s : ℤ) (u : ℕ) where
  writing_by : {b : Bool} → unwritable s u ≡ b → writing s u ≡ cond b (refused inexpressible 0) (given (field_of s u))
  unfolding writing
  writing_by = ap (λ (t : Bool). cond t (refused inexpressible 0) (given (field_of s u)))

  pub writing-refused : unwritable s u ≡ true → writing s u ≡ refused inexpressible 0
  writing-refused = writing_by

  pub writing-given : unwritable s u ≡ false → writing s u ≡ given (field_of s u)
  writing-given = writing_by

-- what does not leave the range fits
in_range : (z : ℤ) → leaves_range z ≡ false → SFits w64 z
in_range (pos n) e = let h : n ≤ signed_limit - 1 = ltb-false (signed_limit - 1) n e in record { sfits = omega arith }
in_range (negsuc n) e =
    let h : n ≤ signed_limit - 1 = ltb-false (signed_limit - 1) n (or_parts (ltb (signed_limit - 1) n) false e).0 in
    record { sfits = omega arith }

-- a time that can be written
pub writable : (s : ℤ) (u : ℕ) → unwritable s u ≡ false → (u < per_second) × SFits w64 (field_of s u)
writable s u e =
    let n = or_parts (ltb last_microsecond u) (leaves_range (field_of s u)) e in
    let h : u ≤ last_microsecond = ltb-false last_microsecond u n.0 in
    (omega arith, in_range (field_of s u) n.1)
