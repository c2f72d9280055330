-- The claims of specs/Claims.antt hold.
use Prim.Native.Nat.{ℕ, ◌+◌, ◌-◌, ◌*◌, ◌/◌, ◌%◌, ◌<◌, ◌≤◌}
use mathlib.Core.Path.{◌≡◌, refl, sym, ap, ap₂, subst, ◌∙◌}
use mathlib.Core.Logic.{◌↔◌}
use mathlib.Core.Bool.{Bool, true, false, cond, ◌||◌}
use native.Mathlib.Nat.{div-add-mod'}
use native.Mathlib.Omega.{arith}
use borrow.Author.Tests.{le-ltb}
use lib.Arith.{digits_div, digits_mod}
use lib.IntN.{ℤ, pos, negsuc, ◌+ℤ◌, ◌*ℤ◌, +ℤ-neg_ℤ_cancel, -ℤ-+ℤ_cancel}
use Rattle.refusals.specs.Refusals.{refused, given}
use Rattle.capture_time.specs.Time.{inexpressible, unix_epoch, per_second, last_microsecond, CaptureTime, at, unix_microseconds, seconds_of, microseconds_of, time_of, below_range, leaves_range, reading, field_of, unwritable, writing}
use Rattle.capture_time.specs.Claims.{RoundsDown, Refuses, WritesBack, ReadsBack, Instants}
use Rattle.capture_time.proofs.Laws.{writing-given, writable}
use Rattle.capture_time.proofs.Fields.{up_from}

-- ---- rounding down

exact : (d : ℤ) → seconds_of d *ℤ pos per_second +ℤ pos (microseconds_of d) ≡ d
exact (pos n) = ap pos (div-add-mod' n per_second)
exact (negsuc n) = up_from (n / per_second) (last_microsecond - n % per_second) (omega arith) ∙ ap negsuc e
  where
    e : n / per_second * per_second + (last_microsecond - (last_microsecond - n % per_second)) ≡ n
    e = omega arith

only-seconds : (s : ℤ) (u : ℕ) → u < per_second → seconds_of (s *ℤ pos per_second +ℤ pos u) ≡ s
only-seconds (pos n) u h = ap pos (digits_div n h)
only-seconds (negsuc n) u h = ap seconds_of (up_from n u h) ∙ ap negsuc (digits_div n (omega arith))

only-microseconds : (s : ℤ) (u : ℕ) → u < per_second → microseconds_of (s *ℤ pos per_second +ℤ pos u) ≡ u
only-microseconds (pos n) u h = digits_mod n h
only-microseconds (negsuc n) u h =
    ap microseconds_of (up_from n u h) ∙ ap (λ (r : ℕ). last_microsecond - r) (digits_mod n k) ∙ e
  where
    k : last_microsecond - u < per_second
    k = omega arith

    e : last_microsecond - (last_microsecond - u) ≡ u
    e = omega arith

within : (d : ℤ) → microseconds_of d < per_second
within (pos n) = omega arith
within (negsuc n) = omega arith

pub rounds_down : RoundsDown
rounds_down =
    record { exact = exact; within = within; only-seconds = only-seconds; only-microseconds = only-microseconds }

-- ---- refusals

-- an answer that a test refuses is a refusal exactly where the test holds
refused_iff :
    {A : Type 0} (a : A) (test : Bool) (number place : ℕ)
    → (cond test (refused inexpressible 0) (given a) ≡ refused number place)
    ↔ ((test ≡ true) × (number ≡ inexpressible) × (place ≡ 0))
refused_iff a true number place = (λ e. (refl, cc, cc), λ h. cc)
refused_iff a false number place = (λ e. (cc, cc, cc), λ h. cc)

-- and is given exactly where it does not
given_iff :
    {A : Type 0} (a : A) (test : Bool)
    → (cond test (refused inexpressible 0) (given a) ≡ given a) ↔ (test ≡ false)
given_iff a true = (λ e. cc, λ e. cc)
given_iff a false = (λ e. refl, λ e. refl)

pub refuses : Refuses
unfolding reading writing
refuses =
    record {
      reads = λ field. refused_iff (time_of (unix_microseconds field)) (below_range (unix_microseconds field));
      writes = λ s u. refused_iff (field_of s u) (unwritable s u);
    }

-- ---- there and back

-- what an answer gives, and that its test failed
gives : {A : Type 0} (a b : A) (test : Bool) → cond test (refused inexpressible 0) (given a) ≡ given b
    → (test ≡ false) × (a ≡ b)
gives a b true e = (cc, cc)
gives a b false e = (refl, cc)

pub writes_back : WritesBack
unfolding reading
writes_back field t inside e =
    let g = gives (time_of d) t (below_range d) e in
    ap (λ (x : CaptureTime). writing x.seconds x.microseconds) (sym g.1)
    ∙ writing-given (seconds_of d) (microseconds_of d)
    (ap₂ ◌||◌ (le-ltb last_microsecond (microseconds_of d) few) (ap leaves_range whole ∙ inside))
    ∙ ap given whole
  where
    d : ℤ
    d = unix_microseconds field

    whole : field_of (seconds_of d) (microseconds_of d) ≡ field
    whole = ap (λ (z : ℤ). z +ℤ pos unix_epoch) (exact d) ∙ -ℤ-+ℤ_cancel field (pos unix_epoch)

    few : microseconds_of d ≤ last_microsecond
    few = let h = within d in omega arith

-- the time of a field that was written is the one that was written
time_written : (s : ℤ) (u : ℕ) (field : ℤ) → writing s u ≡ given field → time_of (unix_microseconds field) ≡ at s u
unfolding writing
time_written s u field e =
    let g = gives (field_of s u) field (unwritable s u) e in
    let k : u < per_second = (writable s u g.0).0 in
    ap (λ (z : ℤ). time_of (unix_microseconds z)) (sym g.1)
    ∙ ap time_of (+ℤ-neg_ℤ_cancel (s *ℤ pos per_second +ℤ pos u) (pos unix_epoch))
    ∙ ap₂ at (only-seconds s u k) (only-microseconds s u k)

returned :
    (s : ℤ) (u : ℕ) (field : ℤ) → writing s u ≡ given field
    → (reading field ≡ given (at s u)) ↔ (below_range (unix_microseconds field) ≡ false)
unfolding reading
returned s u field e =
    subst (λ (t : CaptureTime). (reading field ≡ given t) ↔ (below_range (unix_microseconds field) ≡ false))
    (time_written s u field e)
    (given_iff (time_of (unix_microseconds field)) (below_range (unix_microseconds field)))

pub reads_back : ReadsBack
reads_back =
    record {
      returns = returned;
      refuses =
          λ s u field e. (
            λ r. ((refuses.reads field inexpressible 0).0 r).0,
            λ b. (refuses.reads field inexpressible 0).1 (b, refl, refl),
          );
    }

-- ---- instants

pub instants : Instants
unfolding reading writing
instants =
    record {
      constant = refl;
      days = refl;
      start = refl;
      before = refl;
      year_2000 = refl;
      field_0 = refl;
      last_read = refl;
      first_read = refl;
      too_early = refl;
      too_early_written = refl;
      first_written = refl;
      too_low = refl;
      last_written = refl;
      too_high = refl;
      too_many = refl;
    }
