-- What holds of reading and writing a time together. The proofs stand in proofs/Claims.antt.
use Rattle.std.specs.Prelude.{ℕ, ◌*◌, ◌-◌, ◌^◌, ◌<◌, ◌≡◌, ◌↔◌, true, false, ℤ, pos, negsuc, ◌+ℤ◌, ◌*ℤ◌}
use Rattle.refusals.specs.Refusals.{refused, given}
use Rattle.capture_time.specs.Time.{inexpressible, unix_epoch, per_second, CaptureTime, at, unix_microseconds, seconds_of, microseconds_of, below_range, leaves_range, reading, unwritable, writing}

-- rounding down is exact, leaves less than a second, and is the only way to do both
pub record RoundsDown : Type 0 where
  pub exact : (d : ℤ) → seconds_of d *ℤ pos per_second +ℤ pos (microseconds_of d) ≡ d
  pub within : (d : ℤ) → microseconds_of d < per_second
  pub only-seconds : (s : ℤ) (u : ℕ) → u < per_second → seconds_of (s *ℤ pos per_second +ℤ pos u) ≡ s
  pub only-microseconds : (s : ℤ) (u : ℕ) → u < per_second → microseconds_of (s *ℤ pos per_second +ℤ pos u) ≡ u

-- reading refuses exactly when the difference is below −2^63, and writing exactly what cannot be written; both with 14, at 0
pub record Refuses : Type 0 where
  pub reads :
      (field : ℤ) (number place : ℕ)
      → (reading field ≡ refused number place)
      ↔ ((below_range (unix_microseconds field) ≡ true) × (number ≡ inexpressible) × (place ≡ 0))
  pub writes :
      (s : ℤ) (u number place : ℕ)
      → (writing s u ≡ refused number place)
      ↔ ((unwritable s u ≡ true) × (number ≡ inexpressible) × (place ≡ 0))

-- writing what was read of a signed 64-bit field gives the field back
abbrev pub WritesBack : Type 0
WritesBack =
    (field : ℤ) (t : CaptureTime) → leaves_range field ≡ false → reading field ≡ given t
    → writing t.seconds t.microseconds ≡ given field

-- reading what was written gives the time back exactly when the difference is not below −2^63, and else refuses
pub record ReadsBack : Type 0 where
  pub returns :
      (s : ℤ) (u : ℕ) (field : ℤ) → writing s u ≡ given field
      → (reading field ≡ given (at s u)) ↔ (below_range (unix_microseconds field) ≡ false)
  pub refuses :
      (s : ℤ) (u : ℕ) (field : ℤ) → writing s u ≡ given field
      → (reading field ≡ refused inexpressible 0) ↔ (below_range (unix_microseconds field) ≡ true)

-- known times: Unix time's start, a microsecond before it, 1 January 2000, and the ends of the ranges
pub record Instants : Type 0 where
  -- C in decimal, and in days
  pub constant : unix_epoch ≡ 62_168_256_000_000_000
  pub days : unix_epoch ≡ 719_540 * 86_400 * 1_000_000
  pub start : reading (pos unix_epoch) ≡ given (at (pos 0) 0)
  pub before : reading (pos (unix_epoch - 1)) ≡ given (at (negsuc 0) 999_999)
  pub year_2000 : reading (pos 0x00E03AB44A676000) ≡ given (at (pos 946_684_800) 0)
  pub field_0 : reading (pos 0) ≡ given (at (negsuc 62_168_255_999) 0)
  pub last_read : reading (pos (2 ^ 63 - 1)) ≡ given (at (pos 9_161_203_780_854) 775_807)
  pub first_read : reading (negsuc (2 ^ 63 - 1 - unix_epoch)) ≡ given (at (negsuc 9_223_372_036_854) 224_192)
  pub too_early : reading (negsuc (2 ^ 63 - unix_epoch)) ≡ refused inexpressible 0
  pub too_early_written : writing (negsuc 9_223_372_036_854) 224_191 ≡ given (negsuc (2 ^ 63 - unix_epoch))
  pub first_written : writing (negsuc 9_285_540_292_854) 224_192 ≡ given (negsuc (2 ^ 63 - 1))
  pub too_low : writing (negsuc 9_285_540_292_854) 224_191 ≡ refused inexpressible 0
  pub last_written : writing (pos 9_161_203_780_854) 775_807 ≡ given (pos (2 ^ 63 - 1))
  pub too_high : writing (pos 9_161_203_780_854) 775_808 ≡ refused inexpressible 0
  pub too_many : writing (pos 0) 1_000_000 ≡ refused inexpressible 0
