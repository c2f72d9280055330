-- Document 01, "Time": the time that a record's field gives, and the field that a time gives. negsuc n is −(n + 1).
use Rattle.std.specs.Prelude.{ℕ, ◌-◌, ◌/◌, ◌%◌, ◌^◌, Bool, cond, ◌||◌, ltb, ℤ, pos, negsuc, neg_ℤ, ◌+ℤ◌, ◌-ℤ◌, ◌*ℤ◌}
use Rattle.std.specs.Int.Signed.{lt_z}
use Rattle.refusals.specs.Refusals.{Answer, refused, given}
use Rattle.capture_time.specs.declared.Time.{Time}

-- 14: a time cannot be expressed
abbrev pub inexpressible : ℕ
inexpressible = 14

-- C: the field at which Unix time starts
abbrev pub unix_epoch : ℕ
unix_epoch = 0x00DCDDB30F2F8000

-- the microseconds of a second
abbrev pub per_second : ℕ
per_second = 1_000_000

-- the most microseconds beside whole seconds
abbrev pub last_microsecond : ℕ
last_microsecond = 999_999

-- 2^63: the signed 64-bit range is from −2^63 to 2^63 − 1
abbrev pub signed_limit : ℕ
signed_limit = 2 ^ 63

-- a time: its seconds since Unix time's start, and its microseconds
abbrev pub CaptureTime : Type 0
CaptureTime = Time

-- the time of so many seconds and microseconds
abbrev pub at : ℤ → ℕ → CaptureTime
at s u = record { seconds = s; microseconds = u }

-- Unix microseconds are the field less C
abbrev pub unix_microseconds : ℤ → ℤ
unix_microseconds field = field -ℤ pos unix_epoch

-- seconds are rounded down
abbrev pub seconds_of : ℤ → ℤ
seconds_of (pos n) = pos (n / per_second)
seconds_of (negsuc n) = negsuc (n / per_second)

-- microseconds lie in 0 to 999,999
abbrev pub microseconds_of : ℤ → ℕ
microseconds_of (pos n) = n % per_second
microseconds_of (negsuc n) = last_microsecond - n % per_second

-- the time of so many Unix microseconds
abbrev pub time_of : ℤ → CaptureTime
time_of d = at (seconds_of d) (microseconds_of d)

-- whether a number is below −2^63
abbrev pub below_range : ℤ → Bool
below_range z = lt_z z (neg_ℤ (pos signed_limit))

-- whether a number is above 2^63 − 1
abbrev pub above_range : ℤ → Bool
above_range z = lt_z (pos (signed_limit - 1)) z

-- whether a number leaves the signed 64-bit range
abbrev pub leaves_range : ℤ → Bool
leaves_range z = below_range z || above_range z

-- reading refuses (14) exactly when the difference is below −2^63
unfoldable pub reading : ℤ → Answer CaptureTime
reading field =
    cond (below_range (unix_microseconds field)) (refused inexpressible 0) (given (time_of (unix_microseconds field)))

-- the field of a time, whatever its size
abbrev pub field_of : ℤ → ℕ → ℤ
field_of seconds microseconds = seconds *ℤ pos per_second +ℤ pos microseconds +ℤ pos unix_epoch

-- whether a time cannot be written: microseconds exceed 999,999 or the field leaves the signed 64-bit range
abbrev pub unwritable : ℤ → ℕ → Bool
unwritable seconds microseconds = ltb last_microsecond microseconds || leaves_range (field_of seconds microseconds)

-- writing refuses (14) what cannot be written
unfoldable pub writing : ℤ → ℕ → Answer ℤ
writing seconds microseconds =
    cond (unwritable seconds microseconds) (refused inexpressible 0) (given (field_of seconds microseconds))
