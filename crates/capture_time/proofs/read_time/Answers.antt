-- `capture_time::read_time` meets its contract: a field is refused, or its Unix microseconds fit and give the time.
use Prim.Native.Nat.{ℕ, ◌-◌}
use mathlib.Core.Path.{◌≡◌, ap, ap₂, sym, ◌∙◌}
use native.Mathlib.Omega.{arith}
use lib.IntN.{ℤ, negsuc, ◌+ℤ◌}
use mir.Syntax.{w64}
use mir.Val.{SFits}
use mir.Facts.{to_z-of_z}
use Rattle.twos_complement.proofs.Signs.{kept}
use Rattle.refusals.specs.Refusals.{given}
use Rattle.capture_time.specs.Time.{unix_epoch, unix_microseconds, time_of}
use Rattle.capture_time.proofs.Signed.{held, held_below}
use Rattle.capture_time.proofs.Laws.{reading-refused, reading-given, unix_fits}
use Rattle.capture_time.proofs.read_time.Goals as goal

-- n + 1 is taken from the field
less : (field : ℤ) → SFits w64 field → (n : ℕ) → n ≡ unix_epoch - 1 → held field +ℤ negsuc n ≡ unix_microseconds field
less field fits n is = ap₂ (λ (z : ℤ) (m : ℕ). z +ℤ negsuc m) (to_z-of_z fits) is

pub returns-then-field-lt-EARLIEST_FIELD : goal.returns-then-field-lt-EARLIEST_FIELD
returns-then-field-lt-EARLIEST_FIELD c =
    sym (reading-refused _ c.args.field (held_below c.ranges.field _ c.if-field-lt-EARLIEST_FIELD.true) (omega arith))

pub returns-else-field-lt-EARLIEST_FIELD : goal.returns-else-field-lt-EARLIEST_FIELD
returns-else-field-lt-EARLIEST_FIELD c =
    let late = held_below c.ranges.field _ c.if-field-lt-EARLIEST_FIELD.false in
    let fits = unix_fits _ c.args.field c.ranges.field late (omega arith) in
    ap given
    (c.of.ensures ∙ ap time_of (kept (less c.args.field c.ranges.field _ (omega arith)) fits))
    ∙ sym (reading-given _ c.args.field late (omega arith))
