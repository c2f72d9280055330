-- The listings of the proved set's files: with each number's digits, both sides of the one statement compute to the same list.
-- Assumes nothing.
use Prim.Native.Nat.{ℕ}
use native.Mathlib.Omega.{arith}
use mathlib.Core.Path.{◌≡◌, refl, sym}
use Rattle.octets.specs.Numbers.{number, number_at}
use Rattle.octets.specs.Signed.{signed}
use Rattle.octets.specs.Parts.{part}
use Rattle.btsnoop_rules.specs.Header.{header_judged, header_at}
use Rattle.btsnoop_rules.specs.Record.{numbers_at, record_judged, record_at}
use Rattle.btsnoop_rules.specs.File.{file_walk}
use Rattle.capture_time.specs.Time.{reading}
use Rattle.io.specs.Digits.{last_digits, IsDigitCount}
use Rattle.text.specs.Decimal.{decimal, signed_decimal}
use Rattle.text.proofs.DecimalLaws.{digits_decimal, decimal-one}
use Rattle.listing_rules.specs.Lines.{file_line, record_line, stop_line, end_line, listing}
use Rattle.listing_rules.specs.Claims.{Shown}

spelled : (n k : ℕ) → IsDigitCount 10 1 n k → decimal n ≡ last_digits 10 k n
spelled n k h = sym (digits_decimal n k h)

pub shown : Shown
unfolding number number_at signed part header_judged header_at numbers_at record_judged record_at file_walk reading signed_decimal file_line record_line stop_line end_line listing
shown =
    rw (
      spelled 1002 4 (omega arith, omega arith, λ _. omega arith),
      spelled 946684800 9 (omega arith, omega arith, λ _. omega arith),
      spelled 999999 6 (omega arith, omega arith, λ _. omega arith),
      spelled 16 2 (omega arith, omega arith, λ _. omega arith),
      spelled 20 2 (omega arith, omega arith, λ _. omega arith),
      decimal-one 0 (omega arith),
      decimal-one 1 (omega arith),
      decimal-one 2 (omega arith),
      decimal-one 4 (omega arith),
      decimal-one 6 (omega arith),
      decimal-one 7 (omega arith),
    )
    refl
