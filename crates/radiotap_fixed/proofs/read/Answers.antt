-- `radiotap_fixed::read` meets its contract: the case laws of the fixed header, test by test.
use mathlib.Core.Path.{sym}
use Rattle.radiotap_fixed.proofs.FixedLaws.{short, other-version, below, above, inside}
use Rattle.radiotap_fixed.proofs.read.Goals as goal
use Rattle.radiotap_fixed.proofs.read.Goals.{then-size-lt-FIXED_LENGTH-via-then-size-lt-FIXED_LENGTH, then-size-lt-FIXED_LENGTH-via-else-size-lt-FIXED_LENGTH+then-s-size}

pub returns-then-s-lt-FIXED_LENGTH : goal.returns-then-s-lt-FIXED_LENGTH
returns-then-s-lt-FIXED_LENGTH c = rw c.at.ensures (sym (short c.args.s.now c.if-s-lt-FIXED_LENGTH.true))

pub returns-then-octet-ne0 : goal.returns-then-octet-ne0
returns-then-octet-ne0 c =
    rw c.at-then-octet-ne0.ensures
    (sym (other-version c.args.s.now c.if-s-lt-FIXED_LENGTH.false c.octet.ensures c.if-octet-ne0.true))

pub returns-then-size-lt-FIXED_LENGTH : goal.returns-then-size-lt-FIXED_LENGTH
returns-then-size-lt-FIXED_LENGTH c =
    let s = c.args.s.now in
    let long = c.if-s-lt-FIXED_LENGTH.false in
    let octet = c.octet.ensures in
    let version = c.if-octet-ne0.false in
    let number = c.le_at-size.ensures in
    rw c.at-then-size-lt-FIXED_LENGTH.ensures (elim c.then-size-lt-FIXED_LENGTH.branch [
      | then-size-lt-FIXED_LENGTH-via-then-size-lt-FIXED_LENGTH w ↦
          sym (below s long octet version number w.if-size-lt-FIXED_LENGTH.true)
      | then-size-lt-FIXED_LENGTH-via-else-size-lt-FIXED_LENGTH+then-s-size w ↦
          sym (above s long octet version number w.if-size-lt-FIXED_LENGTH.false w.if-s-size.true)
    ])

pub returns : goal.returns
returns c =
    let s = c.args.s.now in
    sym (inside s c.if-s-lt-FIXED_LENGTH.false c.octet.ensures c.if-octet-ne0.false
    c.le_at-size.ensures c.if-size-lt-FIXED_LENGTH.false c.if-s-size.false)
