-- Signed numbers of 64 bits as the code holds them.
use mathlib.Core.Path.{◌≡◌, ap, sym, ◌∙◌}
use mathlib.Core.Bool.{Bool}
use lib.IntN.{ℤ}
use lib.Signed.{lt_z}
use mir.Syntax.{w64}
use mir.Val.{SFits, to_z, of_z}
use mir.Facts.{to_z-of_z}

-- a number as the code holds it: written to its bits and read back
abbrev pub held : ℤ → ℤ
held z = to_z w64 (of_z w64 z)

-- a test of a number that is held
pub held_below : {x : ℤ} {b : Bool} → SFits w64 x → (z : ℤ) → lt_z (held x) z ≡ b → lt_z x z ≡ b
held_below f z t = ap (λ (y : ℤ). lt_z y z) (sym (to_z-of_z f)) ∙ t
