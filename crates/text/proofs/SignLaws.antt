-- Laws of signed decimal text: the sign and then the digits are one text.
use Prim.Native.Nat.{ℕ, ◌+◌, ◌≤◌, ◌<◌}
use mathlib.Core.Path.{◌≡◌, refl, sym, ap, ◌∙◌}
use mathlib.Core.List.{List, [], ◌∷◌}
use native.Mathlib.Omega.{arith}
use lib.ListN.{length}
use borrow.Author.Tests.{ltb-true}
use mathlib.Core.Bool.{true, false}
use lib.Signed.{lt_z}
use lib.IntN.{ℤ, pos, negsuc, nat_abs}
use Rattle.octets.specs.Parts.{put, splice}
use Rattle.octets.proofs.PartLaws.{put-room, put-none, put_next}
use Rattle.text.specs.Decimal.{minus, decimal, signed_decimal}

-- the text of a number below 0, and of one that is not, as the code tests the sign
pub negative-text : (z : ℤ) → lt_z z (pos 0) ≡ true → minus ∷ decimal (nat_abs z) ≡ signed_decimal z
unfolding signed_decimal
negative-text (pos n) t = let none : n < 0 = ltb-true n 0 t in absurd (omega arith)
negative-text (negsuc n) t = refl

pub plain-text : (z : ℤ) → lt_z z (pos 0) ≡ false → decimal (nat_abs z) ≡ signed_decimal z
unfolding signed_decimal
plain-text (pos n) t = refl
plain-text (negsuc n) t = let z : ◌≡◌ {A = ℕ} 0 1 = cc in absurd (omega arith)

module _ (out : List ℕ) (at n : ℕ) where
  -- the digits put behind the sign
  pub sign_and_digits : {l m : List ℕ} → at + (length (decimal n) + 1) ≤ length out
      → l ≡ put out at (minus ∷ []) → m ≡ put l (at + 1) (decimal n) → m ≡ put out at (minus ∷ decimal n)
  sign_and_digits {l} {m} h el em =
      let sign : List ℕ = minus ∷ [] in
      let text : List ℕ = decimal n in
      let first : l ≡ splice out at sign = el ∙ put-room out at sign (omega arith) in
      em
      ∙ ap (λ (o : List ℕ). put o (at + 1) text) first
      ∙ put_next out at 1 sign refl text (omega arith)
      ∙ sym (put-room out at (minus ∷ text) (omega arith))

  -- without room for both
  pub no_sign_nor_digits : length out < at + (length (decimal n) + 1) → out ≡ put out at (minus ∷ decimal n)
  no_sign_nor_digits h = sym (put-none out at (minus ∷ decimal n) (omega arith))
