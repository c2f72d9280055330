-- Case laws of the stored questions: one for each outcome of a question's length, and what stands behind it.
-- Assumes nothing.
use Prim.Native.Nat.{ℕ, ◌+◌, ◌≤◌, ◌<◌}
use native.Mathlib.Omega.{arith}
use mathlib.Core.Path.{◌≡◌, sym, ap, ◌∙◌}
use mathlib.Core.List.{List}
use lib.ListN.{length, drop}
use borrow.Author.Tests.{le-leb, lt-leb}
use Rattle.std.proofs.lemmas.List.{drop-drop}
use Rattle.octets.specs.Numbers.{big, number_at}
use Rattle.vectors.specs.Questions.{whole_length, question_length}

module _ (s : List ℕ) where
  pub no_head : length s < 49 → question_length s ≡ 0
  unfolding question_length
  no_head h = rw (lt-leb 49 (length s) h)

  pub cut : 49 ≤ length s → length s < whole_length s → question_length s ≡ 0
  unfolding question_length
  cut l h = rw (le-leb 49 (length s) l, lt-leb (whole_length s) (length s) h)

  pub whole : 49 ≤ length s → whole_length s ≤ length s → question_length s ≡ whole_length s
  unfolding question_length
  whole l h = rw (le-leb 49 (length s) l, le-leb (whole_length s) (length s) h)

  -- what is behind it, from what is behind its head and behind the octets of either length
  pub dropped : {a b : ℕ} {x y z : List ℕ} → a ≡ number_at big 4 s 41 → b ≡ number_at big 4 s 45
      → x ≡ drop 49 s → y ≡ drop a x → z ≡ drop b y → question_length s ≡ whole_length s → z ≡ drop (question_length s) s
  dropped {a} {b} ea eb ex ey ez e =
      let sum : question_length s ≡ 49 + a + b = omega (arith, e, ea, eb) in
      ez
      ∙ ap (drop b) (ey ∙ ap (drop a) ex ∙ drop-drop a 49 s)
      ∙ drop-drop b (49 + a) s
      ∙ ap (λ (n : ℕ). drop n s) (sym sum)
