-- What a position means to an older and a newer edition, where the newer knows what the older one knows.
-- Assumes nothing.
use Prim.Native.Nat.{ℕ, ◌≤◌}
use mathlib.Core.Path.{◌≡◌, refl}
use mathlib.Core.Bool.{Bool, true, false, cond}
use mathlib.Core.List.{List}
use native.Mathlib.Omega.{arith}
use borrow.Author.Tests.{leb-true}
use Rattle.radiotap_rules.specs.Rules.{Row, Rules, row_of, knows, nested, table_ok, edition_taken, served}
use Rattle.radiotap_rules.specs.Reading.{row_number, Meaning, unknown_here, field, meaning}
use Rattle.radiotap_rules.proofs.TableTests.{taken-served, knows_more}
use Rattle.radiotap_rules.proofs.Walks.{by_meaning}

-- a newer edition knows what an older one knows
abbrev pub Grows : Rules → (older newer : ℕ) → Type 0
Grows rules older newer = (n : ℕ) → knows rules older n ≡ true → knows rules newer n ≡ true

-- under a table that passes the tests, what a served edition is taken for knows what an older one knows
pub served-grows : (rules : Rules) (older newer : ℕ) → table_ok rules ≡ true → nested rules ≡ true → served rules newer ≡ true
    → older ≤ edition_taken rules.reading_default newer → Grows rules older (edition_taken rules.reading_default newer)
served-grows rules older newer ok nests serves l n =
    knows_more rules older _ n nests (leb-true _ _ (taken-served rules newer ok serves).0) l

-- how what a position means to an older edition stands to what it means to a newer one
pub data Means : Meaning → Meaning → Type 0 where
  alike : {m : Meaning} → Means m m
  newly : {r : Row} → Means unknown_here (field r)

pub means : (rules : Rules) (older newer : ℕ) (words : List ℕ) (q : ℕ) → Grows rules older newer
    → Means (meaning rules older words q) (meaning rules newer words q)
means rules older newer words q grows =
    by_meaning words q (λ meaningIn. Means (meaningIn rules older) (meaningIn rules newer)) alike alike
    (known (knows rules older (row_number words q)) (knows rules newer (row_number words q)) (grows (row_number words q)))
  where
    known : (k k' : Bool) → (k ≡ true → k' ≡ true)
        → Means (cond k (field (row_of rules (row_number words q))) unknown_here) (cond k' (field (row_of rules (row_number words q))) unknown_here)
    known true true h = alike
    known true false h = let z : ◌≡◌ {A = ℕ} 0 1 = cc (h refl) in absurd (omega arith)
    known false true h = newly
    known false false h = alike
