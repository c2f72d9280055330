-- The numbers of a record, and case laws of the record reader: one for each outcome.
-- Assumes nothing.
use Prim.Native.Nat.{ℕ, ◌+◌, ◌-◌, ◌≤◌, ◌<◌}
use mathlib.Core.Path.{◌≡◌}
use mathlib.Core.Logic.{◌⊎◌, inl, inr}
use mathlib.Core.List.{List}
use lib.ListN.{length}
use lib.IntN.{ℤ}
use borrow.Author.Tests.{le-leb, ne_eqb}
use native.Mathlib.Omega.{arith}
use Rattle.refusals.specs.Refusals.{refused, given, short_record, included_length, short_packet, record_place}
use Rattle.refusals.specs.Orders.{Exactly}
use Rattle.btsnoop_rules.specs.declared.Numbers.{Numbers}
use Rattle.btsnoop_rules.specs.Header.{header_length}
use Rattle.btsnoop_rules.specs.Record.{record_length, numbers_at, end, whole, record_judged, record_at}
use Rattle.btsnoop_rules.specs.Orders.{NumbersOrder}
use Rattle.btsnoop_rules.proofs.Orders.{record_judged-exactly, record_read_exactly}

-- numbers are the same where each of them is
pub numbers-same : {o o' i i' f f' d d' : ℕ} {t t' : ℤ} → o ≡ o' → i ≡ i' → f ≡ f' → d ≡ d' → t ≡ t'
    → ◌≡◌ {A = Numbers} (record { original = o; included = i; flags = f; drops = d; time = t })
    (record { original = o'; included = i'; flags = f'; drops = d'; time = t' })
numbers-same a b c d e = cc

module _ (s : List ℕ) (p : ℕ) where
  pub record_below : p < header_length → record_at s p ≡ refused record_place p
  record_below h = (record_read_exactly s p).here.1 (inl h)

  pub record_past : header_length ≤ p → length s < p → record_at s p ≡ refused record_place p
  record_past l h = (record_read_exactly s p).here.1 (inr h)

  -- the order behind 17
  abbrev Behind : Type 0
  Behind =
      Exactly (given end) (p ≡ length s)
      (Exactly (refused short_record p) (length s - p < record_length) (NumbersOrder (length s - p) p (numbers_at s p)))
      (record_at s p)

  placed : header_length ≤ p → p ≤ length s → Behind
  placed l h = (record_read_exactly s p).otherwise not_outside
    where
      not_outside : (p < header_length) ⊎ (length s < p) → ⊥
      not_outside (inl i) = omega arith
      not_outside (inr i) = omega arith

  pub record_end : header_length ≤ p → p ≡ length s → record_at s p ≡ given end
  record_end l e = (placed l (omega arith)).here.1 e

  pub record_short : header_length ≤ p → p < length s → length s - p < record_length → record_at s p ≡ refused short_record p
  record_short l h few = ((placed l (omega arith)).otherwise (λ e. omega arith)).here.1 few

  pub record_judged_lem : header_length ≤ p → p < length s → record_length ≤ length s - p
      → record_at s p ≡ record_judged (length s - p) p (numbers_at s p)
  unfolding record_at
  record_judged_lem l h enough =
      let i : p ≤ length s = omega arith in
      let other : p ≡ length s → ⊥ = λ e. omega arith in
      rw (le-leb header_length p l, le-leb p (length s) i, ne_eqb p (length s) other, le-leb record_length (length s - p) enough)

module _ (left p : ℕ) (n : Numbers) where
  pub judged_above : n.original < n.included → record_judged left p n ≡ refused included_length (p + 4)
  judged_above h = (record_judged-exactly left p n).here.1 h

  pub judged_past : n.included ≤ n.original → left < record_length + n.included → record_judged left p n ≡ refused short_packet p
  judged_past h few = ((record_judged-exactly left p n).otherwise (λ e. omega arith)).here.1 few

  pub judged-whole : n.included ≤ n.original → record_length + n.included ≤ left
      → record_judged left p n ≡ given (whole n (p + record_length) (p + record_length + n.included))
  judged-whole h enough = ((record_judged-exactly left p n).otherwise (λ e. omega arith)).otherwise (λ e. omega arith)
