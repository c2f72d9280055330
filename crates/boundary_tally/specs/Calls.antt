-- Calls of zalghimo_btsnoop_tally one after another, each lent the numbers that the last left. Proof: proofs/Calls.antt.
use Rattle.std.specs.Prelude.{ℕ, ◌^◌, ◌<◌, ◌≡◌, List, [], ◌∷◌}
use Rattle.record_rules.specs.Outputs.{All}
use Rattle.tally_rules.specs.declared.Entry.{Entry}
use Rattle.tally_rules.specs.Tally.{updating}
use Rattle.tally_rules.specs.Counts.{empty_tally, tallied}
use Rattle.boundary_tally.specs.Rows.{tally_of, tally_after}

-- the numbers after the calls
abbrev pub lent_after : List Entry → List ℕ → List ℕ
lent_after [] ns = ns
lent_after (e ∷ es) ns = lent_after es (tally_after ns (updating (tally_of ns) e))

-- nine zeros are an empty tally, and calls are updates: what they leave is the tally that the updates leave, those that are
-- refused among them. The drops are a parameter of 32 bits.
pub record CallsUpdate : Type 0 where
  pub zeros : tally_of (0 ∷ 0 ∷ 0 ∷ 0 ∷ 0 ∷ 0 ∷ 0 ∷ 0 ∷ 0 ∷ []) ≡ empty_tally 0
  pub calls : (es : List Entry) → All (λ (e : Entry). e.drops < 2 ^ 32) es → (ns : List ℕ)
      → tally_of (lent_after es ns) ≡ tallied es (tally_of ns)
