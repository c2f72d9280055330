-- Document 01, "Refusal numbers", and request W-204, for the tally: 23 and 16, in this order, are given exactly when their
-- conditions hold. Proof: proofs/Orders.antt.
use Rattle.std.specs.Prelude.{◌+◌, ◌^◌, ◌≤◌, ◌≡◌, ◌⊎◌}
use Rattle.refusals.specs.Refusals.{refused, given}
use Rattle.refusals.specs.Orders.{Exactly, Otherwise}
use Rattle.tally_rules.specs.declared.Tally.{Tally}
use Rattle.tally_rules.specs.declared.Entry.{Entry}
use Rattle.tally_rules.specs.Tally.{sum_broken, sum_past, added, updating}

-- a tally breaks either sum: sent plus received is not its records, or commands plus data is not
abbrev pub SumBreaks : Tally → Type 0
SumBreaks t = (t.sent + t.received ≡ t.records → ⊥) ⊎ (t.commands + t.«data» ≡ t.records → ⊥)

-- a sum of a tally that passes 2^64 − 1
abbrev pub SumPasses : Tally → Type 0
SumPasses t =
    (((((((2 ^ 64 ≤ t.records) ⊎ (2 ^ 64 ≤ t.received)) ⊎ (2 ^ 64 ≤ t.commands)) ⊎ (2 ^ 64 ≤ t.octets))
    ⊎ (2 ^ 64 ≤ t.lost)) ⊎ (2 ^ 64 ≤ t.truncated)) ⊎ (2 ^ 64 ≤ t.sent)) ⊎ (2 ^ 64 ≤ t.«data»)

-- an update: 23 at place 0 where the tally handed in breaks either sum, then 16 at place 0 where a sum would pass, and
-- otherwise the tally with the record added
abbrev pub UpdateExactly : Type 0
UpdateExactly = (t : Tally) (e : Entry)
    → Exactly (refused sum_broken 0) (SumBreaks t)
    (Exactly (refused sum_past 0) (SumPasses (added t e)) (Otherwise (given (added t e))))
    (updating t e)
