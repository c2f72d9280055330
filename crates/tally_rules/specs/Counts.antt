-- What tallying the records of a list from an empty tally gives. Proof: proofs/Counts.antt.
use Rattle.std.specs.Prelude.{ℕ, ◌+◌, ◌≡◌, Bool, List, [], ◌∷◌, length}
use Rattle.refusals.specs.Refusals.{Answer, refused, given}
use Rattle.btsnoop_rules.specs.Record.{received, command}
use Rattle.btsnoop_rules.specs.Drops.{drops_between}
use Rattle.tally_rules.specs.declared.Tally.{Tally}
use Rattle.tally_rules.specs.declared.Entry.{Entry}
use Rattle.tally_rules.specs.Tally.{sum_broken, truncated, sent, is_data, one_if, updating, after_update}

-- a tally with nothing counted, whatever its last drop number, which is of no account
abbrev pub empty_tally : (drops : ℕ) → Tally
empty_tally d =
    record {
      records = 0;
      received = 0;
      commands = 0;
      octets = 0;
      lost = 0;
      last = d;
      truncated = 0;
      sent = 0;
      «data» = 0;
    }

-- the tally after updates one after another, each of the tally that the last left; a refused one leaves it as found
abbrev pub tallied : List Entry → Tally → Tally
tallied [] t = t
tallied (e ∷ es) t = tallied es (after_update t (updating t e))

-- a record before others, unless its update is refused
abbrev pub unless_refused : Answer Tally → Entry → List Entry → List Entry
unless_refused (refused n q) e es = es
unless_refused (given t) e es = e ∷ es

-- of the records of a list those whose updates, one after another, are not refused
abbrev pub counted : List Entry → Tally → List Entry
counted [] t = []
counted (e ∷ es) t = unless_refused (updating t e) e (counted es (after_update t (updating t e)))

-- a sum over a list
abbrev pub sum_of : (Entry → ℕ) → List Entry → ℕ
sum_of f [] = 0
sum_of f (e ∷ es) = f e + sum_of f es

-- how many of a list a test holds of
abbrev pub count_of : (Entry → Bool) → List Entry → ℕ
count_of test es = sum_of (λ (e : Entry). one_if (test e)) es

-- the sum of the drop differences of records that follow one another, the first behind one with these drops
abbrev pub differences_from : (drops : ℕ) → List Entry → ℕ
differences_from d [] = 0
differences_from d (e ∷ es) = drops_between d e.drops + differences_from e.drops es

abbrev pub differences : List Entry → ℕ
differences [] = 0
differences (e ∷ es) = differences_from e.drops es

-- the drops of the last record of a list that follows one with these drops
abbrev pub last_drops : (drops : ℕ) → List Entry → ℕ
last_drops d [] = d
last_drops d (e ∷ es) = last_drops e.drops es

-- the counts and sums of a list, and its last drop number; of no records, the one that was there
pub record Counts (drops : ℕ) (es : List Entry) (t : Tally) : Type 0 where
  pub records : t.records ≡ length es
  pub received : t.received ≡ count_of (λ (e : Entry). received e.flags) es
  pub commands : t.commands ≡ count_of (λ (e : Entry). command e.flags) es
  pub octets : t.octets ≡ sum_of (λ (e : Entry). e.included) es
  pub lost : t.lost ≡ differences es
  pub last : t.last ≡ last_drops drops es
  pub truncated : t.truncated ≡ count_of truncated es
  pub sent : t.sent ≡ count_of (λ (e : Entry). sent e.flags) es
  pub «data» : t.«data» ≡ count_of (λ (e : Entry). is_data e.flags) es

-- any list of updates from any empty tally gives those of the updates that are not refused
abbrev pub TallyCounts : Type 0
TallyCounts = (drops : ℕ) (es : List Entry) → Counts drops (counted es (empty_tally drops)) (tallied es (empty_tally drops))

-- sent plus received equals records, and commands plus data equals records
abbrev pub BothSums : Tally → Type 0
BothSums t = (t.sent + t.received ≡ t.records) × (t.commands + t.«data» ≡ t.records)

-- both sums hold after any list of updates from any empty tally
abbrev pub SumsHold : Type 0
SumsHold = (drops : ℕ) (es : List Entry) → BothSums (tallied es (empty_tally drops))

-- and no update after any such list is refused with 23
abbrev pub Never23 : Type 0
Never23 = (drops : ℕ) (es : List Entry) (e : Entry) (place : ℕ)
    → updating (tallied es (empty_tally drops)) e ≡ refused sum_broken place → ⊥
