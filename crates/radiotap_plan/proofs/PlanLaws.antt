-- The fields of a presence word from set bit to set bit: clear bits change nothing, and at a set bit the table decides.
-- Assumes nothing.
use Prim.Native.Nat.{ℕ, zero, suc, ◌+◌, ◌-◌, ◌*◌, ◌≤◌, ◌<◌}
use mathlib.Core.Path.{◌≡◌, refl, sym, ap, ap₂, ◌∙◌}
use mathlib.Core.Bool.{Bool, true, false, cond}
use mathlib.Core.List.{List, [], ◌∷◌}
use native.Mathlib.Omega.{arith}
use native.Mathlib.Nat.{mod-eq_of_lt, lt_of_not-le, zero-add}
use native.Mathlib.Decide.{dec_le}
use Rattle.radiotap_rules.specs.Rules.{Rules, row_of, knows, table_ok}
use Rattle.radiotap_rules.specs.Reading.{fixed_length, bit_set, word_bits, bit_at, row_number, field, meaning, aligned}
use Rattle.radiotap_rules.specs.Answers.{unknown_field, lies, lay_of}
use Rattle.radiotap_rules.specs.Writing.{is_field, writable_from, writable, Planned, plan_from, plan, summed}
use Rattle.radiotap_rules.specs.Rewriting.{last_end}
use Rattle.radiotap_rules.proofs.TableTests.{known-aligned, known-low}
use Rattle.radiotap_rules.proofs.Numbering.{number-alone}
use Rattle.radiotap_rules.proofs.Meanings.{present-alone, means-known}
use Rattle.radiotap_rules.proofs.Walks.{by_meaning}
use Rattle.radiotap_rules.proofs.Planning.{aligned_after, clear-nothing}
use Rattle.radiotap_bits.specs.Bits.{NextSet}
use Rattle.radiotap_table.proofs.RowLaws.{lay_near}

-- a set bit that an edition knows means the field with its row
set_known : (rules : Rules) → table_ok rules ≡ true → (edition word q : ℕ) → q < word_bits → bit_set word q ≡ true
    → knows rules edition q ≡ true → meaning rules edition (word ∷ []) q ≡ field (row_of rules q)
set_known rules ok edition word q l set known =
    let n = number-alone word q l in
    let low : bit_at q ≤ 28 = rw (mod-eq_of_lt l) (known-low rules edition q ok known) in
    let there : knows rules edition (row_number (word ∷ []) q) ≡ true = ap (knows rules edition) n ∙ known in
    means-known rules edition (word ∷ []) q (present-alone word q l ∙ set) low there ∙ ap (λ (k : ℕ). field (row_of rules k)) n

-- what the table's answer at a bit says
module _ (rules : Rules) (edition : ℕ) where
  lay_unknown : (q at : ℕ) → lay_of rules edition q at ≡ unknown_field → knows rules edition q ≡ false
  unfolding lay_of
  lay_unknown q at = go (knows rules edition q)
    where
      go : (t : Bool) → cond t (lies (aligned (row_of rules q).alignment at) (row_of rules q).size) unknown_field ≡ unknown_field → t ≡ false
      go true e = let z : ◌≡◌ {A = ℕ} 0 1 = cc in absurd (omega arith)
      go false e = refl

  lay_lies : (q at start size : ℕ) → lay_of rules edition q at ≡ lies start size
      → (knows rules edition q ≡ true) × (start ≡ aligned (row_of rules q).alignment at) × (size ≡ (row_of rules q).size)
  unfolding lay_of
  lay_lies q at start size = go (knows rules edition q)
    where
      go : (t : Bool) → cond t (lies (aligned (row_of rules q).alignment at) (row_of rules q).size) unknown_field ≡ lies start size
          → (t ≡ true) × (start ≡ aligned (row_of rules q).alignment at) × (size ≡ (row_of rules q).size)
      go true e = (refl, cc, cc)
      go false e = let z : ◌≡◌ {A = ℕ} 0 1 = cc in absurd (omega arith)

-- whether every set bit from a bit on is a field that the edition knows, and the fields from there on
abbrev pub known_on : Rules → (edition word bit : ℕ) → Bool
known_on rules edition word bit = writable_from rules edition word (word_bits - bit) bit

abbrev pub plan_on : Rules → (edition word bit : ℕ) → List Planned
plan_on rules edition word bit = plan_from rules edition word (word_bits - bit) bit

-- from two bits on a word has the same fields
abbrev Same : Rules → (edition word bit bit' : ℕ) → Type 0
Same rules edition word bit bit' =
    (known_on rules edition word bit ≡ known_on rules edition word bit')
    × (plan_on rules edition word bit ≡ plan_on rules edition word bit')

module _ (rules : Rules) (edition word : ℕ) where
  -- a clear bit changes nothing
  clear-same : (q : ℕ) → q < word_bits → bit_set word q ≡ false → Same rules edition word q (suc q)
  clear-same q l clear =
      let count : word_bits - q ≡ suc (word_bits - suc q) = omega arith in
      rw count (rw clear, rw (clear-nothing rules edition word q l clear))

  -- nor do clear bits up to another bit
  clears_same : (n q next : ℕ) → q + n ≡ next → next ≤ word_bits → ((i : ℕ) → q ≤ i → i < next → bit_set word i ≡ false)
      → Same rules edition word q next
  clears_same zero q next sum l clear = let same : q ≡ next = omega arith in rw same (refl, refl)
  clears_same (suc n) q next sum l clear =
      let here = clear-same q (omega arith) (clear q (omega arith) (omega arith)) in
      let rest = clears_same n (suc q) next (omega arith) l (λ i low high. clear i (omega arith) high) in
      (here.0 ∙ rest.0, here.1 ∙ rest.1)

  -- with a set bit that the edition doesn't know the word can't be written
  unknown-stops : (q : ℕ) → q < word_bits → bit_set word q ≡ true → knows rules edition q ≡ false → known_on rules edition word q ≡ false
  unknown-stops q l set none =
      let count : word_bits - q ≡ suc (word_bits - suc q) = omega arith in
      let stop : is_field (meaning rules edition (word ∷ []) q) ≡ false =
      by_meaning (word ∷ []) q (λ meaningIn. is_field (meaningIn rules edition) ≡ false) refl refl
      (rw (number-alone word q l, none)) in
      rw count (rw (set, stop))

  -- a set bit that it knows is the next field
  known_next : table_ok rules ≡ true → (q : ℕ) → q < word_bits → bit_set word q ≡ true → knows rules edition q ≡ true
      → (known_on rules edition word q ≡ known_on rules edition word (suc q))
      × (plan_on rules edition word q ≡ record { bit = bit_at q; row = row_of rules q } ∷ plan_on rules edition word (suc q))
  known_next ok q l set known =
      let count : word_bits - q ≡ suc (word_bits - suc q) = omega arith in
      let here = set_known rules ok edition word q l set known in
      rw count (rw (set, here), rw here)

-- a field and the gap before it: at most 255 octets behind at most 7
abbrev most_field : ℕ
most_field = 262

-- a set bit that was reached, or the end of the word, and the first free place there
pub record Reached (word at bit : ℕ) : Type 0 where
  pub high : bit ≤ word_bits
  pub set : bit < word_bits → bit_set word bit ≡ true
  pub low : at ≤ fixed_length + most_field * bit

-- the field at the set bit that was reached: where it lies, and that the fields behind it follow
pub record Met (rules : Rules) (edition word at bit start size : ℕ) : Type 0 where
  pub after : at ≤ start
  pub near : start < at + 8
  pub known : known_on rules edition word bit ≡ known_on rules edition word (suc bit)
  pub first : Planned
  pub fields : plan_on rules edition word bit ≡ first ∷ plan_on rules edition word (suc bit)
  pub starts : start ≡ aligned first.row.alignment at
  pub sized : size ≡ first.row.size

-- the next set bit comes later
pub set-later : (word bit : ℕ) {next : ℕ} → bit < word_bits → NextSet word (bit + 1) next → bit < next
set-later word bit {next} more n = go (dec_le word_bits next)
  where
    go : Dec (word_bits ≤ next) → bit < next
    go (yes h) = omega arith
    go (no h) = omega (arith, n.low (lt_of_not-le h))

module _ (rules : Rules) (edition word : ℕ) where
  -- the first set bit is reached
  pub reached_first : {next : ℕ} → NextSet word 0 next → Reached word fixed_length next × Same rules edition word 0 next
  reached_first {next} n = (
    record { high = n.high; set = n.set; low = omega arith },
    clears_same rules edition word next 0 next (omega arith) n.high n.clear,
  )

  module _ {at bit : ℕ} (r : Reached word at bit) (more : bit < word_bits) where
    -- the table doesn't know the bit
    pub met-unknown : lay_of rules edition bit at ≡ unknown_field → known_on rules edition word bit ≡ false
    met-unknown e = unknown-stops rules edition word bit more (r.set more) (lay_unknown rules edition bit at e)

    module _ {start size : ℕ} where
      -- the table says where its field lies
      pub met-field : table_ok rules ≡ true → lay_of rules edition bit at ≡ lies start size → Met rules edition word at bit start size
      met-field ok e =
          let told = lay_lies rules edition bit at start size e in
          let next = known_next rules edition word ok bit more (r.set more) told.0 in
          record {
            after = rw told.1 (aligned_after (row_of rules bit).alignment at (known-aligned rules edition bit ok told.0));
            near = lay_near rules bit edition at start size ok e;
            known = next.0;
            first = record { bit = bit_at bit; row = row_of rules bit };
            fields = next.1;
            starts = told.1;
            sized = told.2;
          }

      -- and the next set bit is reached
      pub reached_next : {next : ℕ} → Met rules edition word at bit start size → size < 256 → NextSet word (bit + 1) next
          → Reached word (start + size) next × Same rules edition word (suc bit) next
      reached_next {next} m small n =
          let later : bit < next = set-later word bit more n in (
            record { high = n.high; set = n.set; low = omega (arith, m.near, r.low) },
            clears_same rules edition word (next - suc bit) (suc bit) next (omega arith) n.high
                (λ i low high. n.clear i (omega arith) high),
          )

-- the fields added up so far, before the bit that was reached: the header's length and the summed length come from the rest
pub record Added (rules : Rules) (edition word at sum bit : ℕ) : Type 0 where
  pub here : Reached word at bit
  pub few : sum ≤ at
  pub known : writable rules edition word ≡ known_on rules edition word bit
  pub ends : last_end fixed_length (plan rules edition word) ≡ last_end at (plan_on rules edition word bit)
  pub sums : summed (plan rules edition word) ≡ sum + summed (plan_on rules edition word bit)

module _ (rules : Rules) (ok : table_ok rules ≡ true) (edition word : ℕ) where
  -- at first nothing is added
  pub added_none : {next : ℕ} → NextSet word 0 next → Added rules edition word fixed_length 0 next
  unfolding writable plan
  added_none {next} n =
      let first = reached_first rules edition word n in
      record {
        here = first.0;
        few = omega arith;
        known = first.1.0;
        ends = ap (last_end fixed_length) first.1.1;
        sums = ap summed first.1.1 ∙ sym (zero-add _);
      }

  module _ {at sum bit : ℕ} (f : Added rules edition word at sum bit) where
    -- a bit that the table doesn't know
    pub added-unknown : bit < word_bits → lay_of rules edition bit at ≡ unknown_field → writable rules edition word ≡ false
    added-unknown more e = f.known ∙ met-unknown rules edition word f.here more e

    -- a field ends, and the values with it, far below 2^16
    pub added-small : {start size : ℕ} → bit < word_bits → lay_of rules edition bit at ≡ lies start size → size < 256 → start + size < 65536
    added-small more e small =
        let m = met-field rules edition word f.here more ok e in
        omega (arith, m.near, f.here.low, f.here.high)

    -- a field, and the next set bit
    pub added-field : {start size next : ℕ} → bit < word_bits → lay_of rules edition bit at ≡ lies start size → size < 256
        → NextSet word (bit + 1) next → Added rules edition word (start + size) (sum + size) next
    added-field {start} {size} {next} more e small n =
        let m = met-field rules edition word f.here more ok e in
        let next = reached_next rules edition word f.here more m small n in
        record {
          here = next.0;
          few = omega (arith, m.after, f.few);
          known = f.known ∙ m.known ∙ next.1.0;
          ends =
              f.ends
              ∙ ap (last_end at) m.fields
              ∙ ap₂ last_end (sym (ap₂ ◌+◌ m.starts m.sized)) next.1.1;
          sums =
              f.sums
              ∙ ap (λ (ps : List Planned). sum + summed ps) m.fields
              ∙ omega (arith, m.sized, ap summed next.1.1);
        }

    -- behind the last bit all is added up
    pub added-all : word_bits ≤ bit
        → (writable rules edition word ≡ true)
        × (at ≡ last_end fixed_length (plan rules edition word))
        × (sum ≡ summed (plan rules edition word))
    added-all done =
        let none : word_bits - bit ≡ 0 = omega arith in
        (f.known ∙ rw none, sym (f.ends ∙ rw none), sym (f.sums ∙ rw none (omega arith)))
