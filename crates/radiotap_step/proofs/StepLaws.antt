-- Where a step's search for the next field stands, and how each finding carries it on or ends it.
-- Assumes nothing.
use Prim.Native.Nat.{ℕ, zero, suc, ◌+◌, ◌-◌, ◌*◌, ◌≤◌, ◌<◌}
use mathlib.Core.Path.{◌≡◌, refl, sym, ap, ◌∙◌, subst}
use mathlib.Core.Bool.{Bool, true, false, cond, ◌||◌}
use mathlib.Core.List.{List}
use Rattle.std.specs.Prelude.{Result}
use Rattle.refusals.specs.declared.Refusal.{Refusal}
use native.Mathlib.Omega.{arith}
use mathlib.Core.Logic.{◌⊎◌, inl, inr}
use lib.ListN.{get_or}
use lib.Dec.{eqb}
use native.Mathlib.Decide.{dec_le, ℕ_discrete}
use native.Mathlib.Nat.{zero-add}
use borrow.Author.Tests.{le-leb, lt-leb, eq-eqb, ne_eqb, eqb-true}
use Rattle.octets.specs.Numbers.{little, number_at}
use Rattle.octets.specs.Parts.{part}
use Rattle.radiotap_rules.specs.declared.Cursor.{Cursor}
use Rattle.radiotap_rules.specs.Rules.{Rules, row_of, knows, table_ok}
use Rattle.radiotap_rules.specs.Reading.{field_past, word_bits, word_at, bit_at, first_number, row_number, bit_set, present, nothing, unknown_here, field, meaning, aligned, ended, stopped}
use Rattle.radiotap_rules.specs.Steps.{words_for, words_of, Met, refused_step, over, met, met_meaning, met_from, step_of}
use Rattle.radiotap_rules.specs.Answers.{Layout, unknown_field, lies, lay_of}
use Rattle.radiotap_rules.proofs.TableTests.{unknown-high}
use Rattle.radiotap_rules.proofs.Meanings.{means-clear, means-none, means_vendor, means-bit}
use Rattle.radiotap_rules.proofs.Numbering.{starts_at_0, goes_on}
use Rattle.radiotap_table.proofs.RowLaws.{lay_unknown}
use Rattle.radiotap_bits.specs.Bits.{NextSet}
use Rattle.radiotap_step.specs.declared.Step.{Step}
use Rattle.radiotap_step.specs.Met.{met_laid, starts_in}
use Rattle.radiotap_step.specs.Says.{step_says, StepSized, MeetSays}

-- a cursor has its own word where its position lies, and the input's words elsewhere
word_of : (s : List ℕ) (c : Cursor) (i n k : ℕ) → k < n
    → get_or (words_for s c i n) k 0 ≡ cond (eqb (i + k) (word_at c.position)) c.bits (number_at little 4 s (4 + 4 * (i + k)))
word_of s c i zero k h = absurd (omega arith)
word_of s c i (suc n) zero h = let e : i + 0 ≡ i = omega arith in rw e
word_of s c i (suc n) (suc k) h = let e : i + suc k ≡ suc i + k = omega arith in rw e (word_of s c (suc i) n k (omega arith))

-- the test of bits 29 and 31, either way
bare-bit : (b : ℕ) → (eqb b 29 || eqb b 31) ≡ true → (b ≡ 29) ⊎ (b ≡ 31)
bare-bit b = go (eqb b 29) refl
  where
    go : (t : Bool) → eqb b 29 ≡ t → (t || eqb b 31) ≡ true → (b ≡ 29) ⊎ (b ≡ 31)
    go true e h = inl (eqb-true b 29 e)
    go false e h = inr (eqb-true b 31 h)

other-bit : (b : ℕ) → (eqb b 29 || eqb b 31) ≡ false → ((b ≡ 29) ⊎ (b ≡ 31)) → ⊥
other-bit b h (inl e) = let z : ◌≡◌ {A = ℕ} 0 1 = cc (h, ap (λ (k : ℕ). eqb k 29 || eqb k 31) e) in omega arith
other-bit b h (inr e) = let z : ◌≡◌ {A = ℕ} 0 1 = cc (h, ap (λ (k : ℕ). eqb k 29 || eqb k 31) e) in omega arith

-- a set bit, neither 29 nor 31, is a field that the edition knows or a stop. No edition knows the number of a bit 30.
known_or_stop : (rules : Rules) (edition : ℕ) (words : List ℕ) (q : ℕ) → table_ok rules ≡ true → present words q ≡ true
    → (eqb (bit_at q) 29 || eqb (bit_at q) 31) ≡ false
    → meaning rules edition words q ≡ cond (knows rules edition (row_number words q)) (field (row_of rules (row_number words q))) unknown_here
known_or_stop rules edition words q ok here other = go (ℕ_discrete (bit_at q) 30)
  where
    n : ℕ
    n = row_number words q

    go : Dec (bit_at q ≡ 30) → meaning rules edition words q ≡ cond (knows rules edition n) (field (row_of rules n)) unknown_here
    go (yes e) =
        means_vendor rules edition words q here e
        ∙ sym (ap (λ (k : Bool). cond k (field (row_of rules n)) unknown_here) (unknown-high rules edition n ok (omega arith)))
    go (no thirty) =
        let twenty_nine : bit_at q ≡ 29 → ⊥ = λ e. other-bit (bit_at q) other (inl e) in
        let thirty_one : bit_at q ≡ 31 → ⊥ = λ e. other-bit (bit_at q) other (inr e) in
        means-bit rules edition words q here (omega arith)

-- positions that carry no field are passed
skip : (rules : Rules) (edition : ℕ) (s : List ℕ) (c : Cursor) (words : List ℕ) (n left q : ℕ) → n ≤ left
    → ((i : ℕ) → i < n → meaning rules edition words (q + i) ≡ nothing)
    → met_from rules edition s c words left q ≡ met_from rules edition s c words (left - n) (q + n)
skip rules edition s c words zero left q h none =
    let e : q ≡ q + 0 = omega arith in
    let e' : left ≡ left - 0 = omega arith in
    ap (met_from rules edition s c words left) e ∙ ap (λ (k : ℕ). met_from rules edition s c words k (q + 0)) e'
skip rules edition s c words (suc n) zero q h none = absurd (omega arith)
skip rules edition s c words (suc n) (suc left) q h none =
    let e : q + 0 ≡ q = omega arith in
    let e' : suc q + n ≡ q + suc n = omega arith in
    ap (met_meaning s c words q (met_from rules edition s c words left (suc q))) (subst (λ (k : ℕ). meaning rules edition words k ≡ nothing) e (none 0 (omega arith)))
    ∙ skip rules edition s c words n left (suc q) (omega arith)
    (λ i less. let e'' : q + suc i ≡ suc q + i = omega arith in subst (λ (k : ℕ). meaning rules edition words k ≡ nothing) e'' (none (suc i) (omega arith)))
    ∙ ap (met_from rules edition s c words (left - n)) e'
    ∙ ap (λ (k : ℕ). met_from rules edition s c words k (q + suc n)) (let e'' : left - n ≡ suc left - suc n = omega arith in e'')

-- a word numbers its bits from 0 again, or goes on past the table
abbrev pub NumbersFrom : (again : Bool) → (first : ℕ) → Type 0
NumbersFrom true first = first ≡ 0
NumbersFrom false first = word_bits ≤ first

-- by bit 29 of the word before it
numbers-behind : (words : List ℕ) (n : ℕ) → NumbersFrom (bit_set (get_or words n 0) 29) (first_number words (suc n))
numbers-behind words n = go (bit_set (get_or words n 0) 29) refl
  where
    go : (t : Bool) → bit_set (get_or words n 0) 29 ≡ t → NumbersFrom t (first_number words (suc n))
    go true e = starts_at_0 words (suc n) e
    go false e = goes_on words (suc n) e

-- which stands before it in the input
pub starts-behind : (s : List ℕ) (word : ℕ) → (word ≡ 0 → ⊥) → starts_in s word ≡ bit_set (number_at little 4 s (4 * word)) 29
starts-behind s zero h = absurd (h refl)
starts-behind s (suc n) h =
    let place : 4 + 4 * n ≡ 4 * suc n = omega arith in
    ap (λ (k : ℕ). bit_set (number_at little 4 s k) 29) place

-- and which the input has for the cursor's own word
numbers-own : (s : List ℕ) (c : Cursor) (word : ℕ) → word ≡ word_at c.position → word < c.words
    → NumbersFrom (starts_in s word) (first_number (words_of s c) word)
numbers-own s c zero own h = refl
numbers-own s c (suc n) own h =
    let other : eqb (0 + n) (word_at c.position) ≡ false = ne_eqb (0 + n) (word_at c.position) (λ e. omega arith) in
    let held : get_or (words_of s c) n 0 ≡ number_at little 4 s (4 + 4 * n) = word_of s c 0 c.words n (omega arith) ∙ rw (other, zero-add n) in
    subst (λ (k : ℕ). NumbersFrom (bit_set k 29) (first_number (words_of s c) (suc n))) held (numbers-behind (words_of s c) n)

-- the step is what is met from the position reached on, and the bits held are those of its word
pub record Reached (rules : Rules) (edition : ℕ) (s : List ℕ) (c : Cursor) (position bits : ℕ) : Type 0 where
  pub same : step_of rules edition s c
      ≡ met_from rules edition s c (words_of s c) (word_bits * c.words - position) position
  pub word : word_at position < c.words → get_or (words_of s c) (word_at position) 0 ≡ bits
  pub later : word_at c.position ≤ word_at position

module _ (rules : Rules) (edition : ℕ) (s : List ℕ) (c : Cursor) where
  pub starts : Reached rules edition s c c.position c.bits
  unfolding step_of
  starts =
      record {
        same = refl;
        word = λ h. word_of s c 0 c.words (word_at c.position) h ∙ rw (eq-eqb (0 + word_at c.position) (word_at c.position) (omega arith));
        later = omega arith;
      }

  module _ {position bits : ℕ} (r : Reached rules edition s c position bits) where
    -- behind the last word is the end
    pub ends : c.words ≤ word_at position → step_of rules edition s c ≡ over ended
    ends h =
        let e : word_bits * c.words - position ≡ 0 = omega arith in
        r.same ∙ ap (λ (k : ℕ). met_from rules edition s c (words_of s c) k position) e

    module _ (inside : word_at position < c.words) where
      -- a clear bit of the word from the position on is no field
      clear_at : (b : ℕ) → b < word_bits → bit_set bits b ≡ false
          → meaning rules edition (words_of s c) (word_bits * word_at position + b) ≡ nothing
      clear_at b small e =
          let w : word_at (word_bits * word_at position + b) ≡ word_at position = omega arith in
          let b' : bit_at (word_bits * word_at position + b) ≡ b = omega arith in
          means-clear rules edition (words_of s c) (word_bits * word_at position + b)
          (ap (λ (k : ℕ). bit_set (get_or (words_of s c) k 0) (bit_at (word_bits * word_at position + b))) w
          ∙ ap (λ (k : ℕ). bit_set (get_or (words_of s c) (word_at position) 0) k) b'
          ∙ ap (λ (k : ℕ). bit_set k b) (r.word inside)
          ∙ e)

      -- the search passes to a later bit of the word, or to its end, where every bit between is clear, 29 or 31
      pub passes : (next : ℕ) → bit_at position ≤ next → next ≤ word_bits
          → ((b : ℕ) → bit_at position ≤ b → b < next → (bit_set bits b ≡ false) ⊎ ((eqb b 29 || eqb b 31) ≡ true))
          → step_of rules edition s c
          ≡ met_from rules edition s c (words_of s c) (word_bits * c.words - (word_bits * word_at position + next)) (word_bits * word_at position + next)
      passes next low high none =
          let n = next - bit_at position in
          let place : position + n ≡ word_bits * word_at position + next = omega arith in
          let left : word_bits * c.words - position - n ≡ word_bits * c.words - (word_bits * word_at position + next) = omega arith in
          r.same
          ∙ skip rules edition s c (words_of s c) n (word_bits * c.words - position) position (omega arith) bares
          ∙ ap (λ (k : ℕ). met_from rules edition s c (words_of s c) k (position + n)) left
          ∙ ap (met_from rules edition s c (words_of s c) (word_bits * c.words - (word_bits * word_at position + next))) place
        where
          bares : (i : ℕ) → i < next - bit_at position → meaning rules edition (words_of s c) (position + i) ≡ nothing
          bares i h =
              let e : word_bits * word_at position + (bit_at position + i) ≡ position + i = omega arith in
              subst (λ (k : ℕ). meaning rules edition (words_of s c) k ≡ nothing) e
              (go (none (bit_at position + i) (omega arith) (omega arith)))
            where
              go : (bit_set bits (bit_at position + i) ≡ false) ⊎ ((eqb (bit_at position + i) 29 || eqb (bit_at position + i) 31) ≡ true)
                  → meaning rules edition (words_of s c) (word_bits * word_at position + (bit_at position + i)) ≡ nothing
              go (inl e) = clear_at (bit_at position + i) (omega arith) e
              go (inr e) =
                  let b' : bit_at (word_bits * word_at position + (bit_at position + i)) ≡ bit_at position + i = omega arith in
                  means-none rules edition (words_of s c) (word_bits * word_at position + (bit_at position + i))
                  (bare-bit (bit_at (word_bits * word_at position + (bit_at position + i))) (ap (λ (k : ℕ). eqb k 29 || eqb k 31) b' ∙ e))

      -- to a later bit of the word
      pub within : (next : ℕ) → bit_at position ≤ next → next < word_bits
          → ((b : ℕ) → bit_at position ≤ b → b < next → (bit_set bits b ≡ false) ⊎ ((eqb b 29 || eqb b 31) ≡ true))
          → Reached rules edition s c (word_bits * word_at position + next) bits
      within next low high none =
          let w : word_at (word_bits * word_at position + next) ≡ word_at position = omega arith in
          record {
            same = passes next low (omega arith) none;
            word = λ h. ap (λ (k : ℕ). get_or (words_of s c) k 0) w ∙ r.word inside;
            later = omega (arith, r.later);
          }

      -- to the next word, as the input has it
      pub onward : ((b : ℕ) → bit_at position ≤ b → b < word_bits → (bit_set bits b ≡ false) ⊎ ((eqb b 29 || eqb b 31) ≡ true))
          → Reached rules edition s c (word_bits * word_at position + word_bits) (number_at little 4 s (4 + 4 * (word_at position + 1)))
      onward none =
          let w : word_at (word_bits * word_at position + word_bits) ≡ word_at position + 1 = omega arith in
          let i : 0 + (word_at position + 1) ≡ word_at position + 1 = omega arith in
          record {
            same = passes word_bits (omega arith) (omega arith) none;
            word =
                λ h.
                ap (λ (k : ℕ). get_or (words_of s c) k 0) w
                ∙ word_of s c 0 c.words (word_at position + 1) (omega (arith, h, w))
                ∙ rw (ne_eqb (0 + (word_at position + 1)) (word_at c.position) (λ e. omega (arith, e, r.later)), i);
            later = omega (arith, r.later);
          }

      -- a set bit, neither 29 nor 31, stops the walk or is a field: by where the field of its number lies
      pub meets : (bit : ℕ) → bit_at position ≤ bit → bit < word_bits
          → ((b : ℕ) → bit_at position ≤ b → b < bit → (bit_set bits b ≡ false) ⊎ ((eqb b 29 || eqb b 31) ≡ true))
          → bit_set bits bit ≡ true → (eqb bit 29 || eqb bit 31) ≡ false → table_ok rules ≡ true
          → step_of rules edition s c
          ≡ met_laid s c (word_at position) bit bits (lay_of rules edition (first_number (words_of s c) (word_at position) + bit) c.at)
      unfolding lay_of
      meets bit low high none set other ok =
          let q = word_bits * word_at position + bit in
          let w : word_at q ≡ word_at position = omega arith in
          let b : bit_at q ≡ bit = omega arith in
          let number : row_number (words_of s c) q ≡ first_number (words_of s c) (word_at position) + bit =
          ap (λ (k : ℕ). first_number (words_of s c) k + bit_at q) w ∙ ap (λ (k : ℕ). first_number (words_of s c) (word_at position) + k) b in
          let left : word_bits * c.words - q ≡ suc (word_bits * c.words - suc q) = omega arith in
          let held : get_or (words_of s c) (word_at q) 0 ≡ bits = ap (λ (k : ℕ). get_or (words_of s c) k 0) w ∙ r.word inside in
          let here : present (words_of s c) q ≡ true = ap (λ (k : ℕ). bit_set k (bit_at q)) held ∙ ap (bit_set bits) b ∙ set in
          let bare_not : (eqb (bit_at q) 29 || eqb (bit_at q) 31) ≡ false = ap (λ (k : ℕ). eqb k 29 || eqb k 31) b ∙ other in
          passes bit low (omega arith) none
          ∙ ap (λ (k : ℕ). met_from rules edition s c (words_of s c) k q) left
          ∙ ap (met_meaning s c (words_of s c) q (met_from rules edition s c (words_of s c) (word_bits * c.words - suc q) (suc q)))
          (known_or_stop rules edition (words_of s c) q ok here bare_not)
          ∙ laid_at q (row_number (words_of s c) q) (knows rules edition (row_number (words_of s c) q))
          ∙ ap (λ (n : ℕ). met_laid s c (word_at q) (bit_at q) (get_or (words_of s c) (word_at q) 0) (lay_of rules edition n c.at)) number
          ∙ ap (λ (k : ℕ). met_laid s c k (bit_at q) (get_or (words_of s c) (word_at q) 0) (lay_at bit)) w
          ∙ ap (λ (k : ℕ). met_laid s c (word_at position) (bit_at q) k (lay_at bit)) held
          ∙ ap (λ (k : ℕ). met_laid s c (word_at position) k bits (lay_at bit)) b
        where
          lay_at : ℕ → Layout
          lay_at bit = lay_of rules edition (first_number (words_of s c) (word_at position) + bit) c.at

          laid_at : (q n : ℕ) (k : Bool)
              → met_meaning s c (words_of s c) q (met_from rules edition s c (words_of s c) (word_bits * c.words - suc q) (suc q))
              (cond k (field (row_of rules n)) unknown_here)
              ≡ met_laid s c (word_at q) (bit_at q) (get_or (words_of s c) (word_at q) 0)
              (cond k (lies (aligned (row_of rules n).alignment c.at) (row_of rules n).size) unknown_field)
          laid_at q n true = let e : word_bits * word_at q + bit_at q + 1 ≡ suc q = omega arith in rw e
          laid_at q n false = refl

-- a search that has come to a position holds the bits of its word and whether this numbers them from 0 again
pub record Searches (rules : Rules) (edition : ℕ) (s : List ℕ) (c : Cursor) (position bits : ℕ) (again : Bool) : Type 0 where
  pub reached : Reached rules edition s c position bits
  pub numbers : word_at position < c.words → NumbersFrom again (first_number (words_of s c) (word_at position))

module _ (rules : Rules) (edition : ℕ) (s : List ℕ) (c : Cursor) where
  pub searches : Searches rules edition s c c.position c.bits (starts_in s (word_at c.position))
  searches = record { reached = starts rules edition s c; numbers = numbers-own s c (word_at c.position) refl }

  module _ {position bits : ℕ} {again : Bool} (r : Searches rules edition s c position bits again) (inside : word_at position < c.words) where
    -- by the next set bit of the word that is held
    module _ {bit : ℕ} (n : NextSet bits (bit_at position) bit) where
      module _ (small : bit < 31) (other : bit ≡ 29 → ⊥) (ok : table_ok rules ≡ true) where
        meets_next : step_of rules edition s c
            ≡ met_laid s c (word_at position) bit bits (lay_of rules edition (first_number (words_of s c) (word_at position) + bit) c.at)
        meets_next =
            meets rules edition s c r.reached inside bit (n.low (omega arith)) (omega arith) (λ b low below. inl (n.clear b low below))
            (n.set (omega arith)) (rw (ne_eqb bit 29 other, ne_eqb bit 31 (λ e. omega (arith, e)))) ok

        -- in a word that starts again the step is by where the field of the bit lies
        pub meets-again : again ≡ true → step_of rules edition s c ≡ met_laid s c (word_at position) bit bits (lay_of rules edition bit c.at)
        meets-again e =
            let first : first_number (words_of s c) (word_at position) ≡ 0 =
            subst (λ (t : Bool). NumbersFrom t (first_number (words_of s c) (word_at position))) e (r.numbers inside) in
            let number : first_number (words_of s c) (word_at position) + bit ≡ bit = omega (arith, first) in
            meets_next ∙ ap (λ (k : ℕ). met_laid s c (word_at position) bit bits (lay_of rules edition k c.at)) number

        -- in a continued word it stops
        pub meets_continued : again ≡ false → step_of rules edition s c ≡ over (stopped (word_at position) bit)
        meets_continued e =
            let first : word_bits ≤ first_number (words_of s c) (word_at position) =
            subst (λ (t : Bool). NumbersFrom t (first_number (words_of s c) (word_at position))) e (r.numbers inside) in
            let number : ℕ = first_number (words_of s c) (word_at position) + bit in
            meets_next
            ∙ ap (met_laid s c (word_at position) bit bits)
            (lay_unknown rules number edition c.at (unknown-high rules edition number ok (omega (arith, first))))

      pub passes_29 : bit ≡ 29 → Searches rules edition s c (word_bits * word_at position + 30) bits again
      passes_29 e =
          let w : word_at (word_bits * word_at position + 30) ≡ word_at position = omega arith in
          record {
            reached = within rules edition s c r.reached inside 30 (omega (arith, n.low (omega arith))) (omega arith) between;
            numbers = λ h. subst (λ (k : ℕ). NumbersFrom again (first_number (words_of s c) k)) (sym w) (r.numbers inside);
          }
        where
          between : (b : ℕ) → bit_at position ≤ b → b < 30 → (bit_set bits b ≡ false) ⊎ ((eqb b 29 || eqb b 31) ≡ true)
          between b low below = go (dec_le 29 b)
            where
              go : Dec (29 ≤ b) → (bit_set bits b ≡ false) ⊎ ((eqb b 29 || eqb b 31) ≡ true)
              go (yes h) = inr (rw (eq-eqb b 29 (omega arith)))
              go (no h) = inl (n.clear b low (omega arith))

      pub next_word : 31 ≤ bit
          → Searches rules edition s c (word_bits * word_at position + word_bits) (number_at little 4 s (4 + 4 * (word_at position + 1))) (bit_set bits 29)
      next_word h =
          let w : suc (word_at position) ≡ word_at (word_bits * word_at position + word_bits) = omega arith in
          record {
            reached = onward rules edition s c r.reached inside between;
            numbers =
                λ more.
                subst (λ (k : ℕ). NumbersFrom (bit_set bits 29) (first_number (words_of s c) k)) w
                (subst (λ (k : ℕ). NumbersFrom (bit_set k 29) (first_number (words_of s c) (suc (word_at position)))) (r.reached.word inside)
                (numbers-behind (words_of s c) (word_at position)));
          }
        where
          between : (b : ℕ) → bit_at position ≤ b → b < word_bits → (bit_set bits b ≡ false) ⊎ ((eqb b 29 || eqb b 31) ≡ true)
          between b low below = go (dec_le 31 b)
            where
              go : Dec (31 ≤ b) → (bit_set bits b ≡ false) ⊎ ((eqb b 29 || eqb b 31) ≡ true)
              go (yes h') = inr (rw (ne_eqb b 29 (λ e. omega (arith, e)), eq-eqb b 31 (omega arith)))
              go (no h') = inl (n.clear b low (omega arith))

-- what is met at a bit answers the step that is by where the bit's field lies
pub answers : (s : List ℕ) (c : Cursor) (word bit bits : ℕ) (lay : Layout) (r : Result Step Refusal) {m : Met} → MeetSays c word bit bits lay r
    → m ≡ met_laid s c word bit bits lay → (step_says s r ≡ m) × StepSized r
answers s c word bit bits lay r says e = (says.0 s ∙ sym e, says.1)

-- a known field is shown where it ends inside the length, and refused where it runs past it
module _ (s : List ℕ) (c : Cursor) (word bit bits start size : ℕ) where
  pub laid_inside : start + size ≤ c.size
      → met_laid s c word bit bits (lies start size)
      ≡ met (record { word = word; bit = bit; place = start; octets = part s start size })
      (record { size = c.size; words = c.words; position = word_bits * word + bit + 1; bits = bits; at = start + size })
  laid_inside h = rw (le-leb (start + size) c.size h)

  pub laid_past : c.size < start + size → met_laid s c word bit bits (lies start size) ≡ refused_step field_past start
  laid_past h = rw (lt-leb (start + size) c.size h)
