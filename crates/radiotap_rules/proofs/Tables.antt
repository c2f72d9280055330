-- Readings and writings under two tables that agree on what an edition knows.
-- Assumes nothing.
use Prim.Native.Nat.{ℕ, zero, suc}
use mathlib.Core.Path.{◌≡◌, refl, sym, ap, ap₂, ◌∙◌, fun_ext}
use mathlib.Core.Bool.{Bool, true, false, cond, ◌&&◌}
use mathlib.Core.List.{List, [], ◌∷◌}
use native.Mathlib.Omega.{arith}
use lib.ListN.{length}
use Rattle.radiotap_rules.specs.Rules.{Rules, row_of, knows, edition_taken, served}
use Rattle.radiotap_rules.specs.Reading.{bit_set, word_bits, row_number, Meaning, unknown_here, field, meaning, on_meaning, fields_from, fixed_header, read_walk, read_fixed}
use Rattle.radiotap_rules.specs.Writing.{is_field, writable_from, writable, with_plan, plan_from, plan, header_octets, writing, written}
use Rattle.radiotap_rules.proofs.Walks.{by_meaning, by_walks, served_reads}
use Rattle.radiotap_rules.specs.Editions.{SameTable, SameReadings, SameWritings}

module _ (rules rules' : Rules) (edition : ℕ) (table : SameTable rules rules' edition) where
  -- every position means the same
  same-meaning : (words : List ℕ) (q : ℕ) → meaning rules edition words q ≡ meaning rules' edition words q
  same-meaning words q =
      by_meaning words q (λ meaningIn. meaningIn rules edition ≡ meaningIn rules' edition) refl refl
      (known (knows rules edition n) (knows rules' edition n) (table.known n) (table.rows n))
    where
      n : ℕ
      n = row_number words q

      known : (k k' : Bool) → k ≡ k' → (k ≡ true → row_of rules n ≡ row_of rules' n)
          → cond k (field (row_of rules n)) unknown_here ≡ cond k' (field (row_of rules' n)) unknown_here
      known true true e h = ap field (h refl)
      known true false e h = let z : ◌≡◌ {A = ℕ} 0 1 = cc in absurd (omega arith)
      known false true e h = let z : ◌≡◌ {A = ℕ} 0 1 = cc in absurd (omega arith)
      known false false e h = refl

  same-walk : (s : List ℕ) (size : ℕ) (words : List ℕ) (left q at : ℕ)
      → fields_from rules edition s size words left q at ≡ fields_from rules' edition s size words left q at
  same-walk s size words zero q at = refl
  same-walk s size words (suc left) q at =
      ap₂ (on_meaning s size q at) (fun_ext (same-walk s size words left (suc q))) (same-meaning words q)

  -- one presence word has the same fields, and can be written or not
  same-fields : (word left q : ℕ) → plan_from rules edition word left q ≡ plan_from rules' edition word left q
  same-fields word zero q = refl
  same-fields word (suc left) q = ap₂ (with_plan q) (same-meaning (word ∷ []) q) (same-fields word left (suc q))

  same_known : (word left q : ℕ) → writable_from rules edition word left q ≡ writable_from rules' edition word left q
  same_known word zero q = refl
  same_known word (suc left) q =
      ap₂ (λ (m : Meaning) (rest : Bool). cond (bit_set word q) (is_field m) true && rest) (same-meaning (word ∷ []) q)
      (same_known word left (suc q))

  same-plan : (word : ℕ) → plan rules edition word ≡ plan rules' edition word
  unfolding plan
  same-plan word = same-fields word word_bits 0

  same-writable : (word : ℕ) → writable rules edition word ≡ writable rules' edition word
  unfolding writable
  same-writable word = same_known word word_bits 0

  same-header : (word : ℕ) (values : List ℕ) → header_octets rules edition word values ≡ header_octets rules' edition word values
  unfolding header_octets
  same-header word values = rw (same-plan word)

-- readings agree wherever two tables agree on what the edition knows
pub same_readings : SameReadings
same_readings rules rules' edition s servedHere servedThere taken table =
    served_reads rules edition s servedHere
    ∙ by_walks s (λ readIn. readIn rules e ≡ readIn rules' e)
    (λ number place. refl)
    (λ size h words left q at. ap (read_walk s size) (same-walk rules rules' e table s size words left q at))
    ∙ ap (λ (k : ℕ). read_fixed rules' k s (fixed_header s)) taken
    ∙ sym (served_reads rules' edition s servedThere)
  where
    e : ℕ
    e = edition_taken rules.reading_default edition

-- so do what writing answers
same-answers : (rules rules' : Rules) (edition word : ℕ) (values : List ℕ) (size at : ℕ) → served rules edition ≡ true
    → served rules' edition ≡ true → edition_taken rules.writing_default edition ≡ edition_taken rules'.writing_default edition
    → SameTable rules rules' (edition_taken rules.writing_default edition)
    → writing rules size at edition word values ≡ writing rules' size at edition word values
unfolding writing
same-answers rules rules' edition word values size at servedHere servedThere taken table =
    rw (
      servedHere,
      servedThere,
      ← taken,
      same-writable rules rules' _ table word,
      same-plan rules rules' _ table word,
      same-header rules rules' _ table word values,
    )

-- and what the output then holds
pub same_writings : SameWritings
unfolding written
same_writings rules rules' edition word values servedHere servedThere taken table =
    record {
      answer = λ size at. same-answers rules rules' edition word values size at servedHere servedThere taken table;
      output = λ out at.
          rw (
            same-answers rules rules' edition word values (length out) at servedHere servedThere taken table,
            same-header rules rules' _ table word values,
            taken,
          );
    }
