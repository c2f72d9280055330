-- What a reader answers after its moves, by the moves that are left.
-- Assumes nothing.
use Prim.Native.Nat.{ℕ, suc, ◌+◌, ◌-◌, ◌≤◌, ◌<◌}
use mathlib.Core.Path.{◌≡◌, sym, ap, ◌∙◌}
use mathlib.Core.Bool.{true}
use mathlib.Core.List.{List}
use native.Mathlib.Omega.{arith}
use Rattle.refusals.specs.Refusals.{Answer}
use Rattle.radiotap_rules.specs.declared.Cursor.{Cursor}
use Rattle.radiotap_rules.specs.Rules.{Rules}
use Rattle.radiotap_rules.specs.Reading.{reading, field_of}
use Rattle.radiotap_rules.specs.Steps.{Met, shown_by}
use Rattle.radiotap_place.specs.Places.{fresh_place, answer_at, moved_by, moved_on}
use Rattle.radiotap_reader.specs.Reader.{moved_times, answer_after, stays_at}
use Rattle.radiotap_reader.proofs.Readers.{stays_put, reader_answers}

-- the moves that are left from a place lead where all moves from the fresh place lead
pub record Left (rules : Rules) (edition : ℕ) (s : List ℕ) (moves moved : ℕ) (place : Answer Cursor) : Type 0 where
  pub leads : moved_times rules edition s (moves - moved) place ≡ moved_times rules edition s moves (fresh_place rules edition s)

module _ (rules : Rules) (edition : ℕ) (s : List ℕ) (moves : ℕ) where
  -- none is made
  pub none_moved : {place : Answer Cursor} → place ≡ fresh_place rules edition s → Left rules edition s moves 0 place
  none_moved {place} fresh =
      let all : moves - 0 ≡ moves = omega arith in
      record { leads = ap (λ (k : ℕ). moved_times rules edition s k place) all ∙ ap (moved_times rules edition s moves) fresh }

  module _ {moved : ℕ} {place : Answer Cursor} (left : Left rules edition s moves moved place) {m : Met} (answers : m ≡ answer_at rules edition s place) where
    -- one is made
    pub one_moved : moved < moves → {place' : Answer Cursor} → place' ≡ moved_by place m → Left rules edition s moves (moved + 1) place'
    unfolding moved_on
    one_moved fewer behind =
        let one : suc (moves - (moved + 1)) ≡ moves - moved = omega arith in
        record {
          leads =
              ap (moved_times rules edition s (moves - (moved + 1))) (behind ∙ ap (moved_by place) answers)
              ∙ ap (λ (k : ℕ). moved_times rules edition s k place) one
              ∙ left.leads;
        }

    -- all are made: the answer is the one after all moves
    pub all_moved : moves ≤ moved → m ≡ answer_after rules edition s moves
    all_moved all =
        let none : 0 ≡ moves - moved = omega arith in
        answers ∙ ap (answer_at rules edition s) (ap (λ (k : ℕ). moved_times rules edition s k place) none ∙ left.leads)

    -- and so it is where the reader stays
    pub stayed : stays_at m ≡ true → m ≡ answer_after rules edition s moves
    stayed stays =
        let here = stays_put rules edition s place (ap stays_at (sym answers) ∙ stays) (moves - moved) in
        answers ∙ ap (answer_at rules edition s) (sym here ∙ left.leads)

  -- the answer after so many moves shows what the field number does
  pub shown_after : {m : Met} → m ≡ answer_after rules edition s moves → shown_by m ≡ field_of (reading rules edition s) moves
  shown_after answers = ap shown_by answers ∙ reader_answers rules edition s moves
