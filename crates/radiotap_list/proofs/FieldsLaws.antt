-- The list of a header's fields by the header's reading: none where it is refused, else the first of those shown.
-- Assumes nothing.
use Prim.Native.Nat.{ℕ, zero, suc, ◌/◌, ◌≤◌}
use mathlib.Core.Bool.{Bool, true, false, cond}
use mathlib.Core.Path.{◌≡◌, refl, sym, ap, ◌∙◌}
use mathlib.Core.List.{List, [], ◌∷◌}
use native.Mathlib.Omega.{arith}
use lib.ListN.{length, get_or, take}
use Rattle.refusals.specs.Refusals.{Answer, refused, given}
use Rattle.octets.specs.Parts.{splice}
use Rattle.radiotap_rules.specs.declared.Head.{Head}
use Rattle.radiotap_rules.specs.declared.Cursor.{Cursor}
use Rattle.radiotap_rules.specs.Rules.{Rules, edition_taken}
use Rattle.radiotap_rules.specs.Table.{our_rules}
use Rattle.radiotap_rules.specs.Reading.{presence_words, Field, Ending, Reading, refused_before, refused_at_field, read, read_words, reading, nth}
use Rattle.radiotap_rules.specs.Steps.{head_at, first_cursor, Met, refused_step, over, met, step_of, onward_from, stepped, shown_by}
use Rattle.radiotap_rules.specs.Answers.{Summary, summary, listed, listed_into}
use Rattle.radiotap_rules.proofs.Steps.{chained-steps}
use Rattle.radiotap.specs.Says.{opening}
use Rattle.radiotap.specs.Outcomes.{outcome, summarised}
use Rattle.radiotap.proofs.ReadLaws.{opened_head, summary_by}
use Rattle.radiotap_list.specs.Listing.{room_for, fields_behind, first_fields}
use Rattle.octets.proofs.PartLaws.{splice-none}

-- where the steps from a cursor answer as the field numbers of fields do, the first steps meet the first fields
first_take : (rules : Rules) (edition : ℕ) (s : List ℕ) (e : Ending) (k : ℕ) (c : Cursor) (fs : List Field)
    → ((j : ℕ) → shown_by (stepped rules edition s j c) ≡ nth fs e j) → first_fields rules edition s k c ≡ take k fs
first_take rules edition s e zero c fs h = refl
first_take rules edition s e (suc k) c fs h = go (step_of rules edition s c) fs (h zero) (λ j. h (suc j)) (first_take rules edition s e k)
  where
    go : (m : Met) (fs : List Field) → shown_by m ≡ nth fs e zero
        → ((j : ℕ) → shown_by (onward_from (stepped rules edition s j) m) ≡ nth fs e (suc j))
        → ((c : Cursor) (fs : List Field) → ((j : ℕ) → shown_by (stepped rules edition s j c) ≡ nth fs e j) → first_fields rules edition s k c ≡ take k fs)
        → fields_behind (first_fields rules edition s k) m ≡ take (suc k) fs
    go (refused_step n p) [] here behind rest = refl
    go (refused_step n p) (f ∷ fs) here behind rest = let z : ◌≡◌ {A = ℕ} 0 1 = cc in absurd (omega arith)
    go (over e') [] here behind rest = refl
    go (over e') (f ∷ fs) here behind rest = let z : ◌≡◌ {A = ℕ} 0 1 = cc in absurd (omega arith)
    go (met f c') [] here behind rest = let z : ◌≡◌ {A = ℕ} 0 1 = cc in absurd (omega arith)
    go (met f c') (g ∷ fs) here behind rest =
        let same : f ≡ g = cc here in
        ap (λ (x : Field). x ∷ first_fields rules edition s k c') same ∙ ap (λ (xs : List Field). g ∷ xs) (rest c' fs behind)

module _ (edition : ℕ) (s : List ℕ) where
  -- the edition that the reading takes this one for
  abbrev pub taken : ℕ
  taken = edition_taken our_rules.reading_default edition

  -- the room that the header's fields have: none before the header is judged
  abbrev pub room : (most : ℕ) → (judged : Bool) → ℕ
  room most judged = cond judged (room_for (summary s (reading our_rules edition s)) most) 0

  pub room_most : (most : ℕ) (judged : Bool) → room most judged ≤ most
  room_most most false = omega arith
  room_most most true = go (summary s (reading our_rules edition s))
    where
      go : (m : Answer Summary) → room_for m most ≤ most
      go (refused n p) = omega arith
      go (given m) = omega arith

  module _ (h : Head) (opens : opening edition (head_at s) ≡ given h) where
    -- what a turn says is the header's summary
    pub turn-says : {e : ℕ} → e ≡ taken → {m : Answer Summary}
        → m ≡ summarised (get_or s 1 0) h (outcome 0 (read_words our_rules e s h.size (presence_words s h.size))) → m ≡ summary s (reading our_rules edition s)
    turn-says {e} takes told = told ∙ summary_by edition s h opens e 0 takes _ refl (get_or s 1 0) refl

    -- with the room that the header's fields have, a turn leaves in the list what it is to hold
    turn-fills : (out : List ℕ) → splice out 0 (listed (first_fields our_rules taken s (room (length out / 4) true) (first_cursor h))) ≡ listed_into out (reading our_rules edition s)
    turn-fills out = go (reading our_rules edition s) refl
      where
        into : Reading → List ℕ
        into x = splice out 0 (listed (first_fields our_rules taken s (room_for (summary s x) (length out / 4)) (first_cursor h)))

        by : (x : Reading) → reading our_rules edition s ≡ x → into x ≡ listed_into out x
            → into (reading our_rules edition s) ≡ listed_into out (reading our_rules edition s)
        by x e same = ap into e ∙ same ∙ sym (ap (listed_into out) e)

        go : (x : Reading) → reading our_rules edition s ≡ x → into (reading our_rules edition s) ≡ listed_into out (reading our_rules edition s)
        go (refused_before n p) e = by (refused_before n p) e (splice-none out 0)
        go (refused_at_field w b p) e = by (refused_at_field w b p) e (splice-none out 0)
        go (read fs ending frame) e =
            by (read fs ending frame) e
            (ap (λ (gs : List Field). splice out 0 (listed gs))
            (first_take our_rules taken s ending (length out / 4) (first_cursor h) fs
            (λ k. chained-steps our_rules edition s fs ending frame h k e (opened_head edition s opens))))

    module _ {e : ℕ} (takes : e ≡ taken) {out₀ out out' : List ℕ} (whole : out ≡ out₀) (most : ℕ) {room' : ℕ} (judged : Bool) (has : room' ≡ room most judged)
        (put : out' ≡ splice out 0 (listed (first_fields our_rules e s room' (first_cursor h)))) where
      -- a turn before the header is judged leaves the list as it was lent, the one behind it fills it
      pub first_turn : judged ≡ false → out' ≡ out₀
      first_turn not_yet =
          let none : room' ≡ 0 = has ∙ ap (room most) not_yet in
          put ∙ ap (λ (k : ℕ). splice out 0 (listed (first_fields our_rules e s k (first_cursor h)))) none ∙ splice-none out 0 ∙ whole

      pub last_turn : judged ≡ true → most ≡ length out₀ / 4 → out' ≡ listed_into out₀ (reading our_rules edition s)
      last_turn yet all =
          let full : room' ≡ room (length out₀ / 4) true = has ∙ ap (room most) yet ∙ ap (λ (n : ℕ). room n true) all in
          put ∙ rw (whole, takes, full) (turn-fills out₀)
