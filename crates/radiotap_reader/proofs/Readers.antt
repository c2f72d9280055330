-- A fresh reader moved on so many times answers as the field number does: chained steps where the header is read, and the
-- refusal where it is refused.
-- Assumes nothing.
use Prim.Native.Nat.{ℕ, zero, suc}
use mathlib.Core.Path.{◌≡◌, refl, sym, ap, ◌∙◌}
use mathlib.Core.Bool.{Bool, true, false, cond}
use mathlib.Core.List.{List}
use native.Mathlib.Omega.{arith}
use Rattle.refusals.specs.Refusals.{Answer, refused, given}
use Rattle.radiotap_rules.specs.declared.Head.{Head}
use Rattle.radiotap_rules.specs.declared.Cursor.{Cursor}
use Rattle.radiotap_rules.specs.Rules.{Rules, edition_taken, served}
use Rattle.radiotap_rules.specs.Reading.{edition_above, field_past, fixed_header, presence_words, Field, Ending, Reading, refused_before, refused_at_field, read, read_words, read_fixed, reading, nth, field_of}
use Rattle.radiotap_rules.specs.Steps.{head_of_words, head_of_fixed, head_at, first_cursor, Met, refused_step, over, met, step_of, onward_from, stepped, shown_by}
use Rattle.radiotap_rules.proofs.Steps.{chained-steps}
use Rattle.radiotap_step.proofs.AskedLaws.{asked-served, asked-refused}
use Rattle.radiotap_place.specs.Places.{first_place, place_by, fresh_place, answer_taken, answer_at, moved_by, moved_on}
use Rattle.radiotap_reader.specs.Reader.{moved_times, stays_at, ReaderAnswers}

module _ (rules : Rules) (edition : ℕ) (s : List ℕ) where
  -- the edition that the reading takes this one for
  abbrev taken : ℕ
  taken = edition_taken rules.reading_default edition

  -- a reader that stays at what it answers stays there for ever
  pub stays_put : (place : Answer Cursor) → stays_at (answer_at rules edition s place) ≡ true → (k : ℕ) → moved_times rules edition s k place ≡ place
  unfolding moved_on
  stays_put place stays zero = refl
  stays_put place stays (suc k) = ap (moved_times rules edition s k) (here (answer_at rules edition s place) stays) ∙ stays_put place stays k
    where
      here : (m : Met) → stays_at m ≡ true → moved_by place m ≡ place
      here (refused_step n q) e = refl
      here (over e') e = refl
      here (met f c) e = let z : ◌≡◌ {A = ℕ} 0 1 = cc in absurd (omega arith)

  -- at a place that answers without a field, the answer is the same after any number of moves
  stays-answer : (place : Answer Cursor) (k : ℕ) {m : Met} → answer_at rules edition s place ≡ m → stays_at m ≡ true
      → answer_at rules edition s (moved_times rules edition s k place) ≡ m
  stays-answer place k answers stays = ap (answer_at rules edition s) (stays_put place (ap stays_at answers ∙ stays) k) ∙ answers

  module _ (serves : served rules edition ≡ true) where
    -- a place is answered in the edition taken
    answered : (place : Answer Cursor) → answer_at rules edition s place ≡ answer_taken rules taken s place
    unfolding answer_at
    answered place = sym (asked-served rules edition (λ (n : ℕ). answer_taken rules n s place) serves {taken = taken} refl)

    -- moves from a cursor are chained steps
    moves_step : (k : ℕ) (c : Cursor) → answer_at rules edition s (moved_times rules edition s k (given c)) ≡ stepped rules taken s k c
    unfolding moved_on
    moves_step zero c = answered (given c)
    moves_step (suc k) c =
        ap (λ (m : Met). answer_at rules edition s (moved_times rules edition s k (moved_by (given c) m))) (answered (given c))
        ∙ go (step_of rules taken s c) refl (moves_step k)
      where
        go : (m : Met) → step_of rules taken s c ≡ m
            → ((c' : Cursor) → answer_at rules edition s (moved_times rules edition s k (given c')) ≡ stepped rules taken s k c')
            → answer_at rules edition s (moved_times rules edition s k (moved_by (given c) m)) ≡ onward_from (stepped rules taken s k) m
        go (refused_step n q) step further = stays-answer (given c) k (answered (given c) ∙ step) refl
        go (over e) step further = stays-answer (given c) k (answered (given c) ∙ step) refl
        go (met f c') step further = further c'

    -- a header whose head is refused is not read
    head-refused : {n p : ℕ} → head_at s ≡ refused n p → {fs : List Field} {e : Ending} {frame : List ℕ} → reading rules edition s ≡ read fs e frame → ⊥
    unfolding reading head_at
    head-refused {n} {p} refuses {fs} {e} {frame} reads =
        on_fixed (fixed_header s) refuses (sym (ap (λ (t : Bool). cond t (read_fixed rules taken s (fixed_header s)) (refused_before edition_above 0)) serves) ∙ reads)
      where
        on_words : (size : ℕ) (x : Answer (List ℕ)) → head_of_words size x ≡ refused n p → read_words rules taken s size x ≡ read fs e frame → ⊥
        on_words size (refused n' p') h reads = let z : ◌≡◌ {A = ℕ} 0 1 = cc in omega arith
        on_words size (given ws) h reads = let z : ◌≡◌ {A = ℕ} 0 1 = cc in omega arith

        on_fixed : (x : Answer ℕ) → head_of_fixed s x ≡ refused n p → read_fixed rules taken s x ≡ read fs e frame → ⊥
        on_fixed (refused n' p') h reads = let z : ◌≡◌ {A = ℕ} 0 1 = cc in omega arith
        on_fixed (given size) h reads = on_words size (presence_words s size) h reads

    -- moves from the first place of a header that is read answer as its fields do
    read_answers : (fs : List Field) (e : Ending) (frame : List ℕ) → reading rules edition s ≡ read fs e frame → (k : ℕ)
        → shown_by (answer_at rules edition s (moved_times rules edition s k (first_place (head_at s)))) ≡ nth fs e k
    read_answers fs e frame reads k = go (head_at s) refl
      where
        go : (x : Answer Head) → head_at s ≡ x
            → shown_by (answer_at rules edition s (moved_times rules edition s k (first_place x))) ≡ nth fs e k
        go (refused n p) heads = absurd (head-refused heads reads)
        go (given h) heads =
            ap shown_by (moves_step k (first_cursor h)) ∙ chained-steps rules edition s fs e frame h k reads heads

    -- in a served edition
    served-answers : (k : ℕ) (x : Reading) → reading rules edition s ≡ x
        → shown_by (answer_at rules edition s (moved_times rules edition s k (place_by (head_at s) x))) ≡ field_of x k
    served-answers k (refused_before n q) reads = ap shown_by (stays-answer (refused n q) k (answered (refused n q)) refl)
    served-answers k (refused_at_field w b p) reads = ap shown_by (stays-answer (refused field_past p) k (answered (refused field_past p)) refl)
    served-answers k (read fs e frame) reads = read_answers fs e frame reads k

  -- in an edition that is not served 15 is the reading and every answer
  unserved_answers : served rules edition ≡ false → (k : ℕ)
      → shown_by (answer_at rules edition s (moved_times rules edition s k (place_by (head_at s) (reading rules edition s)))) ≡ field_of (reading rules edition s) k
  unfolding answer_at reading
  unserved_answers serves k =
      ap shown_by (stays-answer (place_by (head_at s) (reading rules edition s)) k refuses refl)
      ∙ sym (ap (λ (t : Bool). field_of (cond t (read_fixed rules taken s (fixed_header s)) (refused_before edition_above 0)) k) serves)
    where
      refuses : answer_at rules edition s (place_by (head_at s) (reading rules edition s)) ≡ refused_step edition_above 0
      refuses = sym (asked-refused rules edition (λ (n : ℕ). answer_taken rules n s (place_by (head_at s) (reading rules edition s))) serves)

pub reader_answers : ReaderAnswers
unfolding fresh_place
reader_answers rules edition s k = go (served rules edition) refl
  where
    go : (t : Bool) → served rules edition ≡ t
        → shown_by (answer_at rules edition s (moved_times rules edition s k (place_by (head_at s) (reading rules edition s)))) ≡ field_of (reading rules edition s) k
    go true serves = served-answers rules edition s serves k (reading rules edition s) refl
    go false serves = unserved_answers rules edition s serves k
