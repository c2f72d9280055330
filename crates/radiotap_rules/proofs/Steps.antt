-- The walk over the fields goes by steps: what a step meets is what the walk shows first, and the walk goes on from there.
-- Assumes nothing.
use Prim.Native.Nat.{ℕ, zero, suc, ◌+◌, ◌-◌, ◌*◌, ◌≤◌, ◌<◌}
use mathlib.Core.Path.{◌≡◌, refl, sym, ap, ◌∙◌, subst}
use mathlib.Core.Bool.{Bool, true, false, cond}
use mathlib.Core.List.{List, [], ◌∷◌}
use native.Mathlib.Omega.{arith}
use lib.ListN.{length, get_or}
use lib.Dec.{leb}
use borrow.Author.Tests.{leb-true}
use Rattle.refusals.specs.Refusals.{Answer, refused, given}
use Rattle.octets.specs.Numbers.{little, number_at}
use Rattle.octets.specs.Parts.{part}
use Rattle.radiotap_rules.specs.declared.Head.{Head}
use Rattle.radiotap_rules.specs.declared.Cursor.{Cursor}
use Rattle.radiotap_rules.specs.Rules.{Rules, edition_taken, served}
use Rattle.radiotap_rules.specs.Reading.{field_past, fixed_header, presence_words, word_bits, word_at, bit_at, row_number, Meaning, nothing, unknown_here, field, meaning, aligned, Field, Ending, Walk, refused_at, shown, with_field, on_meaning, fields_from, fields_of, read_walk, reading, nth}
use Rattle.radiotap_rules.specs.Steps.{head_of_words, head_of_fixed, head_at, first_cursor, Met, refused_step, over, met, moved_to, met_meaning, met_from, step_of, onward_from, stepped, shown_by, ChainedSteps}
use Rattle.radiotap_rules.proofs.Meanings.{MeansSo, means_so}
use Rattle.radiotap_rules.proofs.Walks.{field_at, served-walk, read_shown}
use Rattle.radiotap_rules.proofs.Words.{words_at, words-few, words_for_lem}

-- a walk refused at a field of some word and bit, by a step that gives the number 12 and the field's start
pub record RefusedBy (x : Walk) (number place : ℕ) : Type 0 where
  pub word : ℕ
  pub bit : ℕ
  pub refusal : x ≡ refused_at word bit place
  pub twelve : number ≡ field_past

-- a cursor behind a field that a step met, over so many positions from a position on: behind the field's position and in
-- the same word, for a field's bit is at most 28
pub record Behind (s : List ℕ) (c : Cursor) (ws : List ℕ) (left q : ℕ) (f : Field) (c' : Cursor) : Type 0 where
  pub after : q < c'.position
  pub within : c'.position ≤ q + left
  pub behind : c'.position ≡ suc (word_bits * f.word + f.bit)
  pub low : f.bit ≤ 28
  pub same : word_at c'.position ≡ f.word
  pub bits : c'.bits ≡ get_or ws (word_at c'.position) 0
  pub size : c'.size ≡ c.size
  pub words : c'.words ≡ c.words
  pub inside : c'.at ≤ c.size
  pub starts : f.place ≤ c'.at
  pub octets : f.octets ≡ part s f.place (c'.at - f.place)

-- a step moves on behind the field that it meets
abbrev pub Moves : List ℕ → Cursor → (words : List ℕ) → (left q : ℕ) → Met → Type 0
Moves s c words left q (refused_step n p) = Unit {0}
Moves s c words left q (over e) = Unit {0}
Moves s c words left q (met f c') = Behind s c words left q f c'

module _ (rules : Rules) (edition : ℕ) (s : List ℕ) (c : Cursor) (words : List ℕ) where
  -- how a walk goes by what its first step meets
  abbrev pub GoesBy : (left q : ℕ) → Walk → Met → Type 0
  GoesBy left q x (refused_step n p) = RefusedBy x n p
  GoesBy left q x (over e) = x ≡ shown [] e
  GoesBy left q x (met f c') =
      x ≡ with_field f (fields_from rules edition s c.size words (left + q - c'.position) c'.position c'.at)

  -- a position that means nothing is passed
  goes_past : (left q : ℕ) (x : Walk) (m : Met) → GoesBy left (suc q) x m → GoesBy (suc left) q x m
  goes_past left q x (refused_step n p) h = h
  goes_past left q x (over e) h = h
  goes_past left q x (met f c') h =
      h
      ∙ ap
      (λ (n : ℕ). with_field f (fields_from rules edition s c.size words (n - c'.position) c'.position c'.at))
      (omega arith)

  moves_past : (left q : ℕ) (m : Met) → Moves s c words left (suc q) m → Moves s c words (suc left) q m
  moves_past left q (refused_step n p) h = tt
  moves_past left q (over e) h = tt
  moves_past left q (met f c') h =
      record {
        after = let l = h.after in omega arith;
        within = let l = h.within in omega arith;
        behind = h.behind;
        low = h.low;
        same = h.same;
        bits = h.bits;
        size = h.size;
        words = h.words;
        inside = h.inside;
        starts = h.starts;
        octets = h.octets;
      }

  goes-meaning : (left q : ℕ) (m : Meaning)
      → GoesBy left (suc q) (fields_from rules edition s c.size words left (suc q) c.at) (met_from rules edition s c words left (suc q))
      → GoesBy (suc left) q (on_meaning s c.size q c.at (fields_from rules edition s c.size words left (suc q)) m)
      (met_meaning s c words q (met_from rules edition s c words left (suc q)) m)
  goes-meaning left q nothing h =
      goes_past left q (fields_from rules edition s c.size words left (suc q) c.at) (met_from rules edition s c words left (suc q)) h
  goes-meaning left q unknown_here h = refl
  goes-meaning left q (field r) h = go (leb next c.size)
    where
      place : ℕ
      place = aligned r.alignment c.at

      next : ℕ
      next = place + r.size

      go : (t : Bool)
          → GoesBy (suc left) q
          (elim t [
            | true ↦ with_field (field_at s q place r.size) (fields_from rules edition s c.size words left (suc q) next)
            | false ↦ refused_at (word_at q) (bit_at q) place
          ])
          (cond t (met (field_at s q place r.size) (moved_to c words q next)) (refused_step field_past place))
      go true =
          let same : left ≡ suc left + q - suc q = omega arith in
          ap (λ (n : ℕ). with_field (field_at s q place r.size) (fields_from rules edition s c.size words n (suc q) next)) same
      go false = record { word = word_at q; bit = bit_at q; refusal = refl; twelve = refl }

  moves_meaning : (left q : ℕ) (m : Meaning) → MeansSo rules edition words q (row_number words q) m → Moves s c words left (suc q) (met_from rules edition s c words left (suc q))
      → Moves s c words (suc left) q (met_meaning s c words q (met_from rules edition s c words left (suc q)) m)
  moves_meaning left q nothing so h = moves_past left q (met_from rules edition s c words left (suc q)) h
  moves_meaning left q unknown_here so h = tt
  moves_meaning left q (field r) so h = go (leb next c.size) refl
    where
      place : ℕ
      place = aligned r.alignment c.at

      next : ℕ
      next = place + r.size

      go : (t : Bool) → leb next c.size ≡ t
          → Moves s c words (suc left) q
          (cond t (met (field_at s q place r.size) (moved_to c words q next)) (refused_step field_past place))
      go true e =
          let same : word_at (suc q) ≡ word_at q = omega (arith, so.1) in
          record {
            after = omega arith;
            within = omega arith;
            behind = omega arith;
            low = so.1;
            same = same;
            bits = ap (λ (n : ℕ). get_or words n 0) (sym same);
            size = refl;
            words = refl;
            inside = leb-true next c.size e;
            starts = omega arith;
            octets = ap (part s place) (omega arith);
          }
      go false e = tt

  -- the walk over so many positions from a position on goes by what the step meets
  pub walk_by_step : (left q : ℕ)
      → GoesBy left q (fields_from rules edition s c.size words left q c.at) (met_from rules edition s c words left q)
  walk_by_step zero q = refl
  walk_by_step (suc left) q = goes-meaning left q (meaning rules edition words q) (walk_by_step left (suc q))

  -- and the step moves on behind the field that it meets
  pub step_moves : (left q : ℕ) → Moves s c words left q (met_from rules edition s c words left q)
  step_moves zero q = tt
  step_moves (suc left) q =
      moves_meaning left q (meaning rules edition words q) (means_so rules edition words q) (step_moves left (suc q))

  -- where the step refuses, the walk is refused there
  pub walk_refused : (left q n p : ℕ) → met_from rules edition s c words left q ≡ refused_step n p
      → RefusedBy (fields_from rules edition s c.size words left q c.at) n p
  walk_refused left q n p e = subst (GoesBy left q (fields_from rules edition s c.size words left q c.at)) e (walk_by_step left q)

  -- where the step meets the ending, the walk shows no field and ends so
  pub walk-over : (left q : ℕ) (e : Ending) → met_from rules edition s c words left q ≡ over e
      → fields_from rules edition s c.size words left q c.at ≡ shown [] e
  walk-over left q e h = subst (GoesBy left q (fields_from rules edition s c.size words left q c.at)) h (walk_by_step left q)

  -- where the step meets a field, the walk shows it first and goes on behind it
  pub walk-met : (left q : ℕ) (f : Field) (c' : Cursor) → met_from rules edition s c words left q ≡ met f c'
      → fields_from rules edition s c.size words left q c.at
      ≡ with_field f (fields_from rules edition s c.size words (left + q - c'.position) c'.position c'.at)
  walk-met left q f c' e = subst (GoesBy left q (fields_from rules edition s c.size words left q c.at)) e (walk_by_step left q)

  pub moved_behind : (left q : ℕ) (f : Field) (c' : Cursor) → met_from rules edition s c words left q ≡ met f c'
      → Behind s c words left q f c'
  moved_behind left q f c' e = subst (Moves s c words left q) e (step_moves left q)

-- a cursor in a header with these presence words: it has their number, the word at its position, and a position among theirs
pub record Stands (s ws : List ℕ) (c : Cursor) : Type 0 where
  pub count : c.words ≡ length ws
  pub position : c.position ≤ word_bits * c.words
  pub bits : c.bits ≡ number_at little 4 s (4 + 4 * word_at c.position)

-- the positions from a cursor's own on
abbrev pub positions_left : Cursor → ℕ
positions_left c = word_bits * c.words - c.position

-- the walk from a cursor on
abbrev pub walk_from : Rules → (edition : ℕ) → (s ws : List ℕ) → Cursor → Walk
walk_from rules edition s ws c = fields_from rules edition s c.size ws (positions_left c) c.position c.at

module _ (rules : Rules) (edition : ℕ) (s : List ℕ) (size : ℕ) (ws : List ℕ) (e : presence_words s size ≡ given ws) where
  -- a step from it is one over the presence words
  pub step_words : (c : Cursor) → Stands s ws c
      → step_of rules edition s c ≡ met_from rules edition s c ws (positions_left c) c.position
  unfolding step_of
  step_words c h =
      ap (λ (words : List ℕ). met_from rules edition s c words (positions_left c) c.position)
      (words_for_lem s size ws e c h.count h.bits)

  -- where it refuses, the walk from the cursor is refused there
  pub walk-refuses : (c : Cursor) → Stands s ws c → (n p : ℕ) → step_of rules edition s c ≡ refused_step n p
      → RefusedBy (walk_from rules edition s ws c) n p
  walk-refuses c h n p step = walk_refused rules edition s c ws (positions_left c) c.position n p (sym (step_words c h) ∙ step)

  -- where it meets the ending, the walk shows no field and ends so
  pub walk_ends : (c : Cursor) → Stands s ws c → (e : Ending) → step_of rules edition s c ≡ over e
      → walk_from rules edition s ws c ≡ shown [] e
  walk_ends c h e step = walk-over rules edition s c ws (positions_left c) c.position e (sym (step_words c h) ∙ step)

  -- where it meets a field, it moves on behind it
  pub next_behind : (c : Cursor) → Stands s ws c → (f : Field) (c' : Cursor) → step_of rules edition s c ≡ met f c'
      → Behind s c ws (positions_left c) c.position f c'
  next_behind c h f c' step = moved_behind rules edition s c ws (positions_left c) c.position f c' (sym (step_words c h) ∙ step)

  -- the cursor behind the field that it meets stands in the same header
  pub stands_next : (c : Cursor) → Stands s ws c → (f : Field) (c' : Cursor) → step_of rules edition s c ≡ met f c' → Stands s ws c'
  stands_next c h f c' step =
      let m = next_behind c h f c' step in
      let count : c'.words ≡ length ws = m.words ∙ h.count in
      let position : c'.position ≤ word_bits * c'.words = omega (arith, m.within, m.words, h.position) in
      let inside : word_at c'.position < length ws = omega (arith, m.behind, m.same, position, count) in
      record {
        count = count;
        position = position;
        bits = m.bits ∙ words_at s size ws e (word_at c'.position) inside;
      }

  -- and the walk from the one goes on with the walk from the other
  pub walk_next : (c : Cursor) → Stands s ws c → (f : Field) (c' : Cursor) → step_of rules edition s c ≡ met f c'
      → walk_from rules edition s ws c ≡ with_field f (walk_from rules edition s ws c')
  walk_next c h f c' step =
      let m = next_behind c h f c' step in
      let left : positions_left c + c.position - c'.position ≡ positions_left c' = omega (arith, m.words, h.position) in
      walk-met rules edition s c ws (positions_left c) c.position f c' (sym (step_words c h) ∙ step) ∙ rw (left, ← m.size)

-- what stands behind a head that is given: the fixed header's length, and the presence words
pub record Headed (s : List ℕ) (h : Head) : Type 0 where
  pub ws : List ℕ
  pub header : fixed_header s ≡ given h.size
  pub words : presence_words s h.size ≡ given ws
  pub count : h.words ≡ length ws
  pub first : h.first ≡ get_or ws 0 0

pub headed : (s : List ℕ) (h : Head) → head_at s ≡ given h → Headed s h
unfolding head_at
headed s h = on_fixed (fixed_header s) refl
  where
    on_words : (size : ℕ) → fixed_header s ≡ given size → (x : Answer (List ℕ)) → presence_words s size ≡ x
        → head_of_words size x ≡ given h → Headed s h
    on_words size fixed (refused n q) words e = let z : ◌≡◌ {A = ℕ} 0 1 = cc in absurd (omega arith)
    on_words size fixed (given ws) words e =
        let same : record { size = size; words = length ws; first = get_or ws 0 0 } ≡ h = cc in
        subst (Headed s) same (record { ws = ws; header = fixed; words = words; count = refl; first = refl })

    on_fixed : (x : Answer ℕ) → fixed_header s ≡ x → head_of_fixed s x ≡ given h → Headed s h
    on_fixed (refused n q) fixed e = let z : ◌≡◌ {A = ℕ} 0 1 = cc in absurd (omega arith)
    on_fixed (given size) fixed e = on_words size fixed (presence_words s size) refl e

module _ (s : List ℕ) (h : Head) (there : Headed s h) where
  -- the first cursor stands in its header
  pub stands_first : Stands s there.ws (first_cursor h)
  stands_first =
      record {
        count = there.count;
        position = omega arith;
        bits = there.first ∙ words_at s h.size there.ws there.words 0 (words-few s h.size there.ws there.words).0;
      }

  -- the walk from the first cursor is the whole walk
  pub walk_first : (rules : Rules) (edition : ℕ)
      → fields_of rules edition s h.size there.ws ≡ walk_from rules edition s there.ws (first_cursor h)
  unfolding fields_of
  walk_first rules edition =
      let all : word_bits * length there.ws ≡ positions_left (first_cursor h) = omega (arith, there.count) in
      rw (all, there.count)

  -- a served edition reads the whole walk
  pub reading-walk : (rules : Rules) (edition : ℕ) → served rules edition ≡ true
      → reading rules edition s
      ≡ read_walk s h.size (fields_of rules (edition_taken rules.reading_default edition) s h.size there.ws)
  reading-walk rules edition = served-walk rules edition s h.size there.ws there.header there.words

-- fields that begin with a field, where a walk shows the rest of them and ends so
record Begins (f : Field) (x : Walk) (fs : List Field) (e : Ending) : Type 0 where
  rest : List Field
  first : fs ≡ f ∷ rest
  shows : x ≡ shown rest e

begins : (f : Field) (x : Walk) (fs : List Field) (e : Ending) → with_field f x ≡ shown fs e → Begins f x fs e
begins f (refused_at w b p) fs e h = let z : ◌≡◌ {A = ℕ} 0 1 = cc in absurd (omega arith)
begins f (shown rest e') fs e h = record { rest = rest; first = cc; shows = cc }

module _ (rules : Rules) (edition : ℕ) (s : List ℕ) (size : ℕ) (ws : List ℕ) (words : presence_words s size ≡ given ws) where
  -- what a step meets of a walk that shows fields and ends so
  abbrev Meets : List Field → Ending → Met → Type 0
  Meets fs e (refused_step n p) = ⊥
  Meets fs e (over e') = (fs ≡ []) × (e' ≡ e)
  Meets fs e (met f c') = Begins f (walk_from rules edition s ws c') fs e × Stands s ws c'

  meets : (c : Cursor) → Stands s ws c → (fs : List Field) (e : Ending) → walk_from rules edition s ws c ≡ shown fs e
      → Meets fs e (step_of rules edition s c)
  meets c h fs e walk = go (step_of rules edition s c) refl
    where
      go : (m : Met) → step_of rules edition s c ≡ m → Meets fs e m
      go (refused_step n p) step =
          let refuses = walk-refuses rules edition s size ws words c h n p step in
          let same : refused_at refuses.word refuses.bit p ≡ shown fs e = sym refuses.refusal ∙ walk in
          let z : ◌≡◌ {A = ℕ} 0 1 = cc same in
          omega arith
      go (over e') step =
          let same : shown [] e' ≡ shown fs e = sym (walk_ends rules edition s size ws words c h e' step) ∙ walk in
          (cc same, cc same)
      go (met f c') step = (
        begins f (walk_from rules edition s ws c') fs e (sym (walk_next rules edition s size ws words c h f c' step) ∙ walk),
        stands_next rules edition s size ws words c h f c' step,
      )

  -- chained steps from a cursor answer as the field numbers of the walk from it do
  chained : (k : ℕ) (c : Cursor) → Stands s ws c → (fs : List Field) (e : Ending) → walk_from rules edition s ws c ≡ shown fs e
      → shown_by (stepped rules edition s k c) ≡ nth fs e k
  chained zero c h fs e walk = here (step_of rules edition s c) (meets c h fs e walk)
    where
      here : (m : Met) → Meets fs e m → shown_by m ≡ nth fs e 0
      here (refused_step n p) meet = absurd meet
      here (over e') meet = rw (meet.0, meet.1)
      here (met f c') meet = rw meet.0.first
  chained (suc k) c h fs e walk = onward (step_of rules edition s c) (meets c h fs e walk) (chained k)
    where
      onward : (m : Met) → Meets fs e m
          → ((c' : Cursor) → Stands s ws c' → (fs' : List Field) (e' : Ending) → walk_from rules edition s ws c' ≡ shown fs' e'
          → shown_by (stepped rules edition s k c') ≡ nth fs' e' k)
          → shown_by (onward_from (stepped rules edition s k) m) ≡ nth fs e (suc k)
      onward (refused_step n p) meet rest = absurd meet
      onward (over e') meet rest = rw (meet.0, meet.1)
      onward (met f c') meet rest = rw meet.0.first (rest c' meet.1 meet.0.rest e meet.0.shows)

-- in a header that is read, chained steps from the first cursor answer as every field number does
pub chained-steps : ChainedSteps
chained-steps rules edition s fs e frame h k reads heads =
    let taken : ℕ = edition_taken rules.reading_default edition in
    let there : Headed s h = headed s h heads in
    chained rules taken s h.size there.ws there.words k (first_cursor h) (stands_first s h there) fs e
    (sym (walk_first s h there rules taken)
    ∙ read_shown rules edition s h.size there.ws fs e frame there.header there.words reads)
