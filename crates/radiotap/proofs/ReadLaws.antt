-- A reading by what stands before the fields and by what the walk behind it leaves, and what its parts are.
-- Assumes nothing.
use Prim.Native.Nat.{ℕ, ◌+◌}
use mathlib.Core.Path.{◌≡◌, refl, sym, ap, ap₂, ◌∙◌}
use mathlib.Core.Bool.{Bool, true, false, cond}
use mathlib.Core.List.{List, []}
use native.Mathlib.Omega.{arith}
use lib.ListN.{length, get_or, take, drop, length-drop}
use lib.Seq.{take_all}
use Rattle.refusals.specs.Refusals.{Answer, refused, given}
use Rattle.octets.specs.Parts.{part}
use Rattle.radiotap_rules.specs.declared.Head.{Head}
use Rattle.radiotap_rules.specs.Rules.{Rules, edition_taken, served}
use Rattle.radiotap_rules.specs.Table.{our_rules}
use Rattle.radiotap_rules.specs.Reading.{length_in, fixed_header, presence_words, edition_above, Walk, refused_at, shown, Reading, refused_before, refused_at_field, read, read_walk, read_words, read_fixed, reading, fields_of}
use Rattle.radiotap_rules.specs.Steps.{head_of_words, head_of_fixed, head_at}
use Rattle.radiotap_rules.specs.Answers.{words_of_fixed, words_in, how_many, Summary, summary, frame_in}
use Rattle.radiotap_rules.proofs.Places.{length-told}
use Rattle.radiotap_rules.proofs.Steps.{Headed, headed}
use Rattle.radiotap.specs.Says.{opening}
use Rattle.radiotap.specs.Outcomes.{Outcome, outcome, summarised}

-- where what stands before the fields is refused, in the edition or before it, the reading is refused so
module _ (edition : ℕ) (s : List ℕ) where
  pub opened_refused : {n p : ℕ} → opening edition (head_at s) ≡ refused n p → reading our_rules edition s ≡ refused_before n p
  unfolding reading head_at
  opened_refused {n} {p} = go (served our_rules edition) (fixed_header s)
    where
      taken : ℕ
      taken = edition_taken our_rules.reading_default edition

      on_words : (size : ℕ) (x : Answer (List ℕ)) → head_of_words size x ≡ refused n p → read_words our_rules taken s size x ≡ refused_before n p
      on_words size (refused n' p') e = cc
      on_words size (given ws) e = let z : ◌≡◌ {A = ℕ} 0 1 = cc in absurd (omega arith)

      go : (t : Bool) (x : Answer ℕ) → cond t (head_of_fixed s x) (refused edition_above 0) ≡ refused n p
          → cond t (read_fixed our_rules taken s x) (refused_before edition_above 0) ≡ refused_before n p
      go true (refused n' p') e = cc
      go true (given size) e = on_words size (presence_words s size) e
      go false x e = cc

  -- where it is given, the edition is served and the walk behind it is read
  pub opened_head : {h : Head} → opening edition (head_at s) ≡ given h → head_at s ≡ given h
  opened_head {h} = go (served our_rules edition)
    where
      go : (t : Bool) → cond t (head_at s) (refused edition_above 0) ≡ given h → head_at s ≡ given h
      go true e = e
      go false e = let z : ◌≡◌ {A = ℕ} 0 1 = cc in absurd (omega arith)

  opened_reads : {h : Head} → opening edition (head_at s) ≡ given h
      → reading our_rules edition s
      ≡ read_words our_rules (edition_taken our_rules.reading_default edition) s h.size (presence_words s h.size)
  unfolding reading
  opened_reads {h} e = go (served our_rules edition) e
    where
      taken : ℕ
      taken = edition_taken our_rules.reading_default edition

      go : (t : Bool) → cond t (head_at s) (refused edition_above 0) ≡ given h
          → cond t (read_fixed our_rules taken s (fixed_header s)) (refused_before edition_above 0)
          ≡ read_words our_rules taken s h.size (presence_words s h.size)
      go true e = ap (read_fixed our_rules taken s) (headed s h e).header
      go false e = let z : ◌≡◌ {A = ℕ} 0 1 = cc in absurd (omega arith)

  -- in the edition that it is taken for
  pub opened_walk : {h : Head} → opening edition (head_at s) ≡ given h → {taken : ℕ} → taken ≡ edition_taken our_rules.reading_default edition
      → read_words our_rules taken s h.size (presence_words s h.size) ≡ reading our_rules edition s
  opened_walk {h} e takes = ap (λ (n : ℕ). read_words our_rules n s h.size (presence_words s h.size)) takes ∙ sym (opened_reads e)

-- the summary of a reading by what its walk leaves
module _ (s : List ℕ) (h : Head) (there : Headed s h) where
  summary-left : (k : ℕ) (x : Reading) → summarised (get_or s 1 0) h (outcome k x) ≡ summary s x
  unfolding words_in
  summary-left k (refused_before n p) = refl
  summary-left k (refused_at_field w b p) = refl
  summary-left k (read fs e frame) =
      let fields : 0 + length fs ≡ length fs = omega arith in
      let size : h.size ≡ length_in s = sym (length-told s h.size there.header).told in
      let words : h.words ≡ how_many (words_of_fixed s (fixed_header s)) =
      there.count ∙ sym (ap (λ (x : Answer ℕ). how_many (words_of_fixed s x)) there.header ∙ ap how_many there.words) in
      rw (fields, size, words)

-- and of an edition's reading
pub summary_by : (edition : ℕ) (s : List ℕ) (h : Head) → opening edition (head_at s) ≡ given h → (taken k : ℕ)
    → taken ≡ edition_taken our_rules.reading_default edition → (w : Outcome)
    → w ≡ outcome k (read_words our_rules taken s h.size (presence_words s h.size))
    → (pad : ℕ) → pad ≡ get_or s 1 0 → summarised pad h w ≡ summary s (reading our_rules edition s)
summary_by edition s h opens taken k takes w leaves pad e =
    ap₂ (λ (n : ℕ) (o : Outcome). summarised n h o) e leaves
    ∙ summary-left s h (headed s h (opened_head edition s opens)) k (read_words our_rules taken s h.size (presence_words s h.size))
    ∙ ap (summary s) (opened_walk edition s opens takes)

-- the frame by the summary: none where the header is refused
pub frame-none : (s : List ℕ) (x : Reading) {n p : ℕ} → summary s x ≡ refused n p → frame_in x ≡ []
frame-none s (refused_before n p) e = refl
frame-none s (refused_at_field w b p) e = refl
frame-none s (read fs e frame) h = let z : ◌≡◌ {A = ℕ} 0 1 = cc in absurd (omega arith)

-- in a reading, the input from the length on
abbrev Framed : List ℕ → Reading → Type 0
Framed s (refused_before n p) = Unit {0}
Framed s (refused_at_field w b p) = Unit {0}
Framed s (read fs e frame) = frame ≡ drop (length_in s) s

framed : (rules : Rules) (edition : ℕ) (s : List ℕ) → Framed s (reading rules edition s)
unfolding reading
framed rules edition s = go (served rules edition) (fixed_header s) refl
  where
    taken : ℕ
    taken = edition_taken rules.reading_default edition

    on_walk : (size : ℕ) → fixed_header s ≡ given size → (x : Walk) → Framed s (read_walk s size x)
    on_walk size e (refused_at w b p) = tt
    on_walk size e (shown fs e') = ap (λ (n : ℕ). drop n s) (sym (length-told s size e).told)

    on_words : (size : ℕ) → fixed_header s ≡ given size → (x : Answer (List ℕ)) → Framed s (read_words rules taken s size x)
    on_words size e (refused n p) = tt
    on_words size e (given ws) = on_walk size e (fields_of rules taken s size ws)

    go : (t : Bool) (x : Answer ℕ) → fixed_header s ≡ x → Framed s (cond t (read_fixed rules taken s x) (refused_before edition_above 0))
    go true (refused n p) e = tt
    go true (given size) e = on_words size e (presence_words s size)
    go false x e = tt

pub frame-part : (edition : ℕ) (s : List ℕ) {m : Summary} → summary s (reading our_rules edition s) ≡ given m
    → part s m.frame (length s) ≡ frame_in (reading our_rules edition s)
unfolding part
frame-part edition s {m} = go (reading our_rules edition s) (framed our_rules edition s)
  where
    go : (x : Reading) → Framed s x → summary s x ≡ given m → take (length s) (drop m.frame s) ≡ frame_in x
    go (refused_before n p) f e = let z : ◌≡◌ {A = ℕ} 0 1 = cc in absurd (omega arith)
    go (refused_at_field w b p) f e = let z : ◌≡◌ {A = ℕ} 0 1 = cc in absurd (omega arith)
    go (read fs e' frame) f e =
        let same : length_in s ≡ m.frame = ap frame_or_none e in
        ap (λ (n : ℕ). take (length s) (drop n s)) (sym same) ∙ take_all (length s) (drop (length_in s) s) (omega (arith, length-drop (length_in s) s)) ∙ sym f
      where
        frame_or_none : Answer Summary → ℕ
        frame_or_none (refused n p) = 0
        frame_or_none (given m) = m.frame
