-- The cases of a reading, of what a position means and of a walk at a field, over every table and edition at once.
-- Assumes nothing.
use Prim.Native.Nat.{ℕ, ◌+◌, ◌*◌, ◌≤◌, ◌<◌}
use mathlib.Core.Path.{◌≡◌, refl, sym, ap, ◌∙◌, subst, fun_ext}
use mathlib.Core.Bool.{Bool, true, false, cond}
use mathlib.Core.Logic.{inl, inr}
use mathlib.Core.List.{List}
use native.Mathlib.Omega.{arith}
use native.Mathlib.Decide.{dec_le, ℕ_discrete}
use lib.ListN.{length}
use borrow.Author.Tests.{le-leb, lt-leb}
use Rattle.refusals.specs.Refusals.{Answer, refused, given}
use Rattle.octets.specs.Parts.{part}
use Rattle.radiotap_rules.specs.Rules.{Row, Rules, row_of, knows, edition_taken, served}
use Rattle.radiotap_rules.specs.Reading.{edition_above, fixed_header, presence_words, word_bits, word_at, bit_at, row_number, present, Meaning, nothing, unknown_here, field, meaning, aligned, Field, Ending, Walk, refused_at, shown, with_field, on_field, fields_from, fields_of, Reading, refused_before, read, read_walk, read_words, read_fixed, reading}
use Rattle.radiotap_rules.proofs.Meanings.{means-clear, means-none, means_vendor, means-bit}

-- the field of so many octets that is shown at a position and place
abbrev pub field_at : List ℕ → (q place n : ℕ) → Field
field_at s q place n = record { word = word_at q; bit = bit_at q; place = place; octets = part s place n }

module _ (s : List ℕ) (size q at : ℕ) (r : Row) where
  -- a field that ends inside the length is shown, and the walk goes on behind it
  pub field-shown : aligned r.alignment at + r.size ≤ size → (rest : ℕ → Walk)
      → on_field s size q at r rest
      ≡ with_field (field_at s q (aligned r.alignment at) r.size) (rest (aligned r.alignment at + r.size))
  field-shown fits rest = rw (le-leb (aligned r.alignment at + r.size) size fits, on_field)

  -- one that ends past it is refused at its start
  pub field-refused : size < aligned r.alignment at + r.size → (rest : ℕ → Walk)
      → on_field s size q at r rest ≡ refused_at (word_at q) (bit_at q) (aligned r.alignment at)
  field-refused past rest = rw (lt-leb (aligned r.alignment at + r.size) size past, on_field)

  -- either, whatever walk is behind it
  pub on_field_lem : (P : ((ℕ → Walk) → Walk) → Type 0)
      → ((place : ℕ) → place + r.size ≤ size → P (λ rest. with_field (field_at s q place r.size) (rest (place + r.size))))
      → ((place : ℕ) → P (λ rest. refused_at (word_at q) (bit_at q) place))
      → P (on_field s size q at r)
  on_field_lem P fits past = go (dec_le (aligned r.alignment at + r.size) size)
    where
      go : Dec (aligned r.alignment at + r.size ≤ size) → P (on_field s size q at r)
      go (yes l) = subst P (sym (fun_ext (field-shown l))) (fits (aligned r.alignment at) l)
      go (no l) = subst P (sym (fun_ext (field-refused (omega arith)))) (past (aligned r.alignment at))

-- to all tables and editions a position means nothing, or to all it is a stop, or to each what it knows of the position's field
pub by_meaning : (words : List ℕ) (q : ℕ) (P : (Rules → ℕ → Meaning) → Type 0)
    → P (λ rules edition. nothing)
    → P (λ rules edition. unknown_here)
    → P (λ rules edition. cond (knows rules edition (row_number words q)) (field (row_of rules (row_number words q))) unknown_here)
    → P (λ rules edition. meaning rules edition words q)
by_meaning words q P none stop known = on_present (present words q) refl
  where
    same : {m : Rules → ℕ → Meaning} → ((rules : Rules) (edition : ℕ) → meaning rules edition words q ≡ m rules edition) → P m
        → P (λ rules edition. meaning rules edition words q)
    same e = subst P (sym (fun_ext (λ rules. fun_ext (e rules))))

    on_bit : present words q ≡ true → Dec (bit_at q ≡ 29) → Dec (bit_at q ≡ 30) → Dec (bit_at q ≡ 31)
        → P (λ rules edition. meaning rules edition words q)
    on_bit set (yes e) d d' = same (λ rules edition. means-none rules edition words q (inl e)) none
    on_bit set (no n) (yes e) d' = same (λ rules edition. means_vendor rules edition words q set e) stop
    on_bit set (no n) (no n') (yes e) = same (λ rules edition. means-none rules edition words q (inr e)) none
    on_bit set (no n) (no n') (no n'') = same (λ rules edition. means-bit rules edition words q set (omega arith)) known

    on_present : (t : Bool) → present words q ≡ t → P (λ rules edition. meaning rules edition words q)
    on_present true set = on_bit set (ℕ_discrete (bit_at q) 29) (ℕ_discrete (bit_at q) 30) (ℕ_discrete (bit_at q) 31)
    on_present false clear = same (λ rules edition. means-clear rules edition words q clear) none

-- the tables and editions that are served are all refused alike before the first field, or all walk over the same words
pub by_walks : (s : List ℕ) (P : (Rules → ℕ → Reading) → Type 0)
    → ((number place : ℕ) → P (λ rules edition. refused_before number place))
    → ((size : ℕ) → fixed_header s ≡ given size → (words : List ℕ) (left q at : ℕ)
    → P (λ rules edition. read_walk s size (fields_from rules edition s size words left q at)))
    → P (λ rules edition. read_fixed rules edition s (fixed_header s))
unfolding fields_of
by_walks s P before walked = on_fixed (fixed_header s) refl
  where
    on_words : (size : ℕ) → fixed_header s ≡ given size → (x : Answer (List ℕ)) → P (λ rules edition. read_words rules edition s size x)
    on_words size e (refused number place) = before number place
    on_words size e (given words) = walked size e words (word_bits * length words) 0 (4 + 4 * length words)

    on_fixed : (x : Answer ℕ) → fixed_header s ≡ x → P (λ rules edition. read_fixed rules edition s x)
    on_fixed (refused number place) e = before number place
    on_fixed (given size) e = on_words size e (presence_words s size)

module _ (rules : Rules) (edition : ℕ) (s : List ℕ) where
  -- a served edition reads as the one that it is taken for
  pub served_reads : served rules edition ≡ true
      → reading rules edition s ≡ read_fixed rules (edition_taken rules.reading_default edition) s (fixed_header s)
  unfolding reading
  served_reads e = rw e

  -- any other is refused before all else
  pub unserved_refused : served rules edition ≡ false → reading rules edition s ≡ refused_before edition_above 0
  unfolding reading
  unserved_refused e = rw e

  -- so a reading that shows fields is of a served edition
  pub read_served : (fs : List Field) (e : Ending) (frame : List ℕ) → reading rules edition s ≡ read fs e frame
      → served rules edition ≡ true
  read_served fs e frame h = go (served rules edition) refl
    where
      go : (t : Bool) → served rules edition ≡ t → t ≡ true
      go true serves = refl
      go false above = let other = unserved_refused above in let z : ◌≡◌ {A = ℕ} 0 1 = cc in absurd (omega arith)

  -- it reads the whole walk over the presence words
  pub served-walk : (size : ℕ) (ws : List ℕ) → fixed_header s ≡ given size → presence_words s size ≡ given ws
      → served rules edition ≡ true
      → reading rules edition s ≡ read_walk s size (fields_of rules (edition_taken rules.reading_default edition) s size ws)
  served-walk size ws header words e =
      let taken : ℕ = edition_taken rules.reading_default edition in
      served_reads e ∙ ap (read_fixed rules taken s) header ∙ ap (read_words rules taken s size) words

-- and its walk shows them
pub read_shown : (rules : Rules) (edition : ℕ) (s : List ℕ) (size : ℕ) (ws : List ℕ) (fs : List Field) (e : Ending) (frame : List ℕ)
    → fixed_header s ≡ given size → presence_words s size ≡ given ws → reading rules edition s ≡ read fs e frame
    → fields_of rules (edition_taken rules.reading_default edition) s size ws ≡ shown fs e
read_shown rules edition s size ws fs e frame header words h =
    go (fields_of rules (edition_taken rules.reading_default edition) s size ws)
    (sym (served-walk rules edition s size ws header words (read_served rules edition s fs e frame h)) ∙ h)
  where
    go : (x : Walk) → read_walk s size x ≡ read fs e frame → x ≡ shown fs e
    go (refused_at w b p) h = let z : ◌≡◌ {A = ℕ} 0 1 = cc in absurd (omega arith)
    go (shown fs' e') h = cc
