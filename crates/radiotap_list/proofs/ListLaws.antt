-- A list into which fields are put one after another: what it holds so far, and how each step carries it on or ends it.
-- Assumes nothing.
use Prim.Native.Nat.{ℕ, zero, suc, ◌+◌, ◌-◌, ◌*◌, ◌≤◌, ◌<◌, min}
use mathlib.Core.Path.{◌≡◌, refl, sym, ap, ◌∙◌, subst}
use mathlib.Core.List.{List, [], ◌∷◌, ◌++◌, append_assoc, append-nil}
use native.Mathlib.Omega.{arith}
use native.Mathlib.Nat.{min-eq_left, min-eq_right}
use lib.ListN.{length, set, take, length-append}
use lib.Seq.{sets-eq, take_at}
use Rattle.octets.specs.Parts.{part, splice}
use Rattle.octets.proofs.PartLaws.{length_part, length-splice, splice-none, splice-splice}
use Rattle.radiotap_rules.specs.declared.Cursor.{Cursor}
use Rattle.radiotap_rules.specs.Rules.{Rules}
use Rattle.radiotap_rules.specs.Reading.{Field, Ending}
use Rattle.radiotap_rules.specs.Steps.{refused_step, over, met, step_of, words_of}
use Rattle.radiotap_rules.specs.Answers.{listed}
use Rattle.radiotap_rules.proofs.Steps.{Behind, positions_left, moved_behind}
use Rattle.radiotap_list.specs.Listing.{fields_behind, first_fields}

-- four numbers stored one behind the other are one splice
pub store_four : (out : List ℕ) (at a b c d : ℕ) → at + 4 ≤ length out
    → set (set (set (set out at a) (at + 1) b) (at + 2) c) (at + 3) d ≡ splice out at (a ∷ b ∷ c ∷ d ∷ [])
unfolding splice
store_four out at a b c d h =
    let one : at + 1 ≡ suc at = omega arith in
    let two : at + 2 ≡ suc (suc at) = omega arith in
    let three : at + 3 ≡ suc (suc (suc at)) = omega arith in
    rw (one, two, three) (sets-eq (a ∷ b ∷ c ∷ d ∷ []) out at h)

-- a field has four numbers
listed-long : (fs : List Field) → length (listed fs) ≡ 4 * length fs
listed-long [] = refl
listed-long (f ∷ fs) = omega (arith, listed-long fs)

listed_append : (fs gs : List Field) → listed (fs ++ gs) ≡ listed fs ++ listed gs
listed_append [] gs = refl
listed_append (f ∷ fs) gs = ap (λ (xs : List ℕ). f.word ∷ f.bit ∷ f.place ∷ length f.octets ∷ xs) (listed_append fs gs)

module _ (rules : Rules) (edition : ℕ) (s : List ℕ) where
  -- a step moves on behind the field that it meets, whatever its cursor holds
  step-behind : (c : Cursor) {f : Field} {c' : Cursor} → step_of rules edition s c ≡ met f c'
      → Behind s c (words_of s c) (positions_left c) c.position f c'
  unfolding step_of
  step-behind c {f} {c'} e = moved_behind rules edition s c (words_of s c) (positions_left c) c.position f c' e

  -- the fields from a cursor on, by what its step meets
  fields-refused : (k : ℕ) (c : Cursor) {n p : ℕ} → step_of rules edition s c ≡ refused_step n p → first_fields rules edition s k c ≡ []
  fields-refused zero c e = refl
  fields-refused (suc k) c e = ap (fields_behind (first_fields rules edition s k)) e

  fields-over : (k : ℕ) (c : Cursor) {e : Ending} → step_of rules edition s c ≡ over e → first_fields rules edition s k c ≡ []
  fields-over zero c e = refl
  fields-over (suc k) c e = ap (fields_behind (first_fields rules edition s k)) e

  -- the list holds the fields met so far, and those from the cursor on are the rest of all
  pub record SoFar (count : ℕ) (start : Cursor) (out₀ out : List ℕ) (c : Cursor) (i : ℕ) : Type 0 where
    pub done : List Field
    pub many : length done ≡ i
    pub few : i ≤ count
    pub inside : c.size ≤ length s
    pub rest : first_fields rules edition s count start ≡ done ++ first_fields rules edition s (count - i) c
    pub list : out ≡ splice out₀ 0 (listed done)

  -- the list holds the first of all fields, so many of them
  abbrev pub Filled : (count : ℕ) (start : Cursor) (out₀ out : List ℕ) (i : ℕ) → Type 0
  Filled count start out₀ out i = out ≡ splice out₀ 0 (listed (take i (first_fields rules edition s count start)))

  module _ (count : ℕ) (start : Cursor) {out₀ out : List ℕ} {c : Cursor} {i : ℕ} (f : SoFar count start out₀ out c i) where
    first_done : take i (first_fields rules edition s count start) ≡ f.done
    first_done = ap (take i) f.rest ∙ take_at f.done (first_fields rules edition s (count - i) c) i f.many

    pub filled : Filled count start out₀ out i
    filled = f.list ∙ ap (λ (fs : List Field). splice out₀ 0 (listed fs)) (sym first_done)

    -- whatever list it was made from
    pub rebased : (base : List ℕ) → Filled count start base out i → SoFar count start base out c i
    rebased base same =
        record {
          done = f.done;
          many = f.many;
          few = f.few;
          inside = f.inside;
          rest = f.rest;
          list = same ∙ ap (λ (fs : List Field). splice base 0 (listed fs)) first_done;
        }

  module _ (count : ℕ) (start : Cursor) (out₀ : List ℕ) where
    -- at first none
    pub begins : start.size ≤ length s → SoFar count start out₀ out₀ start 0
    begins inside =
        let all : count ≡ count - 0 = omega arith in
        record {
          done = [];
          many = refl;
          few = omega arith;
          inside = inside;
          rest = ap (λ (k : ℕ). first_fields rules edition s k start) all;
          list = sym (splice-none out₀ 0);
        }

    module _ {out : List ℕ} {c : Cursor} {i : ℕ} (f : SoFar count start out₀ out c i) where
      -- the list keeps its length
      pub keeps-length : 4 * count ≤ length out₀ → length out ≡ length out₀
      keeps-length room =
          ap length f.list ∙ length-splice out₀ 0 (listed f.done) (omega (arith, listed-long f.done, f.many, f.few))

      -- where no more fields come, the list holds all
      complete : first_fields rules edition s (count - i) c ≡ [] → out ≡ splice out₀ 0 (listed (first_fields rules edition s count start))
      complete none =
          let all : first_fields rules edition s count start ≡ f.done =
          f.rest ∙ ap (λ (fs : List Field). f.done ++ fs) none ∙ append-nil f.done in
          f.list ∙ ap (λ (fs : List Field). splice out₀ 0 (listed fs)) (sym all)

      pub refuses : {n p : ℕ} → step_of rules edition s c ≡ refused_step n p
          → out ≡ splice out₀ 0 (listed (first_fields rules edition s count start))
      refuses e = complete (fields-refused (count - i) c e)

      pub finishes : {e : Ending} → step_of rules edition s c ≡ over e
          → out ≡ splice out₀ 0 (listed (first_fields rules edition s count start))
      finishes e = complete (fields-over (count - i) c e)

      -- a field that is met goes behind those before it
      pub passes : {c' : Cursor} (word bit place n : ℕ) → i < count
          → step_of rules edition s c ≡ met (record { word = word; bit = bit; place = place; octets = part s place n }) c'
          → c'.at ≡ place + n → {out' : List ℕ} → out' ≡ splice out (4 * i) (word ∷ bit ∷ place ∷ n ∷ [])
          → SoFar count start out₀ out' c' (i + 1)
      passes {c'} word bit place n more step ends {out'} put =
          let g : Field = record { word = word; bit = bit; place = place; octets = part s place n } in
          let m = step-behind c step in
          let left : count - i ≡ suc (count - (i + 1)) = omega arith in
          let next : first_fields rules edition s (count - i) c ≡ g ∷ first_fields rules edition s (count - (i + 1)) c' =
          ap (λ (k : ℕ). first_fields rules edition s k c) left
          ∙ ap (fields_behind (first_fields rules edition s (count - (i + 1)))) step in
          let size : length (part s place n) ≡ n = length_part s place n (omega (arith, ends, m.inside, f.inside)) in
          let before : 4 * i ≡ 0 + length (listed f.done) = omega (arith, listed-long f.done, f.many) in
          let four : word ∷ bit ∷ place ∷ n ∷ [] ≡ listed (g ∷ []) = ap (λ (k : ℕ). word ∷ bit ∷ place ∷ k ∷ []) (sym size) in
          record {
            done = f.done ++ (g ∷ []);
            many = omega (arith, length-append f.done (g ∷ []), f.many);
            few = omega arith;
            inside = omega (arith, m.size, f.inside);
            rest =
                f.rest
                ∙ ap (λ (fs : List Field). f.done ++ fs) next
                ∙ sym (append_assoc f.done (g ∷ []) (first_fields rules edition s (count - (i + 1)) c'));
            list =
                put
                ∙ ap (λ (xs : List ℕ). splice xs (4 * i) (word ∷ bit ∷ place ∷ n ∷ [])) f.list
                ∙ ap (λ (k : ℕ). splice (splice out₀ 0 (listed f.done)) k (word ∷ bit ∷ place ∷ n ∷ [])) before
                ∙ splice-splice out₀ 0 (listed f.done) (word ∷ bit ∷ place ∷ n ∷ []) (omega arith)
                ∙ ap (λ (xs : List ℕ). splice out₀ 0 (listed f.done ++ xs)) four
                ∙ ap (splice out₀ 0) (sym (listed_append f.done (g ∷ [])));
          }

    -- with so many fields met, of which as many are put as there is room for
    module _ {out : List ℕ} {c : Cursor} {fields : ℕ} (f : SoFar count start out₀ out c (min fields count)) where
      -- while there is room, a field that is met is put
      pub puts : fields < count → {c' : Cursor} (word bit place n : ℕ)
          → step_of rules edition s c ≡ met (record { word = word; bit = bit; place = place; octets = part s place n }) c'
          → c'.at ≡ place + n → {out' : List ℕ} → out' ≡ splice out (4 * fields) (word ∷ bit ∷ place ∷ n ∷ [])
          → SoFar count start out₀ out' c' (min (fields + 1) count)
      puts more {c'} word bit place n step ends {out'} put =
          let here : min fields count ≡ fields = min-eq_left (omega arith) in
          let next : min (fields + 1) count ≡ fields + 1 = min-eq_left (omega arith) in
          subst (SoFar count start out₀ out' c') (sym next)
          (passes (subst (SoFar count start out₀ out c) here f) word bit place n more step ends put)

      -- without room the list stays
      pub skips : count ≤ fields → {c' : Cursor} → c'.size ≡ c.size → {out' : List ℕ} → out' ≡ out
          → SoFar count start out₀ out' c' (min (fields + 1) count)
      skips all {c'} same {out'} stays =
          let full : min fields count ≡ count = min-eq_right all in
          let next : min (fields + 1) count ≡ min fields count = min-eq_right (omega arith) ∙ sym full in
          let none : count - min fields count ≡ 0 = omega (arith, full) in
          subst (SoFar count start out₀ out' c') (sym next)
          (record {
            done = f.done;
            many = f.many;
            few = f.few;
            inside = omega (arith, same, f.inside);
            rest =
                f.rest
                ∙ ap (λ (k : ℕ). f.done ++ first_fields rules edition s k c) none
                ∙ sym (ap (λ (k : ℕ). f.done ++ first_fields rules edition s k c') none);
            list = stays ∙ f.list;
          })
