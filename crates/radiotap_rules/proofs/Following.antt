-- Every reading tells its fields by the set bits in their order and the places: position by position along the walk.
-- Assumes nothing.
use Prim.Native.Nat.{ℕ, zero, suc, ◌+◌, ◌-◌, ◌*◌, ◌/◌, ◌≤◌, ◌<◌}
use mathlib.Core.Path.{◌≡◌, sym, ap, ◌∙◌, subst}
use mathlib.Core.Bool.{true, false}
use mathlib.Core.Logic.{◌⊎◌, inl, inr}
use mathlib.Core.List.{List, [], ◌∷◌}
use native.Mathlib.Omega.{arith}
use native.Mathlib.Nat.{mul-mod_left, div-mul-le_self}
use native.Mathlib.Decide.{dec_le, ℕ_discrete}
use lib.ListN.{length, take-append-drop}
use Rattle.radiotap_rules.specs.Rules.{Row, Rules, row_of, knows, table_ok, edition_taken}
use Rattle.radiotap_rules.specs.Reading.{word_at, bit_at, row_number, present, Meaning, nothing, unknown_here, field, meaning, aligned, Field, Ending, ended, stopped, Walk, refused_at, shown, with_field, on_field, on_meaning, fields_from, fields_of, read_walk}
use Rattle.radiotap_rules.specs.Words.{position, StartsAgain, Continued}
use Rattle.radiotap_rules.specs.Following.{NoneBetween, First, NextMultiple, Follows, Ends, Along, Past, Tells, FieldsFollow}
use Rattle.radiotap_rules.proofs.Walks.{field_at, field-shown, field-refused, served-walk}
use Rattle.radiotap_rules.proofs.Meanings.{MeansSo, means_so}
use Rattle.radiotap_rules.proofs.Numbering.{starts_at_0, either-word, known-again, number_bit}
use Rattle.radiotap_rules.proofs.TableTests.{known-aligned}
use Rattle.radiotap_rules.proofs.Planning.{aligned_after}

-- the place that an alignment gives is the next multiple of it
next_multiple : (a at : ℕ) → 0 < a → NextMultiple a at (aligned a at)
next_multiple a at h =
    record {
      multiple = mul-mod_left ((at + (a - 1)) / a) a;
      after = aligned_after a at h;
      next = omega (arith, div-mul-le_self (at + (a - 1)) a);
    }

module _ (ws : List ℕ) (q : ℕ) where
  -- the word and bit of a position are its own
  own-position : position (word_at q) (bit_at q) ≡ q
  own-position = omega arith

  -- a set bit at a position is the first from it on
  first_here : present ws q ≡ true → First ws q (word_at q) (bit_at q)
  first_here set =
      record {
        bits = omega arith;
        order = omega arith;
        set = set;
        between = λ word bit l from to set. absurd (omega arith);
      }

  module _ (none : present ws q ≡ true → (bit_at q ≡ 29) ⊎ (bit_at q ≡ 31)) where
    -- a position that carries no field comes before one from which on there is none
    none_back : (q' : ℕ) → NoneBetween ws (suc q) q' → NoneBetween ws q q'
    none_back q' h word bit l from to set = go (ℕ_discrete (position word bit) q)
      where
        go : Dec (position word bit ≡ q) → (bit ≡ 29) ⊎ (bit ≡ 31)
        go (yes e) =
            let w : word_at q ≡ word = omega arith in
            let b : bit_at q ≡ bit = omega arith in
            rw (w, b) at none set
        go (no e) = h word bit l (omega arith) to set

    first_back : {word bit : ℕ} → First ws (suc q) word bit → First ws q word bit
    first_back {word} {bit} h =
        record {
          bits = h.bits;
          order = let l = h.order in omega arith;
          set = h.set;
          between = none_back (position word bit) h.between;
        }

    module _ (rules : Rules) (edition : ℕ) where
      follows_back : {at word bit start : ℕ} → Follows rules edition ws (suc q) at word bit start
          → Follows rules edition ws q at word bit start
      follows_back h = record {
        first = first_back h.first;
        carries = h.carries;
        again = h.again;
        known = h.known;
        starts = h.starts;
      }

      ends_back : (e : Ending) → Ends rules edition ws e (suc q) → Ends rules edition ws e q
      ends_back ended h = none_back (32 * length ws) h
      ends_back (stopped word bit) h = (first_back h.0, h.1)

      along_back : (size at : ℕ) (fs : List Field) (Last : ℕ → ℕ → Type 0) → (Last (suc q) at → Last q at)
          → Along rules edition ws size (suc q) at fs Last → Along rules edition ws size q at fs Last
      along_back size at [] Last back h = back h
      along_back size at (f ∷ fs) Last back h = (follows_back h.0, h.1, h.2)

-- what is known of a position that means something, by its word and bit
abbrev TellsSo : Rules → (edition : ℕ) → (ws : List ℕ) → (q : ℕ) → Meaning → Type 0
TellsSo rules edition ws q nothing = present ws q ≡ true → (bit_at q ≡ 29) ⊎ (bit_at q ≡ 31)
TellsSo rules edition ws q unknown_here =
    (present ws q ≡ true)
    × ((bit_at q ≡ 30) ⊎ ((bit_at q ≤ 28) × (Continued ws (word_at q) ⊎ (knows rules edition (bit_at q) ≡ false))))
TellsSo rules edition ws q (field r) =
    (present ws q ≡ true)
    × (bit_at q ≤ 28)
    × StartsAgain ws (word_at q)
    × (knows rules edition (bit_at q) ≡ true)
    × (r ≡ row_of rules (bit_at q))

-- what a walk tells from a position and a place on
abbrev WalkTells : Rules → (edition : ℕ) → (ws : List ℕ) → (size q at : ℕ) → Walk → Type 0
WalkTells rules edition ws size q at (refused_at word bit place) = Past rules edition ws size q at word bit place
WalkTells rules edition ws size q at (shown fs e) = Along rules edition ws size q at fs (λ q at. Ends rules edition ws e q)

module _ (rules : Rules) (edition : ℕ) (ok : table_ok rules ≡ true) (s ws : List ℕ) (size : ℕ) where
  -- by the number of its row a field is known in a word that starts again, and unknown there or in a continued one
  tells_so : (q : ℕ) (m : Meaning) → MeansSo rules edition ws q (row_number ws q) m → TellsSo rules edition ws q m
  tells_so q nothing so = so
  tells_so q unknown_here so = (so.0, stop so.1)
    where
      unknown : StartsAgain ws (word_at q) ⊎ Continued ws (word_at q) → knows rules edition (row_number ws q) ≡ false
          → Continued ws (word_at q) ⊎ (knows rules edition (bit_at q) ≡ false)
      unknown (inl again) e =
          let n : row_number ws q ≡ bit_at q = omega (arith, starts_at_0 ws (word_at q) again) in
          inr (sym (ap (knows rules edition) n) ∙ e)
      unknown (inr on) e = inl on

      stop : (bit_at q ≡ 30) ⊎ ((bit_at q ≤ 28) × (knows rules edition (row_number ws q) ≡ false))
          → (bit_at q ≡ 30) ⊎ ((bit_at q ≤ 28) × (Continued ws (word_at q) ⊎ (knows rules edition (bit_at q) ≡ false)))
      stop (inl vendor) = inl vendor
      stop (inr low) = inr (low.0, unknown (either-word ws (word_at q)) low.1)
  tells_so q (field r) so =
      let n : row_number ws q ≡ bit_at q = number_bit rules ok edition ws q so.2 in (
        so.0,
        so.1,
        known-again rules ok edition ws (word_at q) (bit_at q) so.2,
        sym (ap (knows rules edition) n) ∙ so.2,
        so.3 ∙ ap (row_of rules) n,
      )

  -- past a position that carries no field
  tells_back : (q at : ℕ) → (present ws q ≡ true → (bit_at q ≡ 29) ⊎ (bit_at q ≡ 31)) → (x : Walk)
      → WalkTells rules edition ws size (suc q) at x → WalkTells rules edition ws size q at x
  tells_back q at none (refused_at word bit place) h =
      record {
        fields = h.fields;
        along =
            along_back ws q none rules edition size at h.fields
            (λ q at. Follows rules edition ws q at word bit place × (size < place + (row_of rules bit).size))
            (λ last. (follows_back ws q none rules edition last.0, last.1)) h.along;
      }
  tells_back q at none (shown fs e) h =
      along_back ws q none rules edition size at fs (λ q at. Ends rules edition ws e q) (ends_back ws q none rules edition e) h

  -- with a field that follows
  tells-field : (q at place : ℕ) → Follows rules edition ws q at (word_at q) (bit_at q) place
      → place + (row_of rules (bit_at q)).size ≤ size → (x : Walk)
      → WalkTells rules edition ws size (suc q) (place + (row_of rules (bit_at q)).size) x
      → WalkTells rules edition ws size q at (with_field (field_at s q place (row_of rules (bit_at q)).size) x)
  tells-field q at place follows inside (refused_at word bit start) h =
      record {
        fields = field_at s q place (row_of rules (bit_at q)).size ∷ h.fields;
        along = (follows, inside, rw (own-position ws q) h.along);
      }
  tells-field q at place follows inside (shown fs e) h = (follows, inside, rw (own-position ws q) h)

  tells-meaning : (q at : ℕ) (rest : ℕ → Walk) (m : Meaning) → TellsSo rules edition ws q m
      → ((at : ℕ) → WalkTells rules edition ws size (suc q) at (rest at))
      → WalkTells rules edition ws size q at (on_meaning s size q at rest m)
  tells-meaning q at rest nothing so h = tells_back q at so (rest at) (h at)
  tells-meaning q at rest unknown_here so h = (first_here ws q so.0, so.1)
  tells-meaning q at rest (field r) so h = rw so.4 (go (dec_le next size))
    where
      row : Row
      row = row_of rules (bit_at q)

      place : ℕ
      place = aligned row.alignment at

      next : ℕ
      next = place + row.size

      follows : Follows rules edition ws q at (word_at q) (bit_at q) place
      follows =
          record {
            first = first_here ws q so.0;
            carries = so.1;
            again = so.2;
            known = so.3;
            starts = next_multiple row.alignment at (known-aligned rules edition (bit_at q) ok so.3);
          }

      go : Dec (next ≤ size) → WalkTells rules edition ws size q at (on_field s size q at row rest)
      go (yes l) =
          subst (WalkTells rules edition ws size q at) (sym (field-shown s size q at row l rest))
          (tells-field q at place follows l (rest next) (h next))
      go (no l) =
          let past : size < next = omega arith in
          subst (WalkTells rules edition ws size q at) (sym (field-refused s size q at row past rest))
          (record { fields = []; along = (follows, past) })

  walk-tells : (left q at : ℕ) → q + left ≡ 32 * length ws
      → WalkTells rules edition ws size q at (fields_from rules edition s size ws left q at)
  walk-tells zero q at count = λ word bit l from to set. absurd (omega arith)
  walk-tells (suc left) q at count =
      tells-meaning q at (fields_from rules edition s size ws left (suc q)) (meaning rules edition ws q)
      (tells_so q (meaning rules edition ws q) (means_so rules edition ws q))
      (λ at. walk-tells left (suc q) at (omega arith))

  whole_tells : WalkTells rules edition ws size 0 (4 + 4 * length ws) (fields_of rules edition s size ws)
  unfolding fields_of
  whole_tells = walk-tells (32 * length ws) 0 (4 + 4 * length ws) (omega arith)

  reading-tells : (x : Walk) → WalkTells rules edition ws size 0 (4 + 4 * length ws) x
      → Tells rules edition s ws size (read_walk s size x)
  reading-tells (refused_at word bit place) h = h
  reading-tells (shown fs e) h = (h, take-append-drop size s)

-- every reading of a header that is not refused before the first field tells its fields so
pub fields_follow : FieldsFollow
fields_follow rules edition s size ws ok servedHere header words =
    let taken : ℕ = edition_taken rules.reading_default edition in
    subst (Tells rules taken s ws size) (sym (served-walk rules edition s size ws header words servedHere))
    (reading-tells rules taken ok s ws size (fields_of rules taken s size ws) (whole_tells rules taken ok s ws size))
