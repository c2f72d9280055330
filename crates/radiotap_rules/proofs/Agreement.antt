-- Demand 3: readings in an older and a newer edition agree on every input.
-- Assumes nothing.
use Prim.Native.Nat.{ℕ, zero, suc, ◌+◌, ◌≤◌, ◌<◌}
use mathlib.Core.Path.{◌≡◌, refl, sym, ap, ◌∙◌, subst₂}
use mathlib.Core.Logic.{inl, inr}
use mathlib.Core.List.{List, [], ◌∷◌, ◌++◌}
use native.Mathlib.Omega.{arith}
use native.Mathlib.Decide.{dec_lt}
use lib.ListN.{length}
use Rattle.radiotap_rules.specs.Rules.{Row, Rules, edition_taken}
use Rattle.radiotap_rules.specs.Reading.{word_at, bit_at, Meaning, nothing, unknown_here, field, meaning, Field, Ending, ended, stopped, Walk, refused_at, shown, with_field, on_field, on_meaning, fields_from, Reading, refused_before, refused_at_field, read, frame_of, read_walk, no_field, nth}
use Rattle.radiotap_rules.proofs.Walks.{field_at, on_field_lem, by_walks, served_reads}
use Rattle.radiotap_rules.proofs.TableTests.{ours_pass}
use Rattle.radiotap_rules.proofs.Nesting.{Grows, served-grows, Means, alike, newly, means}
use Rattle.radiotap_rules.specs.Table.{our_rules}
use Rattle.radiotap_rules.specs.Editions.{NotAfter, Shows, Agree, Demand3, OursAgree}

-- if a walk refuses a field, it is none before a position
abbrev NoneBefore : ℕ → Walk → Type 0
NoneBefore q (refused_at w b p) = NotAfter (word_at q) (bit_at q) w b
NoneBefore q (shown fs e) = Unit {0}

-- a word and bit not before the next position is not before this one: positions order as word and bit
one_back : (q w b : ℕ) → NotAfter (word_at (suc q)) (bit_at (suc q)) w b → NotAfter (word_at q) (bit_at q) w b
one_back q w b (inl h) = inl (omega arith)
one_back q w b (inr h) = go (dec_lt (word_at q) w)
  where
    go : Dec (word_at q < w) → NotAfter (word_at q) (bit_at q) w b
    go (yes l) = inl l
    go (no l) = inr (omega arith)

none-before_back : (q : ℕ) (x : Walk) → NoneBefore (suc q) x → NoneBefore q x
none-before_back q (refused_at w b p) h = one_back q w b h
none-before_back q (shown fs e) h = tt

-- two walks over the same header from the same position, the older edition's and the newer's: both refuse the same
-- field, both show fields, or the newer refuses a field and the older stops at it or at an earlier one
data Beside : Walk → Walk → Type 0 where
  both_refuse : {w b p : ℕ} → Beside (refused_at w b p) (refused_at w b p)
  both_show : {fs fs' : List Field} {e e' : Ending} → Shows fs e fs' e' → Beside (shown fs e) (shown fs' e')
  stops_by : {fs : List Field} {w b w' b' p : ℕ} → NotAfter w b w' b' → Beside (shown fs (stopped w b)) (refused_at w' b' p)

both_end : (e : Ending) → Beside (shown [] e) (shown [] e)
both_end e = both_show (record { rest = []; first = refl; ending = refl })

beside_with : (f : Field) {o n : Walk} → Beside o n → Beside (with_field f o) (with_field f n)
beside_with f both_refuse = both_refuse
beside_with f (both_show h) = both_show (record { rest = h.rest; first = ap (◌∷◌ f) h.first; ending = h.ending })
beside_with f (stops_by h) = stops_by h

module _ (s : List ℕ) (size q at : ℕ) where
  none-before-field : (r : Row) (rest : ℕ → Walk) → ((at : ℕ) → NoneBefore q (rest at)) → NoneBefore q (on_field s size q at r rest)
  none-before-field r rest h =
      on_field_lem s size q at r (λ on. NoneBefore q (on rest))
      (λ place fits. through (field_at s q place r.size) (rest (place + r.size)) (h (place + r.size)))
      (λ place. inr (refl, omega arith))
    where
      through : (f : Field) (x : Walk) → NoneBefore q x → NoneBefore q (with_field f x)
      through f (refused_at w b p) h = h
      through f (shown fs e) h = h

  none-before-meaning : (m : Meaning) (rest : ℕ → Walk) → ((at : ℕ) → NoneBefore q (rest at))
      → NoneBefore q (on_meaning s size q at rest m)
  none-before-meaning nothing rest h = h at
  none-before-meaning unknown_here rest h = tt
  none-before-meaning (field r) rest h = none-before-field r rest h

  module _ (o n : ℕ → Walk) (behind : (at : ℕ) → Beside (o at) (n at)) where
    beside-alike : (m : Meaning) → Beside (on_meaning s size q at o m) (on_meaning s size q at n m)
    beside-alike nothing = behind at
    beside-alike unknown_here = both_end (stopped (word_at q) (bit_at q))
    beside-alike (field r) =
        on_field_lem s size q at r (λ on. Beside (on o) (on n))
        (λ place fits. beside_with (field_at s q place r.size) (behind (place + r.size)))
        (λ place. both_refuse)

    beside-newly : (r : Row) → NoneBefore q (on_field s size q at r n)
        → Beside (shown [] (stopped (word_at q) (bit_at q))) (on_field s size q at r n)
    beside-newly r =
        on_field_lem s size q at r (λ on. NoneBefore q (on n) → Beside (shown [] (stopped (word_at q) (bit_at q))) (on n))
        (λ place fits. go place (n (place + r.size)))
        (λ place. stops_by)
      where
        go : (place : ℕ) (x : Walk) → NoneBefore q (with_field (field_at s q place r.size) x)
            → Beside (shown [] (stopped (word_at q) (bit_at q))) (with_field (field_at s q place r.size) x)
        go place (refused_at w b p) h = stops_by h
        go place (shown fs e) h = both_show (record { rest = field_at s q place r.size ∷ fs; first = refl; ending = refl })

    beside-meaning : {m m' : Meaning} → Means m m' → NoneBefore q (on_meaning s size q at n m')
        → Beside (on_meaning s size q at o m) (on_meaning s size q at n m')
    beside-meaning (alike {m}) later = beside-alike m
    beside-meaning (newly {r}) later = beside-newly r later

module _ (rules : Rules) (s : List ℕ) (size : ℕ) (words : List ℕ) where
  none_before : (edition left q at : ℕ) → NoneBefore q (fields_from rules edition s size words left q at)
  none_before edition zero q at = tt
  none_before edition (suc left) q at =
      none-before-meaning s size q at (meaning rules edition words q) (fields_from rules edition s size words left (suc q))
      (λ at. none-before_back q (fields_from rules edition s size words left (suc q) at) (none_before edition left (suc q) at))

  beside : (older newer : ℕ) → Grows rules older newer → (left q at : ℕ)
      → Beside (fields_from rules older s size words left q at) (fields_from rules newer s size words left q at)
  beside older newer grows zero q at = both_end ended
  beside older newer grows (suc left) q at =
      beside-meaning s size q at (fields_from rules older s size words left (suc q)) (fields_from rules newer s size words left (suc q))
      (beside older newer grows left (suc q)) (means rules older newer words q grows) (none_before newer (suc left) q at)

-- what field numbers answer, where the older's fields are the first of the newer's
numbers-same : (fs rest : List Field) (e e' : Ending) (k : ℕ) → k < length fs → nth fs e k ≡ nth (fs ++ rest) e' k
numbers-same [] rest e e' k h = absurd (omega arith)
numbers-same (f ∷ fs) rest e e' zero h = refl
numbers-same (f ∷ fs) rest e e' (suc k) h = numbers-same fs rest e e' k (omega arith)

numbers-further : (fs : List Field) (e : Ending) (k : ℕ) → length fs ≤ k → nth fs e k ≡ no_field e
numbers-further [] e k h = refl
numbers-further (f ∷ fs) e zero h = absurd (omega arith)
numbers-further (f ∷ fs) e (suc k) h = numbers-further fs e k (omega arith)

-- a reading that shows no field agrees with itself
agree_unread : (x : Reading) → ((fs : List Field) (e : Ending) (frame : List ℕ) → x ≡ read fs e frame → ⊥) → Agree x x
agree_unread x unread =
    record {
      before = λ number place. (λ h. h, λ h. h);
      reads = λ fs e frame h. absurd (unread fs e frame h);
      refuses = λ word bit place h. inl h;
      frame = λ fs fs' e e' frame frame' h h'. absurd (unread fs e frame h);
    }

agree-before : (number place : ℕ) → Agree (refused_before number place) (refused_before number place)
agree-before number place =
    agree_unread (refused_before number place) (λ fs e frame h. let z : ◌≡◌ {A = ℕ} 0 1 = cc in omega arith)

-- walks beside each other make readings that agree
agree_walks : (s : List ℕ) (size : ℕ) {o n : Walk} → Beside o n → Agree (read_walk s size o) (read_walk s size n)
agree_walks s size (both_refuse {w} {b} {p}) =
    agree_unread (refused_at_field w b p) (λ fs e frame h. let z : ◌≡◌ {A = ℕ} 0 1 = cc in omega arith)
agree_walks s size (both_show {fs} {fs'} {e} {e'} h) =
    record {
      before = λ number place.
          (λ x. let z : ◌≡◌ {A = ℕ} 0 1 = cc in absurd (omega arith), λ x. let z : ◌≡◌ {A = ℕ} 0 1 = cc in absurd (omega arith));
      reads = λ fs'' e'' frame x.
          record {
            fields = fs;
            ending = e;
            older = cc;
            shows = subst₂ (Shows fs e) (cc) (cc) h;
            numbers =
                record {
                  same = λ k l. numbers-same fs h.rest e e' k l ∙ rw h.first;
                  further = numbers-further fs e;
                };
          };
      refuses = λ word bit place x. let z : ◌≡◌ {A = ℕ} 0 1 = cc in absurd (omega arith);
      frame = λ fs₁ fs₂ e₁ e₂ frame frame' x x'. cc;
    }
agree_walks s size (stops_by {fs} {w} {b} {w'} {b'} {p} h) =
    record {
      before = λ number place.
          (λ x. let z : ◌≡◌ {A = ℕ} 0 1 = cc in absurd (omega arith), λ x. let z : ◌≡◌ {A = ℕ} 0 1 = cc in absurd (omega arith));
      reads = λ fs'' e'' frame x. let z : ◌≡◌ {A = ℕ} 0 1 = cc in absurd (omega arith);
      refuses = λ word bit place x.
          inr
          (record {
            fields = fs;
            stop_word = w;
            stop_bit = b;
            frame = frame_of s size;
            older = refl;
            not_after = subst₂ (NotAfter w b) (cc) (cc) h;
          });
      frame = λ fs₁ fs₂ e₁ e₂ frame frame' x x'. let z : ◌≡◌ {A = ℕ} 0 1 = cc in absurd (omega arith);
    }

-- demand 3: an older and a newer served edition agree on every input
pub demand_3 : Demand3
demand_3 rules older newer s ok nests servedOlder servedNewer l =
    subst₂ Agree (sym (served_reads rules older s servedOlder)) (sym (served_reads rules newer s servedNewer))
    (by_walks s (λ readIn. Agree (readIn rules o) (readIn rules n))
    agree-before
    (λ size h words left q at. agree_walks s size (beside rules s size words o n grows left q at)))
  where
    o : ℕ
    o = edition_taken rules.reading_default older

    n : ℕ
    n = edition_taken rules.reading_default newer

    grows : Grows rules o n
    grows = served-grows rules o newer ok nests servedNewer l

-- demand 3 for the table of document 01
pub agree_ours : OursAgree
agree_ours older newer s = demand_3 our_rules older newer s ours_pass.table ours_pass.nests
