-- The numbers that radiotap's readers and writer refuse with, test by test.
-- Assumes nothing.
use Prim.Native.Nat.{ℕ, zero, suc, ◌+◌, ◌-◌, ◌*◌}
use mathlib.Core.Path.{◌≡◌, refl, subst}
use mathlib.Core.Bool.{Bool, true, false, cond, ◌&&◌}
use mathlib.Core.List.{List, [], ◌∷◌}
use lib.ListN.{length, get_or}
use lib.Dec.{leb, ltb, eqb}
use Rattle.refusals.specs.Refusals.{Answer, refused, given}
use Rattle.refusals.specs.declared.Reason.{Reason}
use native.Mathlib.Omega.{arith}
use Rattle.std.specs.Prelude.{ℤ}
use Rattle.octets.specs.Numbers.{little, number_at}
use Rattle.octets.specs.Signed.{signed}
use Rattle.octets.specs.Parts.{has_room}
use Rattle.radiotap_rules.specs.declared.Head.{Head}
use Rattle.radiotap_rules.specs.declared.Cursor.{Cursor}
use Rattle.radiotap_rules.specs.Rules.{Rules, edition_taken, served}
use Rattle.radiotap_rules.specs.Table.{our_rules}
use Rattle.radiotap_rules.specs.Reading.{fixed_length, length_in, fixed_header, bit_set, most_words, with_word, words_from, presence_words, word_past, edition_above, word_bits, Meaning, nothing, unknown_here, field, meaning, aligned, Field, Ending, Walk, Reading, refused_before, refused_at_field, read, read_walk, read_words, read_fixed, fields_of, refused_at, shown, reading, FieldAnswer, refused_field, the_field, no_field, nth, field_of}
use Rattle.radiotap_rules.specs.Steps.{head_of_words, head_of_fixed, head_at, Met, refused_step, over, met, met_from, met_meaning, words_of, step_of}
use Rattle.radiotap_rules.specs.Answers.{words_of_fixed, words_in, word_numbered, word_number, summary, refused_dbm, not_dbm, dbm_value, dbm_of, is_dbm}
use Rattle.radiotap_rules.specs.Writing.{header_octets, writable, plan, summed, writing}
use Rattle.radiotap_step.specs.Asked.{asked_in, step_in}
use Rattle.radiotap.specs.Says.{opening}
use Rattle.radiotap_place.specs.Places.{place_by, fresh_place, answer_taken, answer_at, moved_by, moved_on}
use Rattle.radiotap_reader.specs.Reader.{moved_times}
use Rattle.refusal_numbers.specs.Named.{NamedNumber}
use Rattle.refusal_numbers.specs.Claims.{RadiotapNamed, NamedPlace, PlacesNamed}
use Rattle.refusal_numbers.proofs.NamedAnswer.{on, NamedAnswer, refuses, gives, either_of, either, told}

fixed-named : (s : List ℕ) → NamedAnswer (fixed_header s)
unfolding fixed_header
fixed-named s =
    either (ltb (length s) fixed_length) (refuses (on Reason.ShortHeader _))
    (either (eqb (get_or s 0 0) 0)
    (either (leb fixed_length (length_in s) && leb (length_in s) (length s)) gives (refuses (on Reason.RadiotapLength _)))
    (refuses (on Reason.Version _)))

words_from-named : (s : List ℕ) (size at more : ℕ) → NamedAnswer (words_from s size at more)
words_from-named s size at zero = either (bit_set (number_at little 4 s at) 31) (refuses (on Reason.NinthWord _)) gives
words_from-named s size at (suc more) = go (bit_set (number_at little 4 s at) 31) (leb (at + 8) size) (words_from-named s size (at + 4) more)
  where
    behind-named : (a : Answer (List ℕ)) → NamedAnswer a → NamedAnswer (with_word (number_at little 4 s at) a)
    behind-named (refused n q) (refuses l) = refuses l
    behind-named (given ws) l = gives

    go : (calls inside : Bool) → NamedAnswer (words_from s size (at + 4) more)
        → NamedAnswer (elim calls [ true ↦ elim inside [ true ↦ with_word (number_at little 4 s at) (words_from s size (at + 4) more) | false ↦ refused word_past 4 ] | false ↦ given (number_at little 4 s at ∷ []) ])
    go true true l = behind-named (words_from s size (at + 4) more) l
    go true false l = refuses (on Reason.WordPastLength _)
    go false inside l = gives

words-named : (s : List ℕ) (size : ℕ) → NamedAnswer (presence_words s size)
unfolding presence_words
words-named s size = words_from-named s size 4 (most_words - 1)

head-named : (s : List ℕ) → NamedAnswer (head_at s)
unfolding head_at
head-named s = go (fixed_header s) (fixed-named s)
  where
    by_words : (size : ℕ) (a : Answer (List ℕ)) → NamedAnswer a → NamedAnswer (head_of_words size a)
    by_words size (refused n q) (refuses l) = refuses l
    by_words size (given ws) l = gives

    go : (a : Answer ℕ) → NamedAnswer a → NamedAnswer (head_of_fixed s a)
    go (refused n q) (refuses l) = refuses l
    go (given size) l = by_words size (presence_words s size) (words-named s size)

opened-named : (edition : ℕ) (s : List ℕ) → NamedAnswer (opening edition (head_at s))
opened-named edition s = either (served our_rules edition) (head-named s) (refuses (on Reason.Edition _))

word-named : (s : List ℕ) (k : ℕ) → NamedAnswer (word_number s k)
unfolding words_in
word-named s k = go (fixed_header s) (fixed-named s)
  where
    numbered : (a : Answer (List ℕ)) → NamedAnswer a → NamedAnswer (word_numbered k a)
    numbered (refused n q) (refuses l) = refuses l
    numbered (given ws) l = gives

    go : (a : Answer ℕ) → NamedAnswer a → NamedAnswer (word_numbered k (words_of_fixed s a))
    go (refused n q) (refuses l) = refuses l
    go (given size) l = numbered (presence_words s size) (words-named s size)

module _ (rules : Rules) where
  -- a reading that is refused before the first field by a named number
  data NamedReading : Reading → Type 0 where
    before : {n q : ℕ} → NamedNumber n → NamedReading (refused_before n q)
    at_field : {w b p : ℕ} → NamedReading (refused_at_field w b p)
    whole_header : {fs : List Field} {e : Ending} {frame : List ℕ} → NamedReading (read fs e frame)

  header_reads : (edition : ℕ) (s : List ℕ) → NamedReading (reading rules edition s)
  unfolding reading
  header_reads edition s = asked (served rules edition)
    where
      taken : ℕ
      taken = edition_taken rules.reading_default edition

      by_walk : (size : ℕ) (w : Walk) → NamedReading (read_walk s size w)
      by_walk size (refused_at w b p) = at_field
      by_walk size (shown fs e) = whole_header

      by_words : (size : ℕ) (a : Answer (List ℕ)) → NamedAnswer a → NamedReading (read_words rules taken s size a)
      by_words size (refused n q) (refuses l) = before l
      by_words size (given ws) l = by_walk size (fields_of rules taken s size ws)

      go : (a : Answer ℕ) → NamedAnswer a → NamedReading (read_fixed rules taken s a)
      go (refused n q) (refuses l) = before l
      go (given size) l = by_words size (presence_words s size) (words-named s size)

      asked : (t : Bool) → NamedReading (cond t (read_fixed rules taken s (fixed_header s)) (refused_before edition_above 0))
      asked true = go (fixed_header s) (fixed-named s)
      asked false = before (on Reason.Edition _)

  summary-named : (s : List ℕ) (r : Reading) → NamedReading r → NamedAnswer (summary s r)
  summary-named s (refused_before n q) (before l) = refuses l
  summary-named s (refused_at_field w b p) l = refuses (on Reason.FieldPastLength _)
  summary-named s (read fs e frame) l = gives

  field_told : (r : Reading) (k : ℕ) {n q : ℕ} → NamedReading r → field_of r k ≡ refused_field n q → NamedNumber n
  field_told r k l e = go (field_of r k) (fields r l) e
    where
      Of : FieldAnswer → Type 0
      Of (refused_field n q) = NamedNumber n
      Of (the_field f) = Unit {0}
      Of (no_field e) = Unit {0}

      nths : (fs : List Field) (e : Ending) (k : ℕ) → Of (nth fs e k)
      nths [] e k = _
      nths (f ∷ fs) e zero = _
      nths (f ∷ fs) e (suc k) = nths fs e k

      fields : (r : Reading) → NamedReading r → Of (field_of r k)
      fields (refused_before n q) (before l) = l
      fields (refused_at_field w b p) l = on Reason.FieldPastLength _
      fields (read fs e frame) l = nths fs e k

      go : (a : FieldAnswer) {n q : ℕ} → Of a → a ≡ refused_field n q → NamedNumber n
      go a l e = subst Of e l

  dbm_told : (a : FieldAnswer) {n q : ℕ} → dbm_of a ≡ refused_dbm n q → a ≡ refused_field n q
  dbm_told (refused_field m p) e = cc
  dbm_told (no_field ending) e = let z : ◌≡◌ {A = ℕ} 0 1 = cc in absurd (omega arith)
  dbm_told (the_field f) e = go (is_dbm f.bit) (signed 8 (get_or f.octets 0 0)) e
    where
      go : (t : Bool) (v : ℤ) {n q : ℕ} → cond t (dbm_value v) not_dbm ≡ refused_dbm n q → the_field f ≡ refused_field n q
      go true v e = let z : ◌≡◌ {A = ℕ} 0 1 = cc in absurd (omega arith)
      go false v e = let z : ◌≡◌ {A = ℕ} 0 1 = cc in absurd (omega arith)

  -- what is met, refused by a named number where it is refused
  data NamedMet : Met → Type 0 where
    refuses_step : {n q : ℕ} → NamedNumber n → NamedMet (refused_step n q)
    is_over : {e : Ending} → NamedMet (over e)
    is_met : {f : Field} {c : Cursor} → NamedMet (met f c)

  meets_told : {m : Met} {n q : ℕ} → NamedMet m → m ≡ refused_step n q → NamedNumber n
  meets_told l e = go (subst NamedMet e l)
    where
      go : {n q : ℕ} → NamedMet (refused_step n q) → NamedNumber n
      go (refuses_step l) = l

  from-named : (taken : ℕ) (s : List ℕ) (c : Cursor) (words : List ℕ) (left q : ℕ) → NamedMet (met_from rules taken s c words left q)
  from-named taken s c words zero q = is_over
  from-named taken s c words (suc left) q = go (meaning rules taken words q) (from-named taken s c words left (suc q))
    where
      go : (m : Meaning) → NamedMet (met_from rules taken s c words left (suc q))
          → NamedMet (met_meaning s c words q (met_from rules taken s c words left (suc q)) m)
      go nothing l = l
      go unknown_here l = is_over
      go (field r) l =
          either_of NamedMet (leb (aligned r.alignment c.at + r.size) c.size) is_met (refuses_step (on Reason.FieldPastLength _))

  step-named : (taken : ℕ) (s : List ℕ) (c : Cursor) → NamedMet (step_of rules taken s c)
  unfolding step_of
  step-named taken s c = from-named taken s c (words_of s c) (word_bits * c.words - c.position) c.position

  asked-named : (edition : ℕ) (inTaken : ℕ → Met) → ((taken : ℕ) → NamedMet (inTaken taken)) → NamedMet (asked_in rules edition inTaken)
  asked-named edition inTaken meets = go (served rules edition)
    where
      go : (t : Bool) → NamedMet (cond t (inTaken (edition_taken rules.reading_default edition)) (refused_step edition_above 0))
      go true = meets (edition_taken rules.reading_default edition)
      go false = refuses_step (on Reason.Edition _)

  asked_step-named : (edition : ℕ) (s : List ℕ) (c : Cursor) → NamedMet (step_in rules edition s c)
  unfolding step_in
  asked_step-named edition s c = asked-named edition (λ taken. step_of rules taken s c) (λ taken. step-named taken s c)

  writing-named : (size at edition word : ℕ) (values : List ℕ) → NamedAnswer (writing rules size at edition word values)
  unfolding writing
  writing-named size at edition word values =
      let taken = edition_taken rules.writing_default edition in
      either (served rules edition)
      (either (writable rules taken word)
      (either (eqb (length values) (summed (plan rules taken word)))
      (either (has_room size at (length (header_octets rules taken word values))) gives (refuses (on Reason.NoRoom _)))
      (refuses (on Reason.ValuesLength _)))
      (refuses (on Reason.UnknownBit _)))
      (refuses (on Reason.Edition _))

  pub radiotap_named : RadiotapNamed rules
  radiotap_named =
      record {
        fixed = λ s n q. told (fixed-named s);
        head = λ s n q. told (head-named s);
        opened = λ edition s n q. told (opened-named edition s);
        word = λ s k n q. told (word-named s k);
        whole = λ edition s n q. told (summary-named s (reading rules edition s) (header_reads edition s));
        numbered = λ edition s k n q. field_told (reading rules edition s) k (header_reads edition s);
        dbm = λ edition s k n q e. field_told (reading rules edition s) k (header_reads edition s) (dbm_told (field_of (reading rules edition s) k) e);
        step = λ taken s c n q. meets_told (step-named taken s c);
        step_asked = λ edition s c n q. meets_told (asked_step-named edition s c);
        writes = λ size at edition word values n q. told (writing-named size at edition word values);
      }

  -- ---- a reader's places

  answer_of_place : {place : Answer Cursor} → NamedPlace place → NamedAnswer place
  answer_of_place {place = refused n q} l = refuses (l n q refl)
  answer_of_place {place = given c} l = gives

  fresh-named : (edition : ℕ) (s : List ℕ) → NamedAnswer (fresh_place rules edition s)
  unfolding fresh_place
  fresh-named edition s = go (head_at s) (head-named s) (reading rules edition s) (header_reads edition s)
    where
      go : (h : Answer Head) → NamedAnswer h → (r : Reading) → NamedReading r → NamedAnswer (place_by h r)
      go h l (refused_before n q) (before r) = refuses r
      go h l (refused_at_field w b p) r = refuses (on Reason.FieldPastLength _)
      go (refused n q) (refuses l) (read fs e frame) r = refuses l
      go (given h) l (read fs e frame) r = gives

  answer-named : (edition : ℕ) (s : List ℕ) (place : Answer Cursor) → NamedAnswer place → NamedMet (answer_at rules edition s place)
  unfolding answer_at
  answer-named edition s place l = asked-named edition (λ taken. answer_taken rules taken s place) (λ taken. go taken place l)
    where
      go : (taken : ℕ) (place : Answer Cursor) → NamedAnswer place → NamedMet (answer_taken rules taken s place)
      go taken (refused n q) (refuses l) = refuses_step l
      go taken (given c) l = step-named taken s c

  moved-named : (edition : ℕ) (s : List ℕ) (place : Answer Cursor) → NamedAnswer place → NamedAnswer (moved_on rules edition s place)
  unfolding moved_on
  moved-named edition s place l = go (answer_at rules edition s place)
    where
      go : (m : Met) → NamedAnswer (moved_by place m)
      go (refused_step n q) = l
      go (over e) = l
      go (met f c) = gives

  times-named : (edition : ℕ) (s : List ℕ) (moves : ℕ) (place : Answer Cursor) → NamedAnswer place → NamedAnswer (moved_times rules edition s moves place)
  times-named edition s zero place l = l
  times-named edition s (suc moves) place l = times-named edition s moves (moved_on rules edition s place) (moved-named edition s place l)

  pub places_named : (edition : ℕ) (s : List ℕ) → PlacesNamed rules edition s
  places_named edition s =
      record {
        fresh = λ n q. told (fresh-named edition s);
        answered = λ place l n q. meets_told (answer-named edition s place (answer_of_place l));
        moved = λ place l n q. told (moved-named edition s place (answer_of_place l));
        after = λ moves n q.
            meets_told (answer-named edition s (moved_times rules edition s moves (fresh_place rules edition s)) (times-named edition s moves (fresh_place rules edition s) (fresh-named edition s)));
      }
