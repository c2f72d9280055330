-- The presence words of a header: what they are, how many, where they lie, when they are refused, and that a cursor has
-- them. Word by word from a place on, each answer is shown with its condition, and no two of the conditions hold.
-- Assumes nothing.
use Prim.Native.Nat.{ℕ, zero, suc, ◌+◌, ◌-◌, ◌*◌, ◌≤◌, ◌<◌}
use mathlib.Core.Path.{◌≡◌, refl, sym, ap, ap₂, ◌∙◌, subst}
use mathlib.Core.Bool.{Bool, true, false, cond}
use mathlib.Core.Logic.{◌⊎◌, inl, inr}
use mathlib.Core.List.{List, [], ◌∷◌}
use native.Mathlib.Omega.{arith}
use native.Mathlib.Decide.{dec_le, dec_lt}
use lib.ListN.{length, get_or}
use lib.Seq.{ext_get_or}
use lib.Dec.{ltb, eqb}
use borrow.Author.Tests.{le-leb, lt-leb, lt-ltb, le-ltb, eqb-true}
use Rattle.refusals.specs.Refusals.{Answer, refused, given}
use Rattle.octets.specs.Numbers.{little, number_at}
use Rattle.radiotap_rules.specs.declared.Cursor.{Cursor}
use Rattle.radiotap_rules.specs.Reading.{ninth_word, word_past, bit_set, most_words, with_word, words_from, presence_words, word_at}
use Rattle.radiotap_rules.specs.Words.{Calling, HeaderWords, CallPast, WordsExactly}
use Rattle.radiotap_rules.specs.Steps.{words_for, words_of}

-- bit 31 of the word at a place
abbrev BitAt : List ℕ → Bool → (at : ℕ) → Type 0
BitAt s t at = bit_set (number_at little 4 s at) 31 ≡ t

-- the first so many words from a place on call for another
abbrev CallFrom : List ℕ → (at n : ℕ) → Type 0
CallFrom s at n = (k : ℕ) → k < n → BitAt s true (at + 4 * k)

-- the words that are given from a place on, of which so many more may follow
record GivenFrom (s : List ℕ) (size at more : ℕ) (ws : List ℕ) : Type 0 where
  others : ℕ
  count : length ws ≡ suc others
  few : others ≤ more
  inside : at + 4 ≤ size → at + 4 * length ws ≤ size
  numbers : (k : ℕ) → k < length ws → get_or ws k 0 ≡ number_at little 4 s (at + 4 * k)
  calls : CallFrom s at others
  last : BitAt s false (at + 4 * others)

-- a refusal of the words from a place on: all that may follow are called for and one more, or one runs past the length
data RefusedFrom (s : List ℕ) (size at more : ℕ) : (number place : ℕ) → Type 0 where
  ninth_from : (at + 4 ≤ size → at + 4 * suc more ≤ size) → CallFrom s at (suc more) → RefusedFrom s size at more 11 4
  past_from : (n : ℕ) → n < more → (at + 4 ≤ size → at + 4 * suc n ≤ size) → size < at + 4 * suc (suc n) → CallFrom s at (suc n)
      → RefusedFrom s size at more 10 4

abbrev AnswerFrom : List ℕ → (size at more : ℕ) → Answer (List ℕ) → Type 0
AnswerFrom s size at more (refused number place) = RefusedFrom s size at more number place
AnswerFrom s size at more (given ws) = GivenFrom s size at more ws

module _ (s : List ℕ) (size at : ℕ) where
  -- the first word stands at the place
  first_there : at ≡ at + 4 * 0
  first_there = omega arith

  -- the others stand behind it
  next_there : (k : ℕ) → at + 4 + 4 * k ≡ at + 4 * suc k
  next_there k = omega arith

  -- one word more that calls for another
  call_first : (n : ℕ) → BitAt s true at → CallFrom s (at + 4) n → CallFrom s at (suc n)
  call_first n here rest zero h = subst (BitAt s true) first_there here
  call_first n here rest (suc k) h = subst (BitAt s true) (next_there k) (rest k (omega arith))

  -- the last word
  last_word : (more : ℕ) → BitAt s false at → GivenFrom s size at more (number_at little 4 s at ∷ [])
  last_word more clear =
      record {
        others = 0;
        count = refl;
        few = omega arith;
        inside = λ h. omega arith;
        numbers = numbers;
        calls = λ k h. absurd (omega arith);
        last = subst (BitAt s false) first_there clear;
      }
    where
      numbers : (k : ℕ) → k < 1 → get_or (number_at little 4 s at ∷ []) k 0 ≡ number_at little 4 s (at + 4 * k)
      numbers zero h = ap (number_at little 4 s) first_there
      numbers (suc k) h = absurd (omega arith)

  -- a word and those behind it
  next_given : (more : ℕ) → at + 8 ≤ size → BitAt s true at → (ws : List ℕ) → GivenFrom s size (at + 4) more ws
      → GivenFrom s size at (suc more) (number_at little 4 s at ∷ ws)
  next_given more room here ws h =
      let inside = h.inside (omega arith) in
      record {
        others = suc h.others;
        count = ap suc h.count;
        few = omega (arith, h.few);
        inside = λ l. omega arith;
        numbers = numbers;
        calls = call_first h.others here h.calls;
        last = subst (BitAt s false) (next_there h.others) h.last;
      }
    where
      numbers : (k : ℕ) → k < suc (length ws) → get_or (number_at little 4 s at ∷ ws) k 0 ≡ number_at little 4 s (at + 4 * k)
      numbers zero l = ap (number_at little 4 s) first_there
      numbers (suc k) l = h.numbers k (omega arith) ∙ ap (number_at little 4 s) (next_there k)

  next_refused : (more : ℕ) → at + 8 ≤ size → BitAt s true at → {number place : ℕ} → RefusedFrom s size (at + 4) more number place
      → RefusedFrom s size at (suc more) number place
  next_refused more room here (ninth_from inside calls) =
      let inside' = inside (omega arith) in ninth_from (λ l. omega arith) (call_first (suc more) here calls)
  next_refused more room here (past_from n few inside past calls) =
      let inside' = inside (omega arith) in
      past_from (suc n) (omega arith) (λ l. omega arith) (omega arith) (call_first (suc n) here calls)

  next_word : (more : ℕ) → at + 8 ≤ size → BitAt s true at → (x : Answer (List ℕ)) → AnswerFrom s size (at + 4) more x
      → AnswerFrom s size at (suc more) (with_word (number_at little 4 s at) x)
  next_word more room here (refused number place) h = next_refused more room here h
  next_word more room here (given ws) h = next_given more room here ws h

  -- a word that calls for one more than may follow, or for one that runs past the length
  ninth-here : BitAt s true at → RefusedFrom s size at zero ninth_word 4
  ninth-here here = ninth_from (λ h. omega arith) (call_first 0 here (λ k h. absurd (omega arith)))

  past_here : (more : ℕ) → size < at + 8 → BitAt s true at → RefusedFrom s size at (suc more) word_past 4
  past_here more past here = past_from 0 (omega arith) (λ h. omega arith) (omega arith) (call_first 0 here (λ k h. absurd (omega arith)))

  -- the answers by the word's bit 31 and the room: a word that calls for none is the last
  from_last : (more : ℕ) → BitAt s false at → words_from s size at more ≡ given (number_at little 4 s at ∷ [])
  from_last zero clear = rw clear
  from_last (suc more) clear = rw (clear, words_from)

  from-ninth : BitAt s true at → words_from s size at zero ≡ refused ninth_word 4
  from-ninth calls = rw calls

  from_past : (more : ℕ) → BitAt s true at → size < at + 8 → words_from s size at (suc more) ≡ refused word_past 4
  from_past more calls past = rw (calls, lt-leb (at + 8) size past, words_from)

  from_next : (more : ℕ) → BitAt s true at → at + 8 ≤ size
      → words_from s size at (suc more) ≡ with_word (number_at little 4 s at) (words_from s size (at + 4) more)
  from_next more calls room = rw (calls, le-leb (at + 8) size room, words_from)

-- what is answered of the words from a place on, with its condition
answer-from : (s : List ℕ) (size at more : ℕ) → AnswerFrom s size at more (words_from s size at more)
answer-from s size at zero = go (bit_set (number_at little 4 s at) 31) refl
  where
    go : (t : Bool) → BitAt s t at → AnswerFrom s size at zero (words_from s size at zero)
    go true e = subst (AnswerFrom s size at zero) (sym (from-ninth s size at e)) (ninth-here s size at e)
    go false e = subst (AnswerFrom s size at zero) (sym (from_last s size at zero e)) (last_word s size at zero e)
answer-from s size at (suc more) = go (bit_set (number_at little 4 s at) 31) refl (dec_le (at + 8) size) (answer-from s size (at + 4) more)
  where
    go : (t : Bool) → BitAt s t at → Dec (at + 8 ≤ size) → AnswerFrom s size (at + 4) more (words_from s size (at + 4) more)
        → AnswerFrom s size at (suc more) (words_from s size at (suc more))
    go true e (yes room) rest =
        subst (AnswerFrom s size at (suc more)) (sym (from_next s size at more e room))
        (next_word s size at more room e (words_from s size (at + 4) more) rest)
    go true e (no l) rest =
        let past : size < at + 8 = omega arith in
        subst (AnswerFrom s size at (suc more)) (sym (from_past s size at more e past)) (past_here s size at more past e)
    go false e d rest = subst (AnswerFrom s size at (suc more)) (sym (from_last s size at (suc more) e)) (last_word s size at (suc more) e)

module _ (s : List ℕ) (size : ℕ) (ws : List ℕ) (e : presence_words s size ≡ given ws) where
  words-given : GivenFrom s size 4 (most_words - 1) ws
  unfolding presence_words
  words-given = subst (AnswerFrom s size 4 (most_words - 1)) e (answer-from s size 4 (most_words - 1))

  -- each word is the number at its place
  pub words_at : (k : ℕ) → k < length ws → get_or ws k 0 ≡ number_at little 4 s (4 + 4 * k)
  words_at = words-given.numbers

  -- there is one word at least, and at most 8
  pub words-few : (1 ≤ length ws) × (length ws ≤ most_words)
  words-few = (omega (arith, words-given.count), omega (arith, words-given.count, words-given.few))

  -- they lie inside the length
  pub words_inside : 8 ≤ size → 4 + 4 * length ws ≤ size
  words_inside = words-given.inside

  -- a word calls for another where one follows
  pub calls_where_followed : (k : ℕ) → k < length ws → bit_set (get_or ws k 0) 31 ≡ ltb (k + 1) (length ws)
  calls_where_followed k l = ap (λ (w : ℕ). bit_set w 31) (words_at k l) ∙ go (dec_lt k words-given.others)
    where
      go : Dec (k < words-given.others) → BitAt s (ltb (k + 1) (length ws)) (4 + 4 * k)
      go (yes m) = words-given.calls k m ∙ sym (lt-ltb (k + 1) (length ws) (omega (arith, words-given.count)))
      go (no m) =
          let there : words-given.others ≡ k = omega (arith, words-given.count) in
          subst (λ (n : ℕ). BitAt s false (4 + 4 * n)) there words-given.last
          ∙ sym (le-ltb (k + 1) (length ws) (omega (arith, words-given.count)))

  -- the last one calls for none
  pub last_calls-none : bit_set (get_or ws (length ws - 1) 0) 31 ≡ false
  last_calls-none =
      let some = words-few.0 in
      calls_where_followed (length ws - 1) (omega arith) ∙ le-ltb (length ws - 1 + 1) (length ws) (omega arith)

-- what is answered of the words, with its condition
abbrev Answered : List ℕ → (size : ℕ) → Answer (List ℕ) → Type 0
Answered s size (refused number place) = (place ≡ 4) × (((number ≡ 11) × Calling s size 8) ⊎ ((number ≡ 10) × CallPast s size))
Answered s size (given ws) = HeaderWords s size ws

answered : (s : List ℕ) (size : ℕ) → 8 ≤ size → Answered s size (presence_words s size)
unfolding presence_words
answered s size room = go (words_from s size 4 (most_words - 1)) (answer-from s size 4 (most_words - 1))
  where
    refusal : {number place : ℕ} → RefusedFrom s size 4 (most_words - 1) number place → Answered s size (refused number place)
    refusal (ninth_from inside calls) = (refl, inl (refl, record { inside = inside room; calls = calls }))
    refusal (past_from n few inside past calls) = (
      refl,
      inr (refl, record { words = suc n; few = omega arith; calling = record { inside = inside room; calls = calls }; past = past }),
    )

    go : (x : Answer (List ℕ)) → AnswerFrom s size 4 (most_words - 1) x → Answered s size x
    go (refused number place) h = refusal h
    go (given ws) h =
        let inside = h.inside room in
        record {
          others = h.others;
          count = h.count;
          few = omega (arith, h.few, h.count);
          inside = inside;
          numbers = h.numbers;
          calling = record { inside = omega (arith, h.count); calls = h.calls };
          last = h.last;
        }

module _ (s : List ℕ) (size : ℕ) where
  -- no two of the conditions hold
  call_and_none : {t : Bool} → t ≡ true → t ≡ false → ⊥
  call_and_none a b = let z : ◌≡◌ {A = ℕ} 0 1 = cc in omega arith

  words_no_ninth : (ws : List ℕ) → HeaderWords s size ws → Calling s size 8 → ⊥
  words_no_ninth ws h c = call_and_none (c.calls h.others (omega (arith, h.few, h.count))) h.last

  words_no_past : (ws : List ℕ) → HeaderWords s size ws → CallPast s size → ⊥
  words_no_past ws h c = call_and_none (c.calling.calls h.others (omega (arith, h.inside, h.count, c.past))) h.last

  ninth_no_past : Calling s size 8 → CallPast s size → ⊥
  ninth_no_past h c = omega (arith, h.inside, c.few, c.past)

  same-words : (ws ws' : List ℕ) → HeaderWords s size ws → HeaderWords s size ws' → ws ≡ ws'
  same-words ws ws' h h' = go (dec_lt h.others h'.others) (dec_lt h'.others h.others)
    where
      go : Dec (h.others < h'.others) → Dec (h'.others < h.others) → ws ≡ ws'
      go (yes l) d = absurd (call_and_none (h'.calling.calls h.others l) h.last)
      go (no l) (yes l') = absurd (call_and_none (h.calling.calls h'.others l') h'.last)
      go (no l) (no l') =
          let long : length ws ≡ length ws' = omega (arith, h.count, h'.count) in
          ext_get_or 0 ws ws' long (λ k m. h.numbers k m ∙ sym (h'.numbers k (omega arith)))

-- each answer of the presence words is given exactly when its condition holds
pub words-exactly : WordsExactly
words-exactly s size room =
    record {
      words = λ ws. (λ e. subst (Answered s size) e answer, λ h. to_words ws h (presence_words s size) answer);
      ninth = (λ e. of_ninth (subst (Answered s size) e answer), λ h. to_ninth h (presence_words s size) answer);
      past = (λ e. of_past (subst (Answered s size) e answer), λ h. to_past h (presence_words s size) answer);
      no_other = λ number place e. no_other_lem number place (subst (Answered s size) e answer);
    }
  where
    answer : Answered s size (presence_words s size)
    answer = answered s size room

    to_words : (ws : List ℕ) → HeaderWords s size ws → (x : Answer (List ℕ)) → Answered s size x → x ≡ given ws
    to_words ws h (refused number place) (q, inl c) = absurd (words_no_ninth s size ws h c.1)
    to_words ws h (refused number place) (q, inr c) = absurd (words_no_past s size ws h c.1)
    to_words ws h (given ws') h' = ap given (same-words s size ws' ws h' h)

    of_ninth : Answered s size (refused 11 4) → Calling s size 8
    of_ninth (q, inl c) = c.1
    of_ninth (q, inr c) = absurd (omega (arith, c.0))

    to_ninth : Calling s size 8 → (x : Answer (List ℕ)) → Answered s size x → x ≡ refused 11 4
    to_ninth h (refused number place) (q, inl c) = rw (q, c.0)
    to_ninth h (refused number place) (q, inr c) = absurd (ninth_no_past s size h c.1)
    to_ninth h (given ws) h' = absurd (words_no_ninth s size ws h' h)

    of_past : Answered s size (refused 10 4) → CallPast s size
    of_past (q, inl c) = absurd (omega (arith, c.0))
    of_past (q, inr c) = c.1

    to_past : CallPast s size → (x : Answer (List ℕ)) → Answered s size x → x ≡ refused 10 4
    to_past h (refused number place) (q, inl c) = absurd (ninth_no_past s size c.1 h)
    to_past h (refused number place) (q, inr c) = rw (q, c.0)
    to_past h (given ws) h' = absurd (words_no_past s size ws h' h)

    no_other_lem : (number place : ℕ) → Answered s size (refused number place) → (place ≡ 4) × ((number ≡ 11) ⊎ (number ≡ 10))
    no_other_lem number place (q, inl c) = (q, inl c.0)
    no_other_lem number place (q, inr c) = (q, inr c.0)

-- a cursor with the word at its position has the numbers from an index on as its words
cursor_words : (s : List ℕ) (c : Cursor) (i : ℕ) (ws : List ℕ) → c.bits ≡ number_at little 4 s (4 + 4 * word_at c.position)
    → ((k : ℕ) → k < length ws → get_or ws k 0 ≡ number_at little 4 s (4 + 4 * (i + k))) → words_for s c i (length ws) ≡ ws
cursor_words s c i [] bits numbers = refl
cursor_words s c i (w ∷ ws) bits numbers =
    ap₂ ◌∷◌ (go (eqb i (word_at c.position)) refl ∙ sym first)
    (cursor_words s c (suc i) ws bits
    (λ k l. numbers (suc k) (omega arith) ∙ ap (λ (n : ℕ). number_at little 4 s (4 + 4 * n)) (omega arith)))
  where
    first : w ≡ number_at little 4 s (4 + 4 * i)
    first = numbers 0 (omega arith) ∙ ap (λ (n : ℕ). number_at little 4 s (4 + 4 * n)) (omega arith)

    go : (t : Bool) → eqb i (word_at c.position) ≡ t
        → cond t c.bits (number_at little 4 s (4 + 4 * i)) ≡ number_at little 4 s (4 + 4 * i)
    go true e = bits ∙ ap (λ (n : ℕ). number_at little 4 s (4 + 4 * n)) (sym (eqb-true i (word_at c.position) e))
    go false e = refl

-- a cursor with as many words, and the word at its position, has the presence words
pub words_for_lem : (s : List ℕ) (size : ℕ) (ws : List ℕ) → presence_words s size ≡ given ws → (c : Cursor) → c.words ≡ length ws
    → c.bits ≡ number_at little 4 s (4 + 4 * word_at c.position) → words_of s c ≡ ws
words_for_lem s size ws e c count bits =
    ap (words_for s c 0) count
    ∙ cursor_words s c 0 ws bits
    (λ k l. words_at s size ws e k l ∙ ap (λ (n : ℕ). number_at little 4 s (4 + 4 * n)) (omega arith))
