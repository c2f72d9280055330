-- What a walk that counts the fields has found so far and where it stands, word by word and bit by bit.
-- Assumes nothing.
use Prim.Native.Nat.{ℕ, suc, ◌+◌, ◌-◌, ◌*◌, ◌/◌, ◌%◌, ◌^◌, ◌≤◌, ◌<◌}
use mathlib.Core.Path.{◌≡◌, refl, sym, ap, ◌∙◌, subst, subst₂}
use mathlib.Core.Bool.{true, false, not, ◌&&◌}
use mathlib.Core.List.{List}
use native.Mathlib.Omega.{arith}
use native.Mathlib.Nat.{zero-add}
use lib.ListN.{length, get_or}
use lib.Dec.{ltb}
use lib.Bits.{bit_and, bit_or}
use lib.Count.{count_trailing_zeros, trailing_of_zero}
use borrow.Author.Tests.{ltb-true, ltb-false, eq-eqb, ne_eqb}
use Rattle.octets.specs.Numbers.{little, number_at}
use Rattle.octets.specs.Parts.{part}
use Rattle.refusals.specs.Refusals.{given}
use Rattle.radiotap_rules.specs.declared.Head.{Head}
use Rattle.radiotap_rules.specs.declared.Cursor.{Cursor}
use Rattle.radiotap_rules.specs.Rules.{knows}
use Rattle.radiotap_rules.specs.Table.{our_rules}
use Rattle.radiotap_rules.specs.Reading.{field_past, presence_words, bit_set, first_number, most_words, word_bits, word_at, Field, ended, stopped}
use Rattle.radiotap_rules.specs.Steps.{head_at, first_cursor, words_of, refused_step, over, met, step_of}
use Rattle.radiotap_rules.proofs.Numbering.{starts_at_0, goes_on}
use Rattle.radiotap_rules.proofs.Words.{words-few, words_inside, calls_where_followed, words_for_lem}
use Rattle.radiotap_rules.proofs.Places.{length-told}
use Rattle.radiotap_rules.proofs.Steps.{headed}
use Rattle.radiotap_table.specs.declared.Span.{Span}
use Rattle.radiotap_table.specs.Says.{SpannedAs}
use Rattle.radiotap_bits.specs.Bits.{KnownBits, carries_field, Carries, Continues}
use Rattle.radiotap_bits.proofs.SetLaws.{none-set, trailing_below}
use Rattle.radiotap_bits.proofs.LeftLaws.{both_not}
use Rattle.radiotap_step.proofs.StepLaws.{Reached, starts, ends}
use Rattle.radiotap_step.proofs.WordLaws.{KnownIn, Standing, opens, stops-here, passes-word, stops_continued, bit-small, starts-near, refuses_past, behind, meets-field, stands-behind}
use Rattle.radiotap.proofs.WalkLaws.{SoFar, begins, countable, passes}

-- the header has this word at an index
abbrev pub Held : List ℕ → (size index word : ℕ) → Type 0
Held s size index word = (ws : List ℕ) → presence_words s size ≡ given ws → get_or ws index 0 ≡ word

-- of its bits that carry a field, the edition knows these
abbrev pub KnownAt : (edition : ℕ) → List ℕ → (size index known : ℕ) → Type 0
KnownAt edition s size index known = (ws : List ℕ) → presence_words s size ≡ given ws → KnownIn edition ws index known

-- so many fields are found up to a cursor, whichever of them is kept, and the walk is in one of so many words, its last place
-- that is not free not far behind the length
pub record Found (edition : ℕ) (s : List ℕ) (known size words : ℕ) (c : Cursor) (index last fields : ℕ) : Type 0 where
  pub kept : Field
  pub found : SoFar our_rules edition s size 0 c fields kept
  pub knowing : KnownAt edition s size index known
  pub count : c.words ≡ words
  pub more : index < words
  pub room : last ≤ size + 35
  pub inside : 4 + 4 * words ≤ length s

-- at the start of a word
pub record AtWord (edition : ℕ) (s : List ℕ) (known size words : ℕ) (c : Cursor) (index word last fields : ℕ) : Type 0 where
  pub sofar : Found edition s known size words c index last fields
  pub reached : Reached our_rules edition s c (word_bits * index) word
  pub free : c.at ≡ last + 1

-- inside a word, with these bits left to be shown and the one that stops the walk
pub record Counting (edition : ℕ) (s : List ℕ) (known size words : ℕ) (c : Cursor) (index left stop last fields : ℕ) : Type 0 where
  pub sofar : Found edition s known size words c index last fields
  pub stands : Standing edition s known c index left stop last

-- what is given is given once
given-same : {A : Type 0} {x y : A} → given x ≡ given y → x ≡ y
given-same e = cc

module _ (edition : ℕ) (s : List ℕ) (known : ℕ) where
  -- at the first word
  pub word_first : (h : Head) → head_at s ≡ given h → KnownBits edition known
      → AtWord edition s known h.size h.words (first_cursor h) 0 h.first (3 + 4 * h.words) 0
  word_first h e knowing =
      let there = headed s h e in
      let few = words-few s h.size there.ws there.words in
      let size = length-told s h.size there.header in
      record {
        sofar = record {
          kept = _;
          found = begins our_rules edition s 0 h e;
          knowing = λ ws same bit h carries. knowing bit h ∙ ap (knows our_rules edition) (sym (zero-add bit));
          count = refl;
          more = omega (arith, there.count, few.0);
          room = omega (arith, there.count, few.1);
          inside = omega (arith, there.count, words_inside s h.size there.ws there.words size.least, size.inside);
        };
        reached = starts our_rules edition s (first_cursor h);
        free = omega arith;
      }

  module _ {size words : ℕ} {c : Cursor} {index last fields : ℕ} (f : Found edition s known size words c index last fields) where
    -- few words and few fields
    pub few_words : words ≤ most_words
    few_words =
        let g = f.found in
        omega (arith, f.count, g.stands.count, (words-few s size g.ws g.words).1)

    pub few-fields : fields ≤ word_bits * most_words
    few-fields = countable our_rules edition s 0 f.found

    pub here-more : index < c.words
    here-more = omega (arith, f.count, f.more)

    -- the words as the cursor has them are the header's
    own-words : words_of s c ≡ f.found.ws
    own-words = let g = f.found in words_for_lem s size g.ws g.words c g.stands.count g.stands.bits

    pub known-here : KnownIn edition (words_of s c) index known
    known-here =
        subst (λ (ws : List ℕ). KnownIn edition ws index known) (sym own-words) (f.knowing f.found.ws f.found.words)

  module _ {size words : ℕ} {c : Cursor} {index word last fields : ℕ} (w : AtWord edition s known size words c index word last fields) where
    -- the word is the header's
    pub held : Held s size index word
    held ws same =
        let f = w.sofar in
        let here : word_at (word_bits * index) ≡ index = omega arith in
        sym (ap (λ (ws : List ℕ). get_or ws index 0) (own-words f ∙ given-same (sym f.found.words ∙ same)))
        ∙ sym (ap (λ (k : ℕ). get_or (words_of s c) k 0) here)
        ∙ w.reached.word (omega (arith, f.more, f.count))

    -- it calls for another where one follows
    calls : bit_set word 31 ≡ ltb (index + 1) words
    calls =
        let f = w.sofar in
        let g = f.found in
        let count : length g.ws ≡ words = sym g.stands.count ∙ f.count in
        ap (λ (k : ℕ). bit_set k 31) (sym (held g.ws g.words))
        ∙ calls_where_followed s size g.ws g.words index (omega (arith, f.more))
        ∙ ap (ltb (index + 1)) count

    -- so it is the last where its bit 31 is clear, and there is another where it is set
    pub word_last : word / 2 ^ 31 % 2 ≡ 0 → index + 1 ≡ words
    word_last clear =
        let none : words ≤ index + 1 = ltb-false (index + 1) words (sym calls ∙ ne_eqb (word / 2 ^ 31 % 2) 1 (λ e. omega arith)) in
        omega (arith, w.sofar.more)

    pub word-followed : (word / 2 ^ 31 % 2 ≡ 0 → ⊥) → index + 1 < words
    word-followed set = ltb-true (index + 1) words (sym calls ∙ eq-eqb (word / 2 ^ 31 % 2) 1 (omega arith))

  -- what the word carries is left to be shown
  pub word-opens : {size words : ℕ} {c : Cursor} {index word last fields : ℕ} → AtWord edition s known size words c index word last fields
      → {shown unknown : ℕ} → Carries word known shown unknown
      → Counting edition s known size words c index shown (count_trailing_zeros word_bits unknown) last fields
  word-opens {index = index} w carried =
      record { sofar = w.sofar; stands = opens edition s known index w.reached refl carried.left carried.stops w.free }

  -- the lowest of some unknown bits is one of the word's, and there is none of no bits
  pub stop_inside : {word shown unknown : ℕ} → Carries word known shown unknown → (unknown ≡ 0 → ⊥) → count_trailing_zeros word_bits unknown < word_bits
  stop_inside {unknown = unknown} carried some = trailing_below word_bits word_bits unknown (omega arith) (omega arith) carried.small

  pub stop-none : {unknown : ℕ} → unknown ≡ 0 → word_bits ≤ count_trailing_zeros word_bits unknown
  stop-none none = omega (arith, ap (count_trailing_zeros word_bits) none, trailing_of_zero word_bits)

  module _ {size words : ℕ} {c : Cursor} {index left stop last fields : ℕ} (w : Counting edition s known size words c index left stop last fields) where
    -- where nothing is left of the word, the step stops, ends behind the last word, or goes on in the next one
    pub counts_stop : left ≡ 0 → stop < word_bits → step_of our_rules edition s c ≡ over (stopped index stop)
    counts_stop none inside = stops-here edition s known (known-here w.sofar) w.stands (here-more w.sofar) none inside

    pub counts_end : left ≡ 0 → word_bits ≤ stop → index + 1 ≡ words → step_of our_rules edition s c ≡ over ended
    counts_end none past last_word =
        ends our_rules edition s c (passes-word edition s known (known-here w.sofar) w.stands (here-more w.sofar) none past)
        (omega (arith, w.sofar.count))

    -- which is the one at its place
    module _ (none : left ≡ 0) (past : word_bits ≤ stop) (more : index + 1 < words) {next : ℕ} (read : next ≡ number_at little 4 s (4 + 4 * (index + 1))) where
      reaches : Reached our_rules edition s c (word_bits * (index + 1)) next
      reaches =
          subst₂ (Reached our_rules edition s c) (omega arith) (sym read)
          (passes-word edition s known (known-here w.sofar) w.stands (here-more w.sofar) none past)

      -- and stops the walk where it is continued and carries a field
      module _ {word unknown : ℕ} (held : Held s size index word) (told : Continues word next unknown) where
        following : suc index ≡ index + 1
        following = omega arith

        pub counts_continued : (unknown ≡ 0 → ⊥) → step_of our_rules edition s c ≡ over (stopped (index + 1) (count_trailing_zeros word_bits unknown))
        counts_continued some =
            stops_continued edition s word (index + 1) reaches (omega (arith, w.sofar.count)) on told some
          where
            on : bit_set word 29 ≡ false → word_bits ≤ first_number (words_of s c) (index + 1)
            on clear =
                let ws : List ℕ = w.sofar.found.ws in
                rw (own-words w.sofar)
                (subst (λ (k : ℕ). word_bits ≤ first_number ws k) following
                (goes_on ws (suc index) (ap (λ (k : ℕ). bit_set k 29) (held ws w.sofar.found.words) ∙ clear)))

        -- else the walk goes on in it: its bits that carry a field are numbered from 0 again
        known_next : KnownBits edition known → unknown ≡ 0 → KnownAt edition s size (index + 1) known
        known_next knowing nothing ws same bit h carries =
            let here : word_at (word_bits * (index + 1)) ≡ index + 1 = omega arith in
            let own : words_of s c ≡ ws = own-words w.sofar ∙ given-same (sym w.sofar.found.words ∙ same) in
            let its : get_or ws (index + 1) 0 ≡ next =
            sym (ap (λ (ws : List ℕ). get_or ws (index + 1) 0) own)
            ∙ sym (ap (λ (k : ℕ). get_or (words_of s c) k 0) here)
            ∙ reaches.word (omega (arith, here, w.sofar.count)) in
            let clear : (carries_field next bit && not (bit_set word 29)) ≡ false =
            sym (told.strange bit h) ∙ ap (λ (k : ℕ). bit_set k bit) nothing ∙ none-set bit in
            let set : bit_set word 29 ≡ true =
            both_not (carries_field next bit) (bit_set word 29) clear (sym (ap (λ (k : ℕ). carries_field k bit) its) ∙ carries) in
            let first : first_number ws (index + 1) ≡ 0 =
            ap (first_number ws) (sym following) ∙ starts_at_0 ws (suc index) (ap (λ (k : ℕ). bit_set k 29) (held ws same) ∙ set) in
            let number : bit ≡ first_number ws (index + 1) + bit = omega (arith, first) in
            knowing bit h ∙ ap (knows our_rules edition) number

        pub counts_word : KnownBits edition known → unknown ≡ 0 → AtWord edition s known size words c (index + 1) next last fields
        counts_word knowing nothing =
            let before = w.sofar in
            record {
              sofar = record {
                kept = before.kept;
                found = before.found;
                knowing = known_next knowing nothing;
                count = before.count;
                more = more;
                room = before.room;
                inside = before.inside;
              };
              reached = reaches;
              free = w.stands.free;
            }

    -- the first bit left carries a field that is known
    module _ (some : left ≡ 0 → ⊥) where
      pub counts_small : count_trailing_zeros word_bits left < word_bits
      counts_small = bit-small edition s known (known-here w.sofar) w.stands (here-more w.sofar) some

      module _ {p : Span} (spans : SpannedAs (count_trailing_zeros word_bits left) p) where
        pub counts_near : bit_or last p.mask < last + 8
        counts_near = omega (arith, starts-near edition s known (known-here w.sofar) w.stands (here-more w.sofar) some spans)

        pub counts_past : size ≤ bit_or last p.mask + p.size → step_of our_rules edition s c ≡ refused_step field_past (bit_or last p.mask + 1)
        counts_past h =
            refuses_past edition s known (known-here w.sofar) w.stands (here-more w.sofar) some spans (omega (arith, w.sofar.found.same))

        abbrev pub after : Cursor
        after = behind edition s known (known-here w.sofar) w.stands (here-more w.sofar) some spans

        module _ (h : bit_or last p.mask + p.size < size) where
          pub counts_field : step_of our_rules edition s c
              ≡ met
              (record {
                word = index;
                bit = count_trailing_zeros word_bits left;
                place = bit_or last p.mask + 1;
                octets = part s (bit_or last p.mask + 1) p.size;
              })
              after
          counts_field =
              meets-field edition s known (known-here w.sofar) w.stands (here-more w.sofar) some spans (omega (arith, w.sofar.found.same))

          pub counts_next : Counting edition s known size words after index (bit_and left (left - 1)) stop (bit_or last p.mask + p.size) (fields + 1)
          counts_next =
              let before = w.sofar in
              record {
                sofar = record {
                  kept = _;
                  found = passes our_rules edition s 0 before.found counts_field;
                  knowing = before.knowing;
                  count = before.count;
                  more = before.more;
                  room = omega arith;
                  inside = before.inside;
                };
                stands = stands-behind edition s known (known-here before) w.stands (here-more before) some spans (omega arith);
              }
