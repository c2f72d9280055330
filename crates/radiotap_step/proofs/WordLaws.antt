-- Where a walk that clears the bits of a presence word one by one stands, and what the step from its cursor meets there.
-- Assumes nothing.
use Prim.Native.Nat.{ℕ, ◌+◌, ◌-◌, ◌*◌, ◌≤◌, ◌<◌}
use mathlib.Core.Path.{◌≡◌, refl, sym, ap, ◌∙◌, subst}
use mathlib.Core.Bool.{Bool, true, false, not, ◌&&◌}
use mathlib.Core.Logic.{◌⊎◌, inl, inr}
use mathlib.Core.List.{List}
use native.Mathlib.Omega.{arith}
use lib.ListN.{get_or}
use lib.Bits.{bit_and, bit_or}
use lib.Count.{count_trailing_zeros}
use Rattle.octets.specs.Numbers.{little, number_at}
use Rattle.octets.specs.Parts.{part}
use Rattle.radiotap_rules.specs.declared.Cursor.{Cursor}
use Rattle.radiotap_rules.specs.Rules.{knows}
use Rattle.radiotap_rules.specs.Table.{our_rules}
use Rattle.radiotap_rules.specs.Reading.{field_past, word_bits, word_at, bit_set, first_number, stopped}
use Rattle.radiotap_rules.specs.Steps.{words_of, refused_step, over, met, step_of}
use Rattle.radiotap_rules.specs.Answers.{lies, lay_of}
use Rattle.radiotap_table.specs.declared.Span.{Span}
use Rattle.radiotap_table.specs.Says.{SpannedAs}
use Rattle.radiotap_rules.proofs.TableTests.{known-low, unknown-high}
use Rattle.radiotap_rules.proofs.Numbering.{starts_at_0, known-again}
use Rattle.radiotap_bits.specs.Bits.{bare, carries_field, LeftFrom, StopsAt, Continues}
use Rattle.radiotap_table.proofs.RowLaws.{lay_near, lay_unknown, span_lies}
use Rattle.radiotap_bits.proofs.SetLaws.{trailing_clear, trailing_set, trailing_below}
use Rattle.radiotap_bits.proofs.LeftLaws.{and_not_true, and_true, first_small, first_low, first_below, first_carries, first_between, left_next, left-none}
use Rattle.radiotap_step.specs.Met.{met_laid}
use Rattle.radiotap_step.proofs.StepLaws.{Reached, starts, onward, meets, laid_inside, laid_past}

-- a bit that carries no field is clear or bare
carries-none : (t u : Bool) → (t && not u) ≡ false → (t ≡ false) ⊎ (u ≡ true)
carries-none true true e = inr refl
carries-none true false e = inl e
carries-none false u e = inl refl

-- of the bits of a word that carry a field, an edition knows these, by the numbers that the word gives them
abbrev pub KnownIn : (edition : ℕ) → (words : List ℕ) → (index known : ℕ) → Type 0
KnownIn edition words index known =
    (bit : ℕ) → bit < word_bits → carries_field (get_or words index 0) bit ≡ true
    → bit_set known bit ≡ knows our_rules edition (first_number words index + bit)

-- a walk in an edition stands at a word: the bits that are left to be shown of it, the one that stops the walk, and the last
-- place that is not free
pub record Standing (edition : ℕ) (s : List ℕ) (known : ℕ) (c : Cursor) (index left stop last : ℕ) : Type 0 where
  pub from : ℕ
  pub position : ℕ
  pub bits : ℕ
  pub reached : Reached our_rules edition s c position bits
  pub place : position ≡ word_bits * index + from
  pub rest : LeftFrom bits stop from left
  pub stops : StopsAt bits known stop
  pub low : from ≤ stop
  pub inside : from < word_bits
  pub free : c.at ≡ last + 1

module _ (edition : ℕ) (s : List ℕ) (known : ℕ) where
  -- at the start of a word
  pub opens : {c : Cursor} {position bits left stop last : ℕ} (index : ℕ) → Reached our_rules edition s c position bits → position ≡ word_bits * index
      → LeftFrom bits stop 0 left → StopsAt bits known stop → c.at ≡ last + 1 → Standing edition s known c index left stop last
  opens {position = position} {bits = bits} index reached place rest stops free =
      record {
        from = 0;
        position = position;
        bits = bits;
        reached = reached;
        place = omega arith;
        rest = rest;
        stops = stops;
        low = omega arith;
        inside = omega arith;
        free = free;
      }

  module _ {c : Cursor} {index left stop last : ℕ} (knowing : KnownIn edition (words_of s c) index known) (n : Standing edition s known c index left stop last) (more : index < c.words) where
    -- the number of a bit of the word
    abbrev number : ℕ → ℕ
    number bit = first_number (words_of s c) index + bit

    here : word_at n.position ≡ index
    here = omega (arith, n.place, n.inside)

    -- the edition knows a bit that carries a field where it is one of the known
    known-number : (bit : ℕ) → bit < word_bits → carries_field n.bits bit ≡ true → bit_set known bit ≡ knows our_rules edition (number bit)
    known-number bit h carries =
        let held : get_or (words_of s c) index 0 ≡ n.bits = sym (ap (λ (k : ℕ). get_or (words_of s c) k 0) here) ∙ n.reached.word (omega (arith, here)) in
        knowing bit h (ap (λ (k : ℕ). carries_field k bit) held ∙ carries)

    -- the step is by the first bit from here on that carries a field
    meets-bit : (bit : ℕ) → n.from ≤ bit → bit < word_bits → ((b : ℕ) → n.from ≤ b → b < bit → carries_field n.bits b ≡ false)
        → carries_field n.bits bit ≡ true
        → step_of our_rules edition s c ≡ met_laid s c index bit n.bits (lay_of our_rules edition (number bit) c.at)
    meets-bit bit low high between carries =
        let set = and_not_true (bit_set n.bits bit) (bare bit) carries in
        meets our_rules edition s c n.reached (omega (arith, here)) bit (omega (arith, n.place, n.inside)) high
        (λ b from below. carries-none (bit_set n.bits b) (bare b) (between b (omega (arith, n.place, n.inside)) below))
        set.0 set.1 refl
        ∙ ap (λ (k : ℕ). met_laid s c k bit n.bits (lay_of our_rules edition (first_number (words_of s c) k + bit) c.at)) here

    -- where nothing is left to be shown, the step stops at the bit that stops the walk
    pub stops-here : left ≡ 0 → stop < word_bits → step_of our_rules edition s c ≡ over (stopped index stop)
    stops-here none inside =
        let strange : knows our_rules edition (number stop) ≡ false = sym (known-number stop inside (n.stops.carries inside)) ∙ n.stops.unknown inside in
        meets-bit stop n.low inside (λ b low below. left-none n.rest none b low below (omega arith)) (n.stops.carries inside)
        ∙ ap (met_laid s c index stop n.bits) (lay_unknown our_rules (number stop) edition c.at strange)

    -- and where there is none, passes the word
    pub passes-word : left ≡ 0 → word_bits ≤ stop
        → Reached our_rules edition s c (word_bits * index + word_bits) (number_at little 4 s (4 + 4 * (index + 1)))
    passes-word none past =
        subst (λ (k : ℕ). Reached our_rules edition s c (word_bits * k + word_bits) (number_at little 4 s (4 + 4 * (k + 1)))) here
        (onward our_rules edition s c n.reached (omega (arith, here))
        (λ b from below. carries-none (bit_set n.bits b) (bare b) (left-none n.rest none b (omega (arith, n.place, n.inside)) (omega arith) below)))

    module _ (some : left ≡ 0 → ⊥) where
      -- the first bit left is known
      abbrev pub bit : ℕ
      bit = count_trailing_zeros word_bits left

      pub bit-small : bit < word_bits
      bit-small = first_small n.rest some

      number-known : knows our_rules edition (number bit) ≡ true
      number-known =
          sym (known-number bit bit-small (first_carries n.rest some))
          ∙ n.stops.below bit (first_below n.rest some) bit-small (first_carries n.rest some)

      -- so its word starts again, and its number is itself
      number-itself : number bit ≡ bit
      number-itself = omega (arith, starts_at_0 (words_of s c) index (known-again our_rules refl edition (words_of s c) index bit number-known))

      bit-known : knows our_rules edition bit ≡ true
      bit-known = sym (ap (knows our_rules edition) number-itself) ∙ number-known

      module _ {p : Span} (spans : SpannedAs bit p) where
        -- its field starts behind the places that its mask fills up
        abbrev pub start : ℕ
        start = bit_or last p.mask + 1

        laid : lay_of our_rules edition (number bit) c.at ≡ lies start p.size
        laid =
            ap (λ (k : ℕ). lay_of our_rules edition k c.at) number-itself
            ∙ ap (lay_of our_rules edition bit) n.free
            ∙ span_lies edition bit last spans bit-known

        step : step_of our_rules edition s c ≡ met_laid s c index bit n.bits (lies start p.size)
        step =
            meets-bit bit (first_low n.rest some) bit-small (first_between n.rest some) (first_carries n.rest some)
            ∙ ap (met_laid s c index bit n.bits) laid

        -- near the last place that is not free
        pub starts-near : start < last + 9
        starts-near = omega (arith, n.free, lay_near our_rules (number bit) edition c.at start p.size refl laid)

        -- it is refused where it runs past the length
        pub refuses_past : c.size < start + p.size → step_of our_rules edition s c ≡ refused_step field_past start
        refuses_past h = step ∙ laid_past s c index bit n.bits start p.size h

        -- and met where it does not
        abbrev pub behind : Cursor
        behind = record {
          size = c.size;
          words = c.words;
          position = word_bits * index + bit + 1;
          bits = n.bits;
          at = start + p.size;
        }

        pub meets-field : start + p.size ≤ c.size
            → step_of our_rules edition s c ≡ met (record { word = index; bit = bit; place = start; octets = part s start p.size }) behind
        meets-field h = step ∙ laid_inside s c index bit n.bits start p.size h

        -- behind it the walk stands in the same word, without its bit
        pub stands-behind : {last' : ℕ} → start + p.size ≡ last' + 1 → Standing edition s known behind index (bit_and left (left - 1)) stop last'
        stands-behind free = record {
          from = bit + 1;
          position = word_bits * index + bit + 1;
          bits = n.bits;
          reached = starts our_rules edition s behind;
          place = omega arith;
          rest = left_next n.rest some;
          stops = n.stops;
          low = omega (arith, first_below n.rest some);
          inside = omega (arith, known-low our_rules edition bit refl bit-known);
          free = free;
        }

-- at the start of a continued word some of its bits carry a field: the lowest of them stops the walk
pub stops_continued : (edition : ℕ) (s : List ℕ) {c : Cursor} {word unknown : ℕ} (before index : ℕ) → Reached our_rules edition s c (word_bits * index) word
    → index < c.words → (bit_set before 29 ≡ false → word_bits ≤ first_number (words_of s c) index) → Continues before word unknown
    → (unknown ≡ 0 → ⊥) → step_of our_rules edition s c ≡ over (stopped index (count_trailing_zeros word_bits unknown))
stops_continued edition s {c} {word} {unknown} before index reached more on told some =
    meets our_rules edition s c reached (omega (arith, here)) stop (omega arith) inside
    (λ b low below. carries-none (bit_set word b) (bare b) (clear b (omega (arith, inside)) below)) set.0 set.1 refl
    ∙ ap (λ (k : ℕ). met_laid s c k stop word (lay_of our_rules edition (first_number (words_of s c) k + stop) c.at)) here
    ∙ ap (met_laid s c index stop word) (lay_unknown our_rules number edition c.at (unknown-high our_rules edition number refl (omega (arith, on both.1))))
  where
    stop : ℕ
    stop = count_trailing_zeros word_bits unknown

    number : ℕ
    number = first_number (words_of s c) index + stop

    here : word_at (word_bits * index) ≡ index
    here = omega arith

    inside : stop < word_bits
    inside = trailing_below word_bits word_bits unknown (omega arith) (omega arith) told.small

    -- the lowest is set, so the bit carries a field and bit 29 before is clear
    both : (carries_field word stop ≡ true) × (bit_set before 29 ≡ false)
    both = and_not_true (carries_field word stop) (bit_set before 29) (sym (told.strange stop inside) ∙ trailing_set word_bits unknown inside)

    set : (bit_set word stop ≡ true) × (bare stop ≡ false)
    set = and_not_true (bit_set word stop) (bare stop) both.0

    -- and none below it carries one
    clear : (b : ℕ) → b < word_bits → b < stop → carries_field word b ≡ false
    clear b high below =
        sym (and_true (carries_field word b))
        ∙ ap (λ (t : Bool). carries_field word b && not t) (sym both.1)
        ∙ sym (told.strange b high)
        ∙ trailing_clear word_bits unknown b below
