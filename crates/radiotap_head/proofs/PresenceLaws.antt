-- What the presence words read so far tell of the head, and how the word at hand carries it on.
-- Assumes nothing.
use Prim.Native.Nat.{ℕ, zero, suc, ◌+◌, ◌-◌, ◌*◌, ◌/◌, ◌%◌, ◌^◌, ◌≤◌, ◌<◌}
use mathlib.Core.Path.{◌≡◌, refl, sym, ap, ap₂, ◌∙◌}
use mathlib.Core.Bool.{Bool, true, false}
use mathlib.Core.List.{List, [], ◌∷◌}
use native.Mathlib.Omega.{arith}
use lib.ListN.{length, get_or}
use lib.Dec.{leb}
use borrow.Author.Tests.{le-leb, lt-leb, eq-eqb, ne_eqb}
use Rattle.refusals.specs.Refusals.{Answer, refused, given}
use Rattle.octets.specs.Numbers.{little, number_at}
use Rattle.radiotap_rules.specs.declared.Head.{Head}
use Rattle.radiotap_rules.specs.Reading.{word_past, ninth_word, bit_set, most_words, with_word, words_from, presence_words}
use Rattle.radiotap_rules.specs.Steps.{head_of_words}
use Rattle.radiotap_rules.proofs.Words.{words-few, words_at}

-- the words from a place on, of which so many more may follow, by the test of bit 31 of the word there and that of the room
module _ (s : List ℕ) (size at : ℕ) where
  abbrev by_tests : (more : ℕ) (t u : Bool) → Answer (List ℕ)
  by_tests more t u =
      elim t [
        | true ↦
            elim u [
              | true ↦ with_word (number_at little 4 s at) (words_from s size (at + 4) more)
              | false ↦ refused word_past 4
            ]
        | false ↦ given (number_at little 4 s at ∷ [])
      ]

  module _ (b : bit_set (number_at little 4 s at) 31 ≡ true) where
    none_more : words_from s size at 0 ≡ refused ninth_word 4
    none_more = rw b

    no_room : (more : ℕ) → size < at + 8 → words_from s size at (suc more) ≡ refused word_past 4
    no_room more h = ap₂ (by_tests more) b (lt-leb (at + 8) size h)

    another : (more : ℕ) → at + 8 ≤ size → words_from s size at (suc more) ≡ with_word (number_at little 4 s at) (words_from s size (at + 4) more)
    another more h = ap₂ (by_tests more) b (le-leb (at + 8) size h)

  one_word : (more : ℕ) → bit_set (number_at little 4 s at) 31 ≡ false → words_from s size at more ≡ given (number_at little 4 s at ∷ [])
  one_word zero b = rw b
  one_word (suc more) b = ap (λ (t : Bool). by_tests more t (leb (at + 8) size)) b

-- the head whose first word is known, with so many words before those of an answer
abbrev counted : (size first before : ℕ) → Answer (List ℕ) → Answer Head
counted size first before (refused n q) = refused n q
counted size first before (given ws) = given (record { size = size; words = before + length ws; first = first })

-- a word before those of an answer counts as one more
one_more : (size first before word : ℕ) (x : Answer (List ℕ)) → counted size first before (with_word word x) ≡ counted size first (before + 1) x
one_more size first before word (refused n q) = refl
one_more size first before word (given ws) =
    let e : before + suc (length ws) ≡ before + 1 + length ws = omega arith in
    ap (λ (k : ℕ). given (record { size = size; words = k; first = first })) e

-- so many words are read, the last of them at hand: the head is the first word, the count of those before the one at
-- hand, and the words from there on
pub record SoFar (s : List ℕ) (size first word words : ℕ) : Type 0 where
  pub some : 1 ≤ words
  pub few : words ≤ most_words
  pub held : word ≡ number_at little 4 s (4 * words)
  pub answer : head_of_words size (presence_words s size) ≡ counted size first (words - 1) (words_from s size (4 * words) (most_words - words))

module _ (s : List ℕ) (size : ℕ) where
  pub start : {first : ℕ} → first ≡ number_at little 4 s 4 → SoFar s size first first 1
  unfolding presence_words
  start {first} e =
      record { some = omega arith; few = omega arith; held = e; answer = go (presence_words s size) refl }
    where
      go : (x : Answer (List ℕ)) → presence_words s size ≡ x → head_of_words size x ≡ counted size first 0 x
      go (refused n q) found = refl
      go (given ws) found =
          let some = (words-few s size ws found).0 in
          let same : get_or ws 0 0 ≡ first = words_at s size ws found 0 some ∙ sym e in
          let all : length ws ≡ 0 + length ws = omega arith in
          ap₂ (λ (k w : ℕ). given (record { size = size; words = k; first = w })) all same

  module _ {first word words : ℕ} (f : SoFar s size first word words) where
    set : word / 2 ^ 31 % 2 ≡ 1 → bit_set (number_at little 4 s (4 * words)) 31 ≡ true
    set b = eq-eqb (number_at little 4 s (4 * words) / 2 ^ 31 % 2) 1 (ap (λ (w : ℕ). w / 2 ^ 31 % 2) (sym f.held) ∙ b)

    clear : (word / 2 ^ 31 % 2 ≡ 1 → ⊥) → bit_set (number_at little 4 s (4 * words)) 31 ≡ false
    clear b = ne_eqb (number_at little 4 s (4 * words) / 2 ^ 31 % 2) 1 (λ e. b (ap (λ (w : ℕ). w / 2 ^ 31 % 2) f.held ∙ e))

    pub ninth : word / 2 ^ 31 % 2 ≡ 1 → words ≡ most_words → head_of_words size (presence_words s size) ≡ refused ninth_word 4
    ninth b e =
        let used : most_words - words ≡ 0 = omega arith in
        f.answer
        ∙ ap (counted size first (words - 1)) (ap (words_from s size (4 * words)) used ∙ none_more s size (4 * words) (set b))

    pub past : word / 2 ^ 31 % 2 ≡ 1 → (words ≡ most_words → ⊥) → size < 4 + 4 * words + 4 → head_of_words size (presence_words s size) ≡ refused word_past 4
    past b e h =
        let used : most_words - words ≡ suc (most_words - (words + 1)) = omega arith in
        f.answer
        ∙ ap (counted size first (words - 1))
        (ap (words_from s size (4 * words)) used ∙ no_room s size (4 * words) (set b) (most_words - (words + 1)) (omega arith))

    pub calls_for_another : word / 2 ^ 31 % 2 ≡ 1 → (words ≡ most_words → ⊥) → 4 + 4 * words + 4 ≤ size
        → {next : ℕ} → next ≡ number_at little 4 s (4 + 4 * words) → SoFar s size first next (words + 1)
    calls_for_another b e h n =
        let used : most_words - words ≡ suc (most_words - (words + 1)) = omega arith in
        let next : 4 * words + 4 ≡ 4 * (words + 1) = omega arith in
        let here : 4 + 4 * words ≡ 4 * (words + 1) = omega arith in
        let before : words - 1 + 1 ≡ words + 1 - 1 = omega arith in
        let rest = words_from s size (4 * (words + 1)) (most_words - (words + 1)) in
        record {
          some = omega arith;
          few = omega (arith, f.few);
          held = n ∙ ap (number_at little 4 s) here;
          answer =
              f.answer
              ∙ ap (counted size first (words - 1))
              (ap (words_from s size (4 * words)) used
              ∙ another s size (4 * words) (set b) (most_words - (words + 1)) (omega arith)
              ∙ ap (λ (at : ℕ). with_word (number_at little 4 s (4 * words)) (words_from s size at (most_words - (words + 1)))) next)
              ∙ one_more size first (words - 1) (number_at little 4 s (4 * words)) rest
              ∙ ap (λ (k : ℕ). counted size first k rest) before;
        }

    pub last : (word / 2 ^ 31 % 2 ≡ 1 → ⊥) → head_of_words size (presence_words s size) ≡ given (record { size = size; words = words; first = first })
    last b =
        let all : words - 1 + 1 ≡ words = omega (arith, f.some) in
        f.answer
        ∙ ap (counted size first (words - 1)) (one_word s size (4 * words) (most_words - words) (clear b))
        ∙ ap (λ (k : ℕ). given (record { size = size; words = k; first = first })) all
