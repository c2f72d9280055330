-- A presence word by its number, from what stands before the fields.
-- Assumes nothing.
use Prim.Native.Nat.{ℕ, ◌+◌, ◌*◌, ◌≤◌, ◌<◌}
use mathlib.Core.Path.{◌≡◌, refl, ap, ◌∙◌}
use mathlib.Core.Bool.{Bool, true, false, cond}
use mathlib.Core.List.{List}
use native.Mathlib.Omega.{arith}
use lib.ListN.{length, get_or}
use lib.Dec.{ltb}
use borrow.Author.Tests.{ltb-true, lt-ltb, le-ltb}
use Rattle.refusals.specs.Refusals.{Answer, refused, given}
use Rattle.octets.specs.Numbers.{little, number_at}
use Rattle.radiotap_rules.specs.declared.Head.{Head}
use Rattle.radiotap_rules.specs.Reading.{fixed_header, presence_words}
use Rattle.radiotap_rules.specs.Steps.{head_of_words, head_of_fixed, head_at}
use Rattle.radiotap_rules.specs.Answers.{no_word, the_word, words_of_fixed, words_in, word_numbered, word_number}
use Rattle.radiotap_rules.proofs.Words.{words_at}

module _ (s : List ℕ) (k : ℕ) where
  -- a head refused: so is every word
  pub refused-word : {n q : ℕ} → head_at s ≡ refused n q → word_number s k ≡ refused n q
  unfolding head_at words_in
  refused-word {n} {q} e = on_fixed (fixed_header s) e
    where
      on_words : (size : ℕ) (x : Answer (List ℕ)) → head_of_words size x ≡ refused n q → word_numbered k x ≡ refused n q
      on_words size (refused m p) e = cc
      on_words size (given ws) e = cc

      on_fixed : (x : Answer ℕ) → head_of_fixed s x ≡ refused n q → word_numbered k (words_of_fixed s x) ≡ refused n q
      on_fixed (refused m p) e = cc
      on_fixed (given size) e = on_words size (presence_words s size) e

  -- a head given: below its count of words the number at the word's place, and the end from there on
  given_word : {h : Head} → head_at s ≡ given h
      → word_number s k ≡ given (cond (ltb k h.words) (the_word (number_at little 4 s (4 + 4 * k))) no_word)
  unfolding head_at words_in
  given_word {h} e = on_fixed (fixed_header s) e
    where
      Same : Answer (List ℕ) → Type 0
      Same x = word_numbered k x ≡ given (cond (ltb k h.words) (the_word (number_at little 4 s (4 + 4 * k))) no_word)

      among : (size : ℕ) (ws : List ℕ) → presence_words s size ≡ given ws → (t : Bool) → ltb k (length ws) ≡ t
          → cond t (the_word (get_or ws k 0)) no_word ≡ cond t (the_word (number_at little 4 s (4 + 4 * k))) no_word
      among size ws found true e = ap the_word (words_at s size ws found k (ltb-true k (length ws) e))
      among size ws found false e = refl

      on_words : (size : ℕ) (x : Answer (List ℕ)) → presence_words s size ≡ x → head_of_words size x ≡ given h → Same x
      on_words size (refused m p) found e = let z : ◌≡◌ {A = ℕ} 0 1 = cc in absurd (omega arith)
      on_words size (given ws) found e =
          let same : record { size = size; words = length ws; first = get_or ws 0 0 } ≡ h = cc in
          ap given (among size ws found (ltb k (length ws)) refl)
          ∙ ap (λ (g : Head). given (cond (ltb k g.words) (the_word (number_at little 4 s (4 + 4 * k))) no_word)) same

      on_fixed : (x : Answer ℕ) → head_of_fixed s x ≡ given h → Same (words_of_fixed s x)
      on_fixed (refused m p) e = let z : ◌≡◌ {A = ℕ} 0 1 = cc in absurd (omega arith)
      on_fixed (given size) e = on_words size (presence_words s size) refl e

  -- by the test of that count
  told : {h : Head} → head_at s ≡ given h → (t : Bool) → ltb k h.words ≡ t
      → word_number s k ≡ given (cond t (the_word (number_at little 4 s (4 + 4 * k))) no_word)
  told e t test = given_word e ∙ ap (λ (t : Bool). given (cond t (the_word (number_at little 4 s (4 + 4 * k))) no_word)) test

  pub word_below : {h : Head} → head_at s ≡ given h → k < h.words → word_number s k ≡ given (the_word (number_at little 4 s (4 + 4 * k)))
  word_below {h} e l = told e true (lt-ltb k h.words l)

  pub word_past : {h : Head} → head_at s ≡ given h → h.words ≤ k → word_number s k ≡ given no_word
  word_past {h} e l = told e false (le-ltb k h.words l)
