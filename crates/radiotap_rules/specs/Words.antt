-- Document 01, "Radiotap": "Bit 31 of a word calls for another, at most 8 in all"; "word by word, for each word 11 before
-- 10". When each answer of the presence words is given, by the numbers in the input. Proof: proofs/Words.antt.
-- Document 02, W-205: "the next word starts again exactly where the present word has bit 29 set; without it, numbering goes
-- on at 32, and no such field is known." How each word numbers its bits. Proof: proofs/Numbering.antt.
use Rattle.std.specs.Prelude.{ℕ, zero, suc, ◌+◌, ◌*◌, ◌≤◌, ◌<◌, ◌≡◌, true, false, ◌↔◌, ◌⊎◌, List, length, get_or}
use Rattle.refusals.specs.Refusals.{refused, given}
use Rattle.octets.specs.Numbers.{little, number_at}
use Rattle.radiotap_rules.specs.Rules.{Rules, knows, table_ok}
use Rattle.radiotap_rules.specs.Reading.{bit_set, presence_words, row_number}

-- the first so many words lie inside the length, and each calls for another
pub record Calling (s : List ℕ) (size n : ℕ) : Type 0 where
  pub inside : 4 + 4 * n ≤ size
  pub calls : (k : ℕ) → k < n → bit_set (number_at little 4 s (4 + 4 * k)) 31 ≡ true

-- the words of a header, 1 to 8 of them inside the length, each the number at its place: all call for another but the last
pub record HeaderWords (s : List ℕ) (size : ℕ) (ws : List ℕ) : Type 0 where
  pub others : ℕ
  pub count : length ws ≡ suc others
  pub few : length ws ≤ 8
  pub inside : 4 + 4 * length ws ≤ size
  pub numbers : (k : ℕ) → k < length ws → get_or ws k 0 ≡ number_at little 4 s (4 + 4 * k)
  pub calling : Calling s size others
  pub last : bit_set (number_at little 4 s (4 + 4 * others)) 31 ≡ false

-- fewer than eight words call for another, which runs past the length
pub record CallPast (s : List ℕ) (size : ℕ) : Type 0 where
  pub words : ℕ
  pub few : words < 8
  pub calling : Calling s size words
  pub past : size < 4 + 4 * suc words

-- each answer is given exactly when its condition holds: 11 where eight words call for another, 10 where the word that is
-- called for runs past the length, both at place 4
pub record Exactly (s : List ℕ) (size : ℕ) : Type 0 where
  pub words : (ws : List ℕ) → (presence_words s size ≡ given ws) ↔ HeaderWords s size ws
  pub ninth : (presence_words s size ≡ refused 11 4) ↔ Calling s size 8
  pub past : (presence_words s size ≡ refused 10 4) ↔ CallPast s size
  pub no_other : (number place : ℕ) → presence_words s size ≡ refused number place → (place ≡ 4) × ((number ≡ 11) ⊎ (number ≡ 10))

-- for every header whose first word lies inside its length
abbrev pub WordsExactly : Type 0
WordsExactly = (s : List ℕ) (size : ℕ) → 8 ≤ size → Exactly s size

-- the bits of all words, counted on from word to word
abbrev pub position : (word bit : ℕ) → ℕ
position word bit = 32 * word + bit

-- a word starts again: word 0 does, and every word behind one that has bit 29 set
abbrev pub StartsAgain : (ws : List ℕ) → (word : ℕ) → Type 0
StartsAgain ws zero = Unit {0}
StartsAgain ws (suc n) = bit_set (get_or ws n 0) 29 ≡ true

-- a word is continued: one behind a word that has bit 29 clear
abbrev pub Continued : (ws : List ℕ) → (word : ℕ) → Type 0
Continued ws zero = ⊥
Continued ws (suc n) = bit_set (get_or ws n 0) 29 ≡ false

-- a bit has the row of its own number exactly in a word that starts again, and one of 32 or more exactly in a continued
-- word, where no edition knows a field
pub record Numbered (rules : Rules) (ws : List ℕ) (word bit : ℕ) : Type 0 where
  pub again : (row_number ws (position word bit) ≡ bit) ↔ StartsAgain ws word
  pub on : (32 ≤ row_number ws (position word bit)) ↔ Continued ws word
  pub none : Continued ws word → (edition : ℕ) → knows rules edition (row_number ws (position word bit)) ≡ false

-- under every table that passes the test
abbrev pub NumbersExactly : Type 0
NumbersExactly = (rules : Rules) (ws : List ℕ) (word bit : ℕ) → table_ok rules ≡ true → bit < 32 → Numbered rules ws word bit
