-- What a presence word's answer stands for in document 01's terms, case by case.
use Rattle.std.specs.Prelude.{ℕ, Option, Some, None}
use Rattle.radiotap_rules.specs.Answers.{Word, no_word, the_word}

-- the word, or the end
abbrev pub word_of : Option ℕ → Word
word_of None = no_word
word_of (Some w) = the_word w
