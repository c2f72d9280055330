-- What a step meets at a set bit, by where the bit's field lies, and whether a word starts again.
use Rattle.std.specs.Prelude.{ℕ, zero, suc, ◌+◌, ◌*◌, Bool, true, cond, List, leb}
use Rattle.octets.specs.Numbers.{little, number_at}
use Rattle.octets.specs.Parts.{part}
use Rattle.radiotap_rules.specs.declared.Cursor.{Cursor}
use Rattle.radiotap_rules.specs.Reading.{field_past, bit_set, word_bits, stopped}
use Rattle.radiotap_rules.specs.Steps.{Met, refused_step, over, met}
use Rattle.radiotap_rules.specs.Answers.{Layout, unknown_field, lies}

-- a stop at a field that the edition does not know; 12 where a known one runs past the length; else the field
abbrev pub met_laid : List ℕ → Cursor → (word bit bits : ℕ) → Layout → Met
met_laid s c word bit bits unknown_field = over (stopped word bit)
met_laid s c word bit bits (lies start size) =
    cond (leb (start + size) c.size)
    (met
    (record { word = word; bit = bit; place = start; octets = part s start size })
    (record { size = c.size; words = c.words; position = word_bits * word + bit + 1; bits = bits; at = start + size }))
    (refused_step field_past start)

-- whether a word starts again by bit 29 of the word before it in the input; word 0 does
abbrev pub starts_in : List ℕ → (word : ℕ) → Bool
starts_in s zero = true
starts_in s (suc n) = bit_set (number_at little 4 s (4 + 4 * n)) 29
