-- Document 01, "Radiotap": the table of editions 1 to 3, with the published field names.
use Rattle.std.specs.Prelude.{◌≡◌, true, List, [], ◌∷◌, length}
use Rattle.radiotap_rules.specs.Rules.{word_bits, Row, row, unknown, Rules, nested, none_knows, table_ok}

abbrev pub our_rows : List Row
our_rows =
    row 8 8 1  -- 0: TSFT
    ∷ row 1 1 1  -- 1: flags
    ∷ row 1 1 1  -- 2: rate
    ∷ row 2 4 1  -- 3: channel
    ∷ row 2 2 1  -- 4: FHSS
    ∷ row 1 1 1  -- 5: antenna signal, dBm
    ∷ row 1 1 1  -- 6: antenna noise, dBm
    ∷ row 2 2 1  -- 7: lock quality
    ∷ row 2 2 1  -- 8: TX attenuation
    ∷ row 2 2 1  -- 9: TX attenuation, dB
    ∷ row 1 1 1  -- 10: TX power, dBm
    ∷ row 1 1 1  -- 11: antenna
    ∷ row 1 1 1  -- 12: antenna signal, dB
    ∷ row 1 1 1  -- 13: antenna noise, dB
    ∷ row 2 2 2  -- 14: RX flags
    ∷ row 2 2 2  -- 15: TX flags
    ∷ row 1 1 2  -- 16: RTS retries
    ∷ row 1 1 2  -- 17: data retries
    ∷ unknown  -- 18: XChannel
    ∷ row 1 3 3  -- 19: MCS
    ∷ row 4 8 3  -- 20: A-MPDU status
    ∷ row 2 12 3  -- 21: VHT
    ∷ unknown  -- 22: not in an edition
    ∷ unknown  -- 23: not in an edition
    ∷ unknown  -- 24: not in an edition
    ∷ unknown  -- 25: not in an edition
    ∷ unknown  -- 26: not in an edition
    ∷ unknown  -- 27: not in an edition
    ∷ unknown  -- 28: not in an edition
    ∷ unknown  -- 29: radiotap namespace
    ∷ unknown  -- 30: vendor namespace
    ∷ unknown  -- 31: another presence word
    ∷ []

-- editions 1 to 3; edition 0 asks for edition 1
abbrev pub our_rules : Rules
our_rules = record { rows = our_rows; reading_default = 1; writing_default = 1; newest = 3 }

-- the tests that our table passes; proof: proofs/TableTests.antt
pub record OursPass : Type 0 where
  -- it has a row for each bit, and is a table whose editions nest
  pub rows : length our_rows ≡ word_bits
  pub table : table_ok our_rules ≡ true
  pub nests : nested our_rules ≡ true
  -- bit 18 and the rest are known to none
  pub rest : none_knows our_rules (18 ∷ 22 ∷ 23 ∷ 24 ∷ 25 ∷ 26 ∷ 27 ∷ 28 ∷ 29 ∷ 30 ∷ 31 ∷ []) ≡ true
