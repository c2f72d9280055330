-- What an accepted header is.
use Rattle.std.specs.Prelude.{ℕ, ◌+◌, ◌≤◌, ◌≡◌, true, List, length}
use Rattle.radiotap_rules.specs.Table.{our_rules}
use Rattle.radiotap_rules.specs.Writing.{writable, plan, summed, header_octets}

-- a header that an output of a length takes: each set bit is known, the values have the summed length, and there is room
pub record Accepted (room place edition word : ℕ) (values : List ℕ) : Type 0 where
  pub known : writable our_rules edition word ≡ true
  pub long : length values ≡ summed (plan our_rules edition word)
  pub fits : place + length (header_octets our_rules edition word values) ≤ room
