-- `bredr_header::le24` meets its contract: three octets, with 0 above them.
use mathlib.Core.Path.{refl, ◌∙◌}
use mathlib.Core.List.{[], ◌∷◌}
use native.Mathlib.Omega.{arith}
use Rattle.octets.specs.Numbers.{number, number_at}
use Rattle.numbers.proofs.Orders.{joined_little}
use Rattle.bredr_header.proofs.le24.Goals as goal

pub returns : goal.returns
unfolding number_at number
returns c =
    let joined = c.from_le_bytes.ensures ∙ joined_little (c.octet.result ∷ c.octet-2.result ∷ c.octet-3.result ∷ 0 ∷ []) 3 refl in
    omega (arith, joined, c.octet.ensures, c.octet-2.ensures, c.octet-3.ensures)
