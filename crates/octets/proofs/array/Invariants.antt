use Rattle.std.proofs.Common.{◌≡◌, length}
use Rattle.octets.proofs.Arrays.{OneByOne}
use Rattle.octets.proofs.array.Given as goal

abbrev pub invariant-loop-i : goal.invariant-loop-i
invariant-loop-i g l = (length l.found ≡ g.row.N) × OneByOne l.s l.at 0 l.i l.found
