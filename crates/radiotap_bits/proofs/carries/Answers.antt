-- `radiotap_bits::carries` meets its contract: masks part the bits that carry a field into known and unknown ones, and the number below
-- the unknown ones keeps the known that are below the first of them.
use Rattle.radiotap_bits.proofs.LeftLaws.{carries_all}
use Rattle.radiotap_bits.proofs.carries.Goals as goal

pub returns : goal.returns
returns c = carries_all c.args.word c.args.known
