-- `radiotap_bits::next_set` meets its contract: the bits from a place on are those of the word shifted right, whose trailing zeros count up to the first set one.
use Rattle.std.proofs.Common.{arith}
use Rattle.radiotap_bits.proofs.SetLaws.{next_none, next_found}
use Rattle.radiotap_bits.proofs.next_set.Goals as goal

pub returns-then-rest-eq0 : goal.returns-then-rest-eq0
returns-then-rest-eq0 c =
    let a = c.args in
    next_none a.word a.from c.if-rest-eq0.true

pub returns : goal.returns
returns c =
    next_found c.args.word c.args.from (omega arith) c.ranges.word.fits (omega arith)
