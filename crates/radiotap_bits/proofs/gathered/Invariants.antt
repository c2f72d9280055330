use Rattle.radiotap_bits.proofs.KnownLaws.{KnownBelow}
use Rattle.radiotap_bits.proofs.gathered.Given as goal

abbrev pub invariant-loop-bit : goal.invariant-loop-bit
invariant-loop-bit l = KnownBelow l.taken l.bit l.bits
