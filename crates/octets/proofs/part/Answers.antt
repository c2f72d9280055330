-- By cases: past the end nothing, inside so many octets, else the rest.
use Rattle.std.proofs.Common.{ℕ, arith, sym, ap, take, drop}
use native.Mathlib.Nat.{add-sub_cancel_left}
use Rattle.octets.specs.Parts.{part}
use Rattle.octets.proofs.PartLaws.{part_past, part-rest}
use Rattle.octets.proofs.part.Goals as goal

pub returns-then-s-at : goal.returns-then-s-at
returns-then-s-at c = sym (part_past c.args.s.now c.args.at c.args.n (omega arith))

pub returns-then-n-s : goal.returns-then-n-s
unfolding part
returns-then-n-s c = ap (λ (k : ℕ). take k (drop c.args.at c.args.s.now)) (add-sub_cancel_left c.args.at c.args.n)

pub returns-else-n-s : goal.returns-else-n-s
returns-else-n-s c = sym (part-rest c.args.s.now c.args.at c.args.n (omega arith))
