-- `listing_lines::stop_line` meets its contract: the word, the reason's number and the place are written one behind the other.
use Prim.Native.Nat.{ℕ}
use mathlib.Core.Path.{subst}
use Rattle.listing_rules.specs.Lines.{stop_line}
use Rattle.text_lines.specs.Wrote.{Appends}
use Rattle.text_lines.proofs.WroteLaws.{wrote_then}
use Rattle.listing_lines.proofs.stop_line.Goals as goal

pub returns-clause-wrote : goal.returns-clause-wrote
unfolding stop_line
returns-clause-wrote c =
    subst (λ (n : ℕ). Appends c.args.lines.now (stop_line n c.args.refusal.place) c.last_field.new.self)
    c.number.ensures
    (wrote_then c.word.ensures.wrote (wrote_then c.field.ensures.wrote c.last_field.ensures.wrote))
