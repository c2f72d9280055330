-- `btsnoop_survey::by_octets` meets its contract: the library joins the octets as the definition does.
use mathlib.Core.Path.{refl, ap, ◌∙◌}
use mathlib.Core.List.{[], ◌∷◌}
use mir.Syntax.{w32}
use Rattle.std.specs.Int.{from_be_bytes}
use Rattle.octets.specs.Numbers.{octets_at, number_at}
use Rattle.numbers.proofs.Orders.{joined_big}
use Rattle.btsnoop_survey.proofs.by_octets.Goals as goal

pub returns : goal.returns
unfolding number_at
returns c =
    c.from_be_bytes.ensures
    ∙ ap (from_be_bytes w32) (λ i. c.octet.ensures i ∷ c.octet-2.ensures i ∷ c.octet-3.ensures i ∷ c.octet-4.ensures i ∷ [])
    ∙ joined_big (octets_at c.args.s.now c.args.at 4) 3 refl
