-- `record_line::time_fields` meets its contract: in each arm the fields are those of the time given.
use borrow.Author.Rules.{rules}
use mathlib.Core.Path.{◌≡◌, sym, subst}
use mathlib.Core.List.{◌∷◌}
use lib.IntN.{ℤ}
use mir.Syntax.{w64}
use mir.Val.{to_z, of_z}
use Rattle.std.specs.Prelude.{Result}
use Rattle.capture_time.specs.declared.Time.{Time}
use Rattle.refusals.specs.declared.Refusal.{Refusal}
use Rattle.refusals.specs.Says.{says}
use Rattle.text.specs.Decimal.{signed_decimal}
use Rattle.listing_rules.specs.Lines.{tab, fields_of, time_fields}
use Rattle.text_lines.specs.Wrote.{Appends}
use Rattle.text_lines.proofs.WroteLaws.{wrote_then}
use Rattle.record_line.proofs.time_fields.Goals as goal

pub returns-in-Ok-clause-wrote : goal.returns-in-Ok-clause-wrote
returns-in-Ok-clause-wrote c =
    let before = c.args.lines.now in
    let f = c.last_field in
    let s = c.field in
    let same : to_z w64 (of_z w64 c.in-Ok.time.seconds) ≡ c.in-Ok.time.seconds = search rules in
    subst (λ (t : Result Time Refusal). Appends before (fields_of (time_fields (says t))) f.new.self)
    (sym c.in-Ok.is)
    (wrote_then
    (subst (λ (z : ℤ). Appends before (tab ∷ signed_decimal z) s.new.self) same s.ensures.wrote)
    f.ensures.wrote)
