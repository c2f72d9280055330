-- `capture_time::Time::field` meets its contract: by the sign of the whole seconds since field 0.
use mathlib.Core.Path.{refl}
use mir.Syntax.{w64}
use mir.Val.{SFits}
use Rattle.std.proofs.Common.{rules}
use Rattle.capture_time.proofs.Fields.{before-fits, field-before}
use Rattle.capture_time.proofs.Time.field.Goals as goal

pub overflow_add-result-then-whole-lt0 : goal.overflow_add-result-then-whole-lt0
overflow_add-result-then-whole-lt0 c =
    let t = c.args.self in
    let fits : SFits w64 c.args.self.seconds = search rules in
    before-fits t.seconds fits t.microseconds c.requires _ refl c.if-whole-lt0.true

pub returns-then-whole-lt0 : goal.returns-then-whole-lt0
returns-then-whole-lt0 c =
    let t = c.args.self in
    let fits : SFits w64 c.args.self.seconds = search rules in
    field-before t.seconds fits t.microseconds c.requires _ refl c.if-whole-lt0.true
