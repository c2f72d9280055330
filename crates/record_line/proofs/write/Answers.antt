-- `record_line::write` meets its contract: the word, the place, the four numbers and the time are written one behind the other.
use borrow.Author.Rules.{rules}
use mathlib.Core.Path.{◌≡◌, ap, subst, ◌∙◌}
use mir.Syntax.{w64}
use mir.Val.{to_z, of_z}
use Rattle.refusals.specs.Refusals.{Answer}
use Rattle.capture_time.specs.Time.{CaptureTime, reading}
use Rattle.listing_rules.specs.Lines.{fields_of, time_fields, record_line}
use Rattle.text_lines.specs.Wrote.{Appends}
use Rattle.text_lines.proofs.WroteLaws.{wrote_then}
use Rattle.record_line.proofs.write.Goals as goal

pub returns-clause-wrote : goal.returns-clause-wrote
unfolding record_line
returns-clause-wrote c =
    let before = c.field-5.new.self in
    let t = c.time_fields in
    let same : to_z w64 (of_z w64 c.args.numbers.time) ≡ c.args.numbers.time = search rules in
    let time =
    subst (λ (x : Answer CaptureTime). Appends before (fields_of (time_fields x)) t.new.lines)
    (c.read_time.ensures ∙ ap reading same)
    t.ensures.wrote in
    wrote_then c.word.ensures.wrote
    (wrote_then c.field.ensures.wrote
    (wrote_then c.field-2.ensures.wrote
    (wrote_then c.field-3.ensures.wrote
    (wrote_then c.field-4.ensures.wrote (wrote_then c.field-5.ensures.wrote time)))))
