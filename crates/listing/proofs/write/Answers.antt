-- `listing::write` meets its contract: with room for the listing its lines are written at the place, and without it nothing is.
use Prim.Native.Nat.{◌+◌, ◌≤◌}
use native.Mathlib.Omega.{arith}
use mathlib.Core.Path.{sym, ap, ◌∙◌}
use lib.ListN.{length}
use borrow.Author.Rules.{rules}
use borrow.Author.Tests.{leb-true}
use Rattle.refusals.specs.Refusals.{given}
use Rattle.octets.specs.Parts.{has_room}
use Rattle.listing_rules.specs.Lines.{listing}
use Rattle.text_lines.specs.Wrote.{highest_place}
use Rattle.text_lines.proofs.WroteLaws.{exact}
use Rattle.listing_rules.proofs.ListingLaws.{writing-room, written_room, writing-none, written_none}
use Rattle.listing.proofs.write.Goals as goal

pub returns-then-has_room : goal.returns-then-has_room
returns-then-has_room c =
    let a = c.args in
    let tested = ap (has_room (length a.output.now) a.place) (sym c.size-size.ensures.value) in
    let room = tested ∙ sym c.has_room.ensures ∙ c.if-has_room.true in
    let inside : a.place + length (listing a.input.now) ≤ length a.output.now = leb-true _ _ room in
    let w = c.list.ensures.wrote in
    let low : a.place + length (listing a.input.now) ≤ highest_place = omega arith in
    let written = w.holds low inside ∙ sym (written_room a.output.now a.place a.input.now room) in
    record {
      result_value =
          ap given (exact a.place (length (listing a.input.now)) w.behind low)
          ∙ sym (writing-room a.output.now a.place a.input.now room);
      output_after = search rules ∙ written;
    }

pub returns-else-has_room : goal.returns-else-has_room
returns-else-has_room c =
    let a = c.args in
    let tested = ap (has_room (length a.output.now) a.place) (sym c.size-size.ensures.value) in
    let room = tested ∙ sym c.has_room.ensures ∙ c.if-has_room.false in
    record {
      result_value = c.write_refused.ensures ∙ sym (writing-none a.output.now a.place a.input.now room);
      output_after = sym (written_none a.output.now a.place a.input.now room);
    }
