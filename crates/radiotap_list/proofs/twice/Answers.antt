-- `radiotap_list::twice` meets its contract: the list is as it was lent until the header is judged, and only the turn behind that has room.
use Prim.Native.Nat.{◌/◌}
use mathlib.Core.Path.{refl, ap, ◌∙◌}
use lib.ListN.{length}
use Rattle.refusals.specs.Refusals.{Answer}
use Rattle.radiotap_rules.specs.Answers.{Summary}
use Rattle.radiotap_list.specs.Listing.{room_for}
use Rattle.radiotap_list.proofs.FieldsLaws.{turn-says, first_turn, last_turn}
use Rattle.radiotap_list.proofs.twice.Goals as goal

pub returns-then-judged : goal.returns-then-judged
returns-then-judged c =
    let a = c.args in
    let i = c.loop-judged.invariant in
    record {
      result_value = turn-says a.edition a.s.now a.head c.requires c.reading-taken.ensures c.list-answer.ensures.result_value;
      out_after = last_turn a.edition a.s.now a.head c.requires c.reading-taken.ensures i.0 _ c.loop-judged.judged i.1 c.list-answer.ensures.out_after c.if-judged.true refl;
    }

pub loop-judged-preserved : goal.loop-judged-preserved
loop-judged-preserved c =
    let a = c.args in
    let i = c.loop-judged.invariant in (
      first_turn a.edition a.s.now a.head c.requires c.reading-taken.ensures i.0 _ c.loop-judged.judged i.1 c.list-answer.ensures.out_after c.if-judged.false,
      c.room_for-room.ensures
          ∙ ap (λ (m : Answer Summary). room_for m (length a.out.now / 4)) (turn-says a.edition a.s.now a.head c.requires c.reading-taken.ensures c.list-answer.ensures.result_value),
    )
