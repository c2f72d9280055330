-- `radiotap_reader::after_moves` meets its contract: the loop keeps that the reader holds the header and the edition, and that the moves left from its
-- place lead where all moves from the fresh place lead; it ends where none is left or the reader stays.
use Prim.Native.Nat.{ℕ}
use native.Mathlib.Omega.{arith}
use mathlib.Core.Path.{◌≡◌, sym, ap, ◌∙◌, subst₂}
use mathlib.Core.List.{List}
use Rattle.refusals.specs.Says.{says}
use Rattle.std.specs.Borrow.{Bor}
use Rattle.radiotap_rules.specs.Table.{our_rules}
use Rattle.radiotap_step.specs.Says.{step_says}
use Rattle.radiotap_place.specs.Places.{answer_at}
use Rattle.radiotap_reader.proofs.MoveLaws.{none_moved, one_moved, all_moved, stayed, shown_after}
use Rattle.radiotap_reader.proofs.after_moves.Goals as goal

pub loop-moved-init : goal.loop-moved-init
loop-moved-init c =
    let a = c.args in
    let e = c.new-reader.ensures in
    (ap (λ (b : Bor (List ℕ)). b.now) e.0, e.1, none_moved our_rules a.edition a.header.now a.moves e.2)

pub returns-then-stays : goal.returns-then-stays
returns-then-stays c =
    let a = c.args in
    let i = c.loop-moved.invariant in
    let r = c.loop-moved.reader in
    let told : step_says a.header.now c.next-answer.result ≡ answer_at our_rules a.edition a.header.now (says r.place) =
    subst₂ (λ (s : List ℕ) (n : ℕ). step_says s c.next-answer.result ≡ answer_at our_rules n s (says r.place)) i.0 i.1 c.next-answer.ensures.result_value in
    let answers = stayed our_rules a.edition a.header.now a.moves i.2 told (sym (c.stays.ensures a.header.now) ∙ c.if-stays.true) in
    record {
      result_value = answers;
      field_shown = shown_after our_rules a.edition a.header.now a.moves answers;
      step_sized = c.next-answer.ensures.step_sized;
    }

pub returns : goal.returns
returns c =
    let a = c.args in
    let i = c.loop-moved.invariant in
    let r = c.loop-moved.reader in
    let told : step_says a.header.now c.next.result ≡ answer_at our_rules a.edition a.header.now (says r.place) =
    subst₂ (λ (s : List ℕ) (n : ℕ). step_says s c.next.result ≡ answer_at our_rules n s (says r.place)) i.0 i.1 c.next.ensures.result_value in
    let answers = all_moved our_rules a.edition a.header.now a.moves i.2 told (omega arith) in
    record {
      result_value = answers;
      field_shown = shown_after our_rules a.edition a.header.now a.moves answers;
      step_sized = c.next.ensures.step_sized;
    }

pub loop-moved-preserved : goal.loop-moved-preserved
loop-moved-preserved c =
    let a = c.args in
    let i = c.loop-moved.invariant in
    let r = c.loop-moved.reader in
    let told : step_says a.header.now c.next-answer.result ≡ answer_at our_rules a.edition a.header.now (says r.place) =
    subst₂ (λ (s : List ℕ) (n : ℕ). step_says s c.next-answer.result ≡ answer_at our_rules n s (says r.place)) i.0 i.1 c.next-answer.ensures.result_value in
    (i.0, i.1, one_moved our_rules a.edition a.header.now a.moves i.2 told (omega arith) (c.behind-reader.ensures a.header.now))
