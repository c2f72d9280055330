-- `listing::lines_before_last` meets its contract: each way out is a case of `listing`, by the input's length and the header
-- reader's answer.
use native.Mathlib.Omega.{arith}
use mathlib.Core.Path.{sym, subst}
use mathlib.Core.List.{List}
use Prim.Native.Nat.{ℕ}
use Rattle.std.proofs.lemmas.Result.{err_from_is_err_and}
use Rattle.btsnoop_rules.proofs.HeaderLaws.{header-long}
use Rattle.text_lines.specs.Wrote.{Wrote}
use Rattle.text_lines.proofs.WroteLaws.{wrote_then}
use Rattle.listing_rules.proofs.ListingLaws.{listing_above, listing-behind}
use Rattle.listing.proofs.lines_before_last.Goals as goal

pub returns-then-input-gt-MOST_OCTETS-clause-lacks_last : goal.returns-then-input-gt-MOST_OCTETS-clause-lacks_last
returns-then-input-gt-MOST_OCTETS-clause-lacks_last c =
    let before = c.args.lines.now in
    let text = listing_above c.args.input.now (omega arith) in
    rw c.at.ensures (λ after behind w. subst (λ (xs : List ℕ). Wrote before.output.now before.at xs after behind) (sym text) w)

pub returns-in_err-datalink-clause-lacks_last : goal.returns-in_err-datalink-clause-lacks_last
returns-in_err-datalink-clause-lacks_last c =
    let before = c.args.lines.now in
    let text = listing-behind c.args.input.now (omega arith) (sym c.in_err-datalink.ensures) in
    let p = err_from_is_err_and c.from_residual.result c.from_residual.ensures.1 in
    rw (p.1, p.2) (λ after behind w. subst (λ (xs : List ℕ). Wrote before.output.now before.at xs after behind) (sym text) w)

pub record_lines-requires : goal.record_lines-requires
record_lines-requires c = (header-long c.args.input.now _ (sym c.in_ok-datalink.ensures), omega arith)

pub returns-clause-lacks_last : goal.returns-clause-lacks_last
returns-clause-lacks_last c after behind w =
    let before = c.args.lines.now in
    let text = listing-behind c.args.input.now (omega arith) (sym c.in_ok-datalink.ensures) in
    subst (λ (xs : List ℕ). Wrote before.output.now before.at xs after behind)
    (sym text)
    (wrote_then c.file_line.ensures.wrote (c.record_lines.ensures.lacks_last after behind w))
