-- `text::put_negative` meets its contract: with room the sign is put and the digits behind it, without it nothing.
use native.Mathlib.Omega.{arith}
use mathlib.Core.Path.{sym, ap, ◌∙◌}
use Prim.Native.Nat.{◌+◌, ◌≤◌, ◌<◌}
use lib.ListN.{length}
use borrow.Author.Tests.{leb-true, leb-false}
use Rattle.octets.specs.Parts.{put}
use Rattle.text.proofs.DecimalLaws.{spelled-text}
use Rattle.text.proofs.SignLaws.{sign_and_digits, no_sign_nor_digits}
use Rattle.text.proofs.put_negative.Goals as goal

pub returns-then-has_room : goal.returns-then-has_room
returns-then-has_room c =
    let enough : c.args.at + (c.decimal-digits.result + 1) ≤ length c.args.out.now = leb-true _ _ (sym c.has_room.ensures ∙ c.if-has_room.true) in
    let a = c.args in
    let d = c.decimal-digits in
    let t = spelled-text a.n d.result d.new.out (omega arith) (d.ensures.in_bounds, (d.ensures.len, d.ensures.digits)) in
    let sign = c.put.ensures in
    let digits = c.put-then-has_room.ensures ∙ ap (put _ (a.at + 1)) t.is in
    record {
      value = omega (arith, t.long);
      upper_bound = omega arith;
      out_after = sign_and_digits a.out.now a.at a.n (omega arith) sign digits;
    }

pub returns-else-has_room : goal.returns-else-has_room
returns-else-has_room c =
    let a = c.args in
    let d = c.decimal-digits in
    let t = spelled-text a.n d.result d.new.out (omega arith) (d.ensures.in_bounds, (d.ensures.len, d.ensures.digits)) in
    let few : length a.out.now < a.at + (d.result + 1) = leb-false _ _ (sym c.has_room.ensures ∙ c.if-has_room.false) in
    record {
      value = omega (arith, t.long);
      upper_bound = omega arith;
      out_after = no_sign_nor_digits a.out.now a.at a.n (omega arith);
    }
