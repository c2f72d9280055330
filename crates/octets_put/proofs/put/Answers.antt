-- `octets_put::put` meets its contract: the loop has pasted the first octets, and at its end all; without room nothing changes.
use Prim.Native.Nat.{◌≤◌, ◌+◌, ◌<◌}
use mathlib.Core.Path.{◌≡◌, ap, sym, ◌∙◌}
use mathlib.Core.Bool.{Bool, cond}
use native.Mathlib.Omega.{arith}
use native.Mathlib.Numerals.{add-one}
use lib.ListN.{length}
use lib.Seq.{paste, paste-suc}
use borrow.Author.Tests.{leb-true}
use Rattle.octets.specs.Parts.{splice, put}
use Rattle.octets.proofs.PartLaws.{put-room, splice-paste}
use Rattle.octets_put.proofs.put.Goals as goal

pub loop-i-preserved : goal.loop-i-preserved
loop-i-preserved c =
    let a = c.args in
    let i = c.loop-i.i in
    let fits : a.at + length a.octets.now ≤ length a.out.now =
    leb-true (a.at + length a.octets.now) (length a.out.now) (sym c.has_room.ensures ∙ c.if-has_room.true) in
    let room : a.at + i < length a.out.now = omega arith in
    let more : i < length a.octets.now = omega arith in
    rw (c.loop-i.invariant, add-one) (paste-suc a.out.now a.at a.octets.now i 0 room more)

pub returns-after-loop-i : goal.returns-after-loop-i
returns-after-loop-i c =
    let a = c.args in
    let all : c.loop-i.i ≡ length a.octets.now = omega arith in
    let fits : a.at + length a.octets.now ≤ length a.out.now =
    leb-true (a.at + length a.octets.now) (length a.out.now) (sym c.has_room.ensures ∙ c.if-has_room.true) in
    c.loop-i.invariant
    ∙ ap (paste a.out.now a.at a.octets.now) all
    ∙ sym (splice-paste a.out.now a.at a.octets.now)
    ∙ sym (put-room a.out.now a.at a.octets.now fits)

pub returns-else-has_room : goal.returns-else-has_room
unfolding put
returns-else-has_room c =
    let a = c.args in
    sym (ap (λ (t : Bool). cond t (splice a.out.now a.at a.octets.now) a.out.now) (sym c.has_room.ensures ∙ c.if-has_room.false))
