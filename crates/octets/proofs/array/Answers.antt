-- `octets::array` meets its contract: inside the input it is the part, and else each octet is by the promise of `octet`.
use native.Mathlib.Omega.{arith}
use mathlib.Core.Path.{◌≡◌, sym, ap, subst, ◌∙◌}
use Rattle.std.proofs.lemmas.List.{length-take-le}
use Rattle.std.proofs.Common.{length, take}
use Rattle.std.proofs.lemmas.List.{length-set, length-replicate}
use Rattle.octets.specs.Parts.{part}
use Rattle.octets.proofs.Arrays.{OneByOne, octets_one_by_one, one_more, of_part}
use Rattle.octets.proofs.array.Goals as goal

pub returns-in-Some : goal.returns-in-Some
returns-in-Some g c =
    let a = c.args in
    let n = g.row.N in
    let whole = c.in-Some.whole.now in
    let long : length whole ≡ n =
    ap length c.in-Some.ensures.cases.same ∙ length-take-le n c.part.result.now c.in-Some.ensures.cases.enough in
    let same : whole ≡ take n (part a.s.now a.at n) = c.in-Some.ensures.cases.same ∙ ap (take n) c.part.ensures in
    octets_one_by_one a.s.now a.at 0 n whole long
    (subst (OneByOne a.s.now a.at 0 n) (sym same) (of_part a.s.now a.at n))

pub loop-i-init : goal.loop-i-init
loop-i-init g c = (length-replicate g.row.N 0, λ i h. absurd (omega arith))

pub loop-i-preserved : goal.loop-i-preserved
loop-i-preserved g c =
    let a = c.args in
    let l = c.loop-i in
    let long = l.invariant.0 in (
      length-set l.found l.i c.octet.result ∙ long,
      one_more a.s.now a.at l.i l.found c.octet.result (omega arith) l.invariant.1 c.octet.ensures,
    )

pub returns : goal.returns
returns g c =
    let a = c.args in
    let l = c.loop-i in
    octets_one_by_one a.s.now a.at 0 g.row.N l.found l.invariant.0
    (subst (λ k. OneByOne a.s.now a.at 0 k l.found) (omega arith) l.invariant.1)
