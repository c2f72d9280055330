-- `stream_record::whole` meets its contract: with octets held, the 24 that are held then.
use Prim.Native.Nat.{◌≤◌}
use mathlib.Core.Path.{◌≡◌, ap, ◌∙◌}
use native.Mathlib.Omega.{arith}
use mathlib.Core.List.{◌++◌}
use lib.ListN.{length, take, length-append}
use lib.Seq.{length-take-le}
use Rattle.btsnoop_rules.specs.Record.{record_length}
use Rattle.stream_record.proofs.Begins.{all-held}
use Rattle.stream_record.proofs.whole.Goals as goal

pub returns-else-len-eq0 : goal.returns-else-len-eq0
returns-else-len-eq0 c =
    let a = c.args in
    let h = take a.held.count a.held.octets in
    let s = a.chunk.now in
    let t = c.with.result in
    let long : length t.octets ≡ record_length = omega arith in
    let enough : record_length ≤ length (h ++ s) = omega (arith, length-append h s, c.requires) in
    all-held t.octets t.count long (ap length c.with.ensures ∙ length-take-le record_length (h ++ s) enough) ∙ c.with.ensures
