-- `radiotap_write::put_header` meets its contract: the fields are put where the fixed header ends.
use mathlib.Core.Path.{sym}
use native.Mathlib.Omega.{arith}
use Rattle.radiotap_rules.specs.Table.{our_rules}
use Rattle.radiotap_rules.proofs.Planning.{length-header}
use Rattle.radiotap_write.proofs.PutLaws.{header-put}
use Rattle.radiotap_write.proofs.put_header.Goals as goal

pub put_fixed-requires : goal.put_fixed-requires
put_fixed-requires c =
    let a = c.args in
    omega (arith, c.requires.0.fits, length-header our_rules a.taken a.presence a.values.now)

pub returns : goal.returns
returns c =
    let a = c.args in
    header-put our_rules a.out.now a.place a.taken a.presence a.values.now (omega (arith, c.requires.0.fits))
    (sym c.requires.1) c.put_fixed.ensures c.put_fields.ensures
