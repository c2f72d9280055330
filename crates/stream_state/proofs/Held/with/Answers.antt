-- `stream_state::Held::with` meets its contract: what is copied stands behind those held.
use lib.ListN.{length}
use native.Mathlib.Omega.{arith}
use mathlib.Core.Path.{◌≡◌}
use Rattle.btsnoop_rules.specs.Record.{record_length}
use Rattle.stream_state.proofs.Fills.{front-filled}
use Rattle.stream_state.proofs.Held.with.Goals as goal

pub returns : goal.returns
returns c =
    let a = c.args in
    let long : length a.self.octets ≡ record_length = omega arith in
    front-filled a.self.octets a.self.count long a.chunk.now c.len-have.result c.min-n.result _ _
    c.len-have.ensures.size c.min-n.ensures c.copy_from_slice.ensures.after
