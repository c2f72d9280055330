-- However a stream is cut, its calls tell what the readers tell of the whole.
-- Assumes nothing.
use Prim.Native.Nat.{ℕ}
use mathlib.Core.Path.{refl}
use mathlib.Core.List.{List, []}
use native.Mathlib.Omega.{arith}
use Rattle.stream_rules.specs.Stream.{fresh}
use Rattle.stream_rules.specs.Cuts.{read_whole, CutAnyhow, joined, ChunkByChunk}
use Rattle.stream_rules.proofs.Chains.{At, called, driven}
use Rattle.stream_rules.proofs.Steps.{step, last}

-- before the first call the whole reading is to be told
begun : (s : List ℕ) → At s fresh s [] (read_whole s)
begun s = record { stream = refl; none = refl; reading = refl }

pub cut_anyhow : CutAnyhow
cut_anyhow s es short calls = called s (step s short) (last s) calls [] (read_whole s) (refl, omega arith) (begun s)

pub chunk_by_chunk : ChunkByChunk
chunk_by_chunk cs short =
    let s : List ℕ = joined cs in
    driven s (step s short) (last s) cs fresh [] (read_whole s) (refl, omega arith) (begun s)
