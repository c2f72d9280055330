-- Octets of a chunk handed out of a packet, as the struct that they are returned in.
-- Assumes nothing.
use Prim.Native.Nat.{ℕ, ◌+◌, ◌-◌, ◌≤◌, ◌<◌}
use mathlib.Core.Path.{◌≡◌, sym, ap, ◌∙◌}
use mathlib.Core.List.{List, []}
use native.Mathlib.Omega.{arith}
use native.Mathlib.Nat.{zero-add}
use lib.ListN.{length, take, drop}
use Rattle.btsnoop_rules.specs.declared.Numbers.{Numbers}
use Rattle.btsnoop_rules.specs.Record.{record_length}
use Rattle.stream_rules.specs.Stream.{finished, in_record, in_packet, outcome, handed, after, take_packet, within, take_at}
use Rattle.stream_state.specs.declared.Taken.{Taken}
use Rattle.stream_state.specs.Rows.{record_row, if_any, taken_row, TakenAs}
use Rattle.stream_packet.specs.Finished.{FinishedAs}
use Rattle.stream_state.proofs.Cases.{packet-more, packet-full}
use Rattle.stream_state.proofs.Rows.{taken_as}

-- a record that is finished with so many octets from a place on, which are the last that were taken
pub finished_as : (from done size start octets : ℕ) (n : Numbers) (r : Taken) → FinishedAs (from + size) from size done start n octets r
    → (xs : List ℕ) → length xs ≡ size → TakenAs (outcome (from + size) (finished start n done xs) (in_record octets [])) r
finished_as from done size start octets n r told xs long =
    let place : from ≡ from + length xs - length xs = omega arith in
    taken_as (outcome (from + size) (finished start n done xs) (in_record octets [])) r.state r
    (told.row
    ∙ ap (λ (k : ℕ). record_row (from + k) (if_any k from) k (if_any k done) start n r.state) (sym long)
    ∙ ap (λ (k : ℕ). record_row (from + length xs) (if_any (length xs) k) (length xs) (if_any (length xs) done) start n r.state) place
    ∙ ap (λ (k : ℕ). taken_row (from + k) (finished start n done xs) r.state) long)
    told.state

module _ (octets : ℕ) (n : Numbers) (done from : ℕ) (c : List ℕ) where
  -- all that are left of the chunk
  pub handed_all : (here : ℕ) → length (drop from c) ≡ here → here < n.included - done
      → outcome (from + here) (handed done (drop from c)) (in_packet (octets + here) n (done + here))
      ≡ after from (take_packet octets n done (drop from c))
  handed_all here size more =
      let rest : List ℕ = drop from c in
      ap (λ (k : ℕ). outcome (from + k) (handed done rest) (in_packet (octets + k) n (done + k))) (sym size)
      ∙ ap (after from) (sym (packet-more octets n done rest (omega arith)))

  -- the packet's last
  pub handed_last : (left : ℕ) → left ≡ n.included - done → left ≤ length (drop from c)
      → outcome (from + left) (finished (octets - (record_length + done)) n done (take left (drop from c))) (in_record (octets + left) [])
      ≡ after from (take_packet octets n done (drop from c))
  handed_last left size enough =
      let rest : List ℕ = drop from c in
      ap (λ (k : ℕ). outcome (from + k) (finished (octets - (record_length + done)) n done (take k rest)) (in_record (octets + k) [])) size
      ∙ ap (after from) (sym (packet-full octets n done rest (omega arith)))

-- a packet goes on from the chunk's start
pub goes_on : (octets : ℕ) (n : Numbers) (done : ℕ) (c : List ℕ)
    → within octets c (after 0 (take_packet octets n done c)) ≡ take_at (in_packet octets n done) c
unfolding take_at
goes_on octets n done c =
    ap (λ (k : ℕ). within octets c (outcome k (take_packet octets n done c).event (take_packet octets n done c).next))
    (zero-add (take_packet octets n done c).taken)
