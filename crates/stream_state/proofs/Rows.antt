-- Laws of the struct that a call's answer is returned as.
-- Assumes nothing.
use Prim.Native.Nat.{ℕ, suc, ◌-◌}
use mathlib.Core.Path.{◌≡◌, refl, sym, ap, ◌∙◌, subst}
use mathlib.Core.Bool.{Bool, false, cond}
use mathlib.Core.List.{List, [], ◌∷◌}
use native.Mathlib.Omega.{arith}
use lib.ListN.{length}
use lib.Dec.{eqb}
use borrow.Author.Tests.{ne_eqb}
use Rattle.refusals.specs.declared.Refusal.{Refusal}
use Rattle.refusals.specs.Says.{number_of}
use Rattle.octets.specs.Parts.{part as part_of}
use Rattle.stream_rules.specs.Stream as rules
use Rattle.stream_rules.specs.Stream.{Outcome, packet_octets, handed, take_at}
use Rattle.stream_rules.proofs.Parts.{parts_of_chunk}
use Rattle.stream_state.specs.declared.Stream.{Stream}
use Rattle.stream_state.specs.declared.Taken.{Taken}
use Rattle.stream_state.specs.State.{state_says}
use Rattle.stream_state.specs.Rows.{part_row, if_any, taken_row, TakenAs, PartHandedOut}

-- a row holds its state
row-state : (taken : ℕ) (e : rules.Event) (state : Stream) → (taken_row taken e state).state ≡ state
row-state taken rules.nothing state = refl
row-state taken (rules.datalink code) state = refl
row-state taken (rules.part position xs) state = refl
row-state taken (rules.finished start n position xs) state = refl
row-state taken (rules.refusal n q) state = refl
row-state taken (rules.end q) state = refl

-- the row of an outcome, with a state that says what is left to the next call
pub taken_as : (o : Outcome) (state : Stream) (r : Taken) → r ≡ taken_row o.taken o.event state → state_says state ≡ o.next
    → TakenAs o r
taken_as o state r row says =
    let held : r.state ≡ state = ap (λ (t : Taken). t.state) row ∙ row-state o.taken o.event state in
    record { row = row ∙ ap (taken_row o.taken o.event) (sym held); state = ap state_says held ∙ says }

-- an answer to an outcome is one to the same outcome
pub answers : (r : Taken) {o o' : Outcome} → TakenAs o r → o ≡ o' → TakenAs o' r
answers r t e = subst (λ (x : Outcome). TakenAs x r) e t

-- a refusal that is known
pub refused_for : (octets : ℕ) {r r' : Refusal} → r ≡ r'
    → rules.refuses octets (number_of r.reason) r.place ≡ rules.refuses octets (number_of r'.reason) r'.place
refused_for octets e = ap (λ (r : Refusal). rules.refuses octets (number_of r.reason) r.place) e

-- some octets are not none
some : (x : ℕ) (xs : List ℕ) → eqb (length (x ∷ xs)) 0 ≡ false
some x xs =
    let more : suc (length xs) ≡ 0 → ⊥ = λ z. omega arith in
    ne_eqb (suc (length xs)) 0 more

-- octets of a packet that does not end with them, if there are any
pub handed_row : (taken position : ℕ) (xs : List ℕ) (state : Stream)
    → part_row taken (if_any (length xs) (taken - length xs)) (length xs) (if_any (length xs) position) state
    ≡ taken_row taken (handed position xs) state
handed_row taken position [] state = refl
handed_row taken position (x ∷ xs) state =
    sym (ap (λ (b : Bool). taken_row taken (cond b rules.nothing (rules.part position (x ∷ xs))) state) (some x xs))

-- packet octets by the place and the size that an answer names
named : (c : List ℕ) (taken : ℕ) (xs : List ℕ) → xs ≡ part_of c (taken - length xs) (length xs)
    → part_of c (if_any (length xs) (taken - length xs)) (length xs) ≡ xs
unfolding part_of
named c taken [] last = refl
named c taken (x ∷ xs) last =
    ap (λ (b : Bool). part_of c (cond b 0 (taken - length (x ∷ xs))) (length (x ∷ xs))) (some x xs) ∙ sym last

row_named : (c : List ℕ) (taken : ℕ) (e : rules.Event) (state : Stream)
    → packet_octets e ≡ part_of c (taken - length (packet_octets e)) (length (packet_octets e))
    → part_of c (taken_row taken e state).part (taken_row taken e state).size ≡ packet_octets e
unfolding part_of
row_named c taken rules.nothing state last = refl
row_named c taken (rules.datalink code) state last = refl
row_named c taken (rules.part position xs) state last = named c taken xs last
row_named c taken (rules.finished start n position xs) state last = named c taken xs last
row_named c taken (rules.refusal n q) state last = refl
row_named c taken (rules.end q) state last = refl

pub part_handed_out : PartHandedOut
part_handed_out st c r t =
    let o : Outcome = take_at st c in
    ap (λ (x : Taken). part_of c x.part x.size) t.row
    ∙ row_named c o.taken o.event r.state (parts_of_chunk st c)
