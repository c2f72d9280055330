-- The packet octets that a call hands out are the last octets of the chunk that it took.
-- Assumes nothing.
use Prim.Native.Nat.{ℕ, suc, ◌+◌, ◌-◌, ◌≤◌, ◌<◌}
use mathlib.Core.Path.{◌≡◌, refl, sym, ap, ◌∙◌, subst}
use mathlib.Core.Bool.{Bool, true, false, cond}
use mathlib.Core.List.{List, [], ◌∷◌, ◌++◌}
use native.Mathlib.Omega.{arith}
use native.Mathlib.Nat.{lt_of_not-le, zero-add}
use native.Mathlib.Decide.{dec_le}
use lib.Dec.{leb, ltb}
use lib.ListN.{length, take, drop}
use lib.Seq.{length-take-le, take-length}
use borrow.Author.Tests.{lt-ltb, le-ltb, ne_eqb}
use Rattle.refusals.specs.Refusals.{Answer, refused, given, included_length}
use Rattle.octets.specs.Parts.{part as part_of}
use Rattle.btsnoop_rules.specs.declared.Numbers.{Numbers}
use Rattle.btsnoop_rules.specs.Header.{header_length, header_judged}
use Rattle.btsnoop_rules.specs.Record.{record_length, numbers_at}
use Rattle.stream_rules.specs.Stream.{most_octets, long_stream, nothing, packet_octets, in_header, in_record, in_packet, refused_at, ended_at, Outcome, outcome, refuses, ends, handed, after, header_taken, take_header, record_taken, take_record, take_packet, within, take_at}
use Rattle.stream_rules.specs.Calls.{PartsOfChunk}

-- what is handed out are the last octets taken
abbrev Last : List ℕ → Outcome → Type 0
Last c o = packet_octets o.event ≡ part_of c (o.taken - length (packet_octets o.event)) (length (packet_octets o.event))

-- no octets are
none_last : (c : List ℕ) (o : Outcome) → packet_octets o.event ≡ [] → Last c o
unfolding part_of
none_last c o e = rw e refl

-- a call in a packet hands out the octets that it takes
record Handed (c : List ℕ) (o : Outcome) : Type 0 where
  octets : packet_octets o.event ≡ take o.taken c
  most : o.taken ≤ length c

all_handed : (done : ℕ) (c : List ℕ) → packet_octets (handed done c) ≡ c
all_handed done [] = refl
all_handed done (x ∷ xs) =
    let some : suc (length xs) ≡ 0 → ⊥ = λ z. omega arith in
    rw (ne_eqb (suc (length xs)) 0 some) refl

packet_handed : (octets : ℕ) (n : Numbers) (done : ℕ) (c : List ℕ) → Handed c (take_packet octets n done c)
unfolding take_packet
packet_handed octets n done c = elim (dec_le (n.included - done) (length c)) [ yes l ↦ whole l | no l ↦ short (lt_of_not-le l) ]
  where
    whole : n.included - done ≤ length c → Handed c (take_packet octets n done c)
    whole l = rw le-ltb (record { octets = refl; most = l })

    short : length c < n.included - done → Handed c (take_packet octets n done c)
    short l = rw lt-ltb (record { octets = all_handed done c ∙ sym (take-length c); most = omega arith })

-- behind so many octets of the chunk they are the last taken
handed_last : (c : List ℕ) (k : ℕ) (o : Outcome) → Handed (drop k c) o → Last c (after k o)
unfolding part_of
handed_last c k o h =
    let size : length (packet_octets o.event) ≡ o.taken = ap length h.octets ∙ length-take-le o.taken (drop k c) h.most in
    let place : k ≡ k + o.taken - length (packet_octets o.event) = omega arith in
    h.octets
    ∙ ap (λ (n : ℕ). take n (drop k c)) (sym size)
    ∙ ap (λ (p : ℕ). take (length (packet_octets o.event)) (drop p c)) place

packet_last : (octets : ℕ) (n : Numbers) (done : ℕ) (c : List ℕ) → Last c (take_packet octets n done c)
packet_last octets n done c =
    let o : Outcome = take_packet octets n done c in
    subst (λ (t : ℕ). Last c (outcome t o.event o.next)) (zero-add o.taken) (handed_last c 0 o (packet_handed octets n done c))

-- by cases of a test
last_if : (t : Bool) (c : List ℕ) (o o' : Outcome) → Last c o → Last c o' → Last c (cond t o o')
last_if true c o o' l l' = l
last_if false c o o' l l' = l'

-- a header hands out none
header_last : (octets : ℕ) (held c : List ℕ) → Last c (take_header octets held c)
unfolding take_header
header_last octets held c =
    last_if (ltb (length c) k) c (outcome (length c) nothing (in_header (octets + length c) (held ++ c)))
    (header_taken octets k (header_judged (held ++ take k c)))
    (none_last c (outcome (length c) nothing (in_header (octets + length c) (held ++ c))) refl)
    (taken (header_judged (held ++ take k c)))
  where
    k : ℕ
    k = header_length - length held

    taken : (x : Answer ℕ) → Last c (header_taken octets k x)
    taken (refused n q) = none_last c (header_taken octets k (refused n q)) refl
    taken (given code) = none_last c (header_taken octets k (given code)) refl

-- a record's hands out what its packet's does
record_last : (octets : ℕ) (held c : List ℕ) → Last c (take_record octets held c)
unfolding take_record record_taken
record_last octets held c =
    last_if (ltb (length c) k) c (outcome (length c) nothing (in_record (octets + length c) (held ++ c))) (record_taken octets k n (drop k c))
    (none_last c (outcome (length c) nothing (in_record (octets + length c) (held ++ c))) refl)
    (last_if (leb n.included n.original) c (after k (take_packet (octets + k) n 0 (drop k c)))
    (refuses octets included_length (octets + k - record_length + 4))
    (handed_last c k (take_packet (octets + k) n 0 (drop k c)) (packet_handed (octets + k) n 0 (drop k c)))
    (none_last c (refuses octets included_length (octets + k - record_length + 4)) refl))
  where
    k : ℕ
    k = record_length - length held

    n : Numbers
    n = numbers_at (held ++ take k c) 0

-- 32 hands out none
limited : (octets : ℕ) (c : List ℕ) (o : Outcome) → Last c o → Last c (within octets c o)
limited octets c o l =
    last_if (leb (octets + length c) most_octets) c o (refuses octets long_stream 0) l (none_last c (refuses octets long_stream 0) refl)

pub parts_of_chunk : PartsOfChunk
unfolding take_at
parts_of_chunk (in_header octets held) c = limited octets c (take_header octets held c) (header_last octets held c)
parts_of_chunk (in_record octets held) c = limited octets c (take_record octets held c) (record_last octets held c)
parts_of_chunk (in_packet octets n done) c = limited octets c (take_packet octets n done c) (packet_last octets n done c)
parts_of_chunk (refused_at octets n q) c = none_last c (refuses octets n q) refl
parts_of_chunk (ended_at octets) c = none_last c (ends octets) refl
