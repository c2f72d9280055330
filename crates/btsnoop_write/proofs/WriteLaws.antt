-- Laws of the writers: fields put one behind the other are one splice, and one law for each outcome of a write.
-- Assumes nothing.
use Prim.Native.Nat.{ℕ, ◌+◌, ◌≤◌, ◌<◌}
use mathlib.Core.Path.{◌≡◌, ap, ◌∙◌}
use mathlib.Core.Bool.{true, false}
use mathlib.Core.List.{List, ◌++◌, append_assoc}
use lib.ListN.{length, length-append}
use lib.IntN.{ℤ}
use native.Mathlib.Omega.{arith}
use Rattle.refusals.specs.Refusals.{Answer, refused, given, datalink, included_length, no_room, after_write}
use Rattle.octets.specs.Numbers.{big, octets_of}
use Rattle.octets.specs.Signed.{unsigned}
use Rattle.octets.specs.Parts.{splice, put}
use Rattle.octets.proofs.Fields.{length-octets_of}
use Rattle.octets.proofs.PartLaws.{put-room, splice_next, put_next}
use Rattle.btsnoop_rules.specs.Header.{header_length, served}
use Rattle.btsnoop_rules.specs.Record.{record_length}
use Rattle.btsnoop_rules.specs.Writing.{header_octets, header_writing, header_written, record_octets, record_writing, record_written}
use Rattle.btsnoop_rules.proofs.Orders.{header-writing-exactly, record_writing-exactly}

module _ (out : List ℕ) (at n : ℕ) (xs : List ℕ) (long : length xs ≡ n) where
  -- a number put behind octets
  pub put-number : {l m : List ℕ} (v y : ℕ) → at + n + v ≤ length out → l ≡ put out at xs → m ≡ put l (at + n) (octets_of big v y)
      → m ≡ splice out at (xs ++ octets_of big v y)
  put-number {l} {m} v y h el em =
      let first : l ≡ splice out at xs = el ∙ put-room out at xs (omega arith) in
      rw first at em ∙ put_next out at n xs long (octets_of big v y) (omega (arith, length-octets_of big v y))

-- two numbers put behind octets
pub put-numbers : (out : List ℕ) (at n : ℕ) (xs : List ℕ) → length xs ≡ n → {l m p : List ℕ} (v y w z : ℕ) → at + n + v + w ≤ length out
    → l ≡ put out at xs → m ≡ put l (at + n) (octets_of big v y) → p ≡ put m (at + (n + v)) (octets_of big w z)
    → p ≡ splice out at (xs ++ (octets_of big v y ++ octets_of big w z))
put-numbers out at n xs long {l} {m} {p} v y w z h el em ep =
    let front : List ℕ = xs ++ octets_of big v y in
    let both : length front ≡ n + v = omega (arith, length-append xs (octets_of big v y), length-octets_of big v y) in
    let second : m ≡ splice out at front = put-number out at n xs long v y (omega arith) el em in
    rw second at ep
    ∙ put_next out at (n + v) front both (octets_of big w z) (omega (arith, length-octets_of big w z))
    ∙ ap (splice out at) (append_assoc xs (octets_of big v y) (octets_of big w z))

-- a header's write: what it answers, and that the output then holds what this answer says
module _ (out : List ℕ) (at code : ℕ) where
  abbrev pub HeaderOutcome : Answer ℕ → Type 0
  HeaderOutcome answer =
      (header_writing (length out) at code ≡ answer)
      × (header_written out at code ≡ after_write answer out (splice out at (header_octets code)))

  header-outcome : (answer : Answer ℕ) → header_writing (length out) at code ≡ answer → HeaderOutcome answer
  unfolding header_written
  header-outcome answer e = (e, ap (λ (x : Answer ℕ). after_write x out (splice out at (header_octets code))) e)

  pub header-datalink : served code ≡ false → HeaderOutcome (refused datalink 0)
  header-datalink s = header-outcome (refused datalink 0) ((header-writing-exactly (length out) at code).here.1 s)

  module _ (s : served code ≡ true) where
    is_served : served code ≡ false → ⊥
    is_served e = let z : ◌≡◌ {A = ℕ} 0 1 = cc in omega arith

    pub header_no_room : length out < at + header_length → HeaderOutcome (refused no_room 0)
    header_no_room h = header-outcome (refused no_room 0) (((header-writing-exactly (length out) at code).otherwise is_served).here.1 h)

    pub header-given : at + header_length ≤ length out → HeaderOutcome (given (at + header_length))
    header-given h =
        header-outcome (given (at + header_length))
        (((header-writing-exactly (length out) at code).otherwise is_served).otherwise (λ few. omega arith))

-- the same of a record's write
module _ (out : List ℕ) (at original flags drops : ℕ) (time : ℤ) (packet : List ℕ) where
  abbrev pub RecordOutcome : Answer ℕ → Type 0
  RecordOutcome answer =
      (record_writing (length out) at original packet ≡ answer)
      × (record_written out at original flags drops time packet
      ≡ after_write answer out (splice out at (record_octets original flags drops time packet)))

  record_outcome : (answer : Answer ℕ) → record_writing (length out) at original packet ≡ answer → RecordOutcome answer
  unfolding record_written
  record_outcome answer e =
      (e, ap (λ (x : Answer ℕ). after_write x out (splice out at (record_octets original flags drops time packet))) e)

  pub record_included : original < length packet → RecordOutcome (refused included_length 0)
  record_included h = record_outcome (refused included_length 0) ((record_writing-exactly (length out) at original packet).here.1 h)

  -- the place after the record
  abbrev next : ℕ
  next = at + (record_length + length packet)

  module _ (i : length packet ≤ original) where
    pub record_no_room : length out < next → RecordOutcome (refused no_room 0)
    record_no_room h =
        record_outcome (refused no_room 0)
        (((record_writing-exactly (length out) at original packet).otherwise (λ above. omega arith)).here.1 h)

    pub record_given : next ≤ length out → RecordOutcome (given next)
    record_given h =
        record_outcome (given next)
        (((record_writing-exactly (length out) at original packet).otherwise (λ above. omega arith)).otherwise (λ few. omega arith))

  -- a record's lengths, its marks and its packet, each written behind the one before
  pub record_parts : {l m p : List ℕ} → next ≤ length out
      → l ≡ splice out at (octets_of big 4 original ++ octets_of big 4 (length packet))
      → m ≡ splice l (at + 8) (octets_of big 4 flags ++ (octets_of big 4 drops ++ octets_of big 8 (unsigned 64 time)))
      → p ≡ put m (at + record_length) packet
      → p ≡ splice out at (record_octets original flags drops time packet)
  unfolding record_octets
  record_parts {l} {m} {p} h el em ep =
      let lengths : List ℕ = octets_of big 4 original ++ octets_of big 4 (length packet) in
      let marks : List ℕ = octets_of big 4 flags ++ (octets_of big 4 drops ++ octets_of big 8 (unsigned 64 time)) in
      let eight : length lengths ≡ 8 = simp (length-append, length-octets_of) in
      let all : length (lengths ++ marks) ≡ record_length = simp (length-append, length-octets_of) in
      let both : m ≡ splice out at (lengths ++ marks) =
      em ∙ ap (λ (l : List ℕ). splice l (at + 8) marks) el ∙ splice_next out at 8 lengths eight marks (omega arith) in
      ep
      ∙ ap (λ (l : List ℕ). put l (at + record_length) packet) both
      ∙ put_next out at record_length (lengths ++ marks) all packet (omega arith)
      ∙ ap (splice out at) (simp append_assoc)
