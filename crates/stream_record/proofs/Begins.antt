-- A record's header that begins in a chunk, or is held of the chunks before it.
-- Assumes nothing.
use Prim.Native.Nat.{ℕ, ◌+◌, ◌-◌, ◌≤◌, ◌<◌}
use mathlib.Core.Path.{◌≡◌, refl, sym, ap, ◌∙◌}
use mathlib.Core.Bool.{Bool, true, false, cond}
use mathlib.Core.List.{List, [], ◌++◌}
use native.Mathlib.Omega.{arith}
use native.Mathlib.Decide.{dec_le}
use native.Mathlib.Nat.{lt_of_not-le}
use lib.Dec.{leb, ltb}
use lib.ListN.{length, take, drop, length-drop, take-append-drop}
use lib.Seq.{take_all, length-take-le, take-append-add}
use borrow.Author.Tests.{ltb-true, ltb-false, le-leb, lt-leb}
use Rattle.refusals.specs.Refusals.{included_length}
use Rattle.btsnoop_rules.specs.declared.Numbers.{Numbers}
use Rattle.btsnoop_rules.specs.Record.{record_length, numbers_at}
use Rattle.stream_rules.specs.Stream.{most_octets, long_stream, nothing, finished, in_record, outcome, refuses, after, take_packet, record_taken, take_record, within, take_at}
use Rattle.stream_rules.proofs.Fronts.{numbers-front}
use Rattle.stream_state.proofs.Cases.{within-limit, within_past, record_more, record_full, taken_above, taken-begun, packet-full}

-- a chunk past the longest stream
pub past : (octets : ℕ) (held c : List ℕ) → most_octets < octets + length c → refuses octets long_stream 0 ≡ take_at (in_record octets held) c
unfolding take_at
past octets held c long = sym (within_past octets c (take_record octets held c) long)

-- one inside it
module _ (octets : ℕ) (held c : List ℕ) (short : octets + length c ≤ most_octets) where
  inside : take_record octets held c ≡ take_at (in_record octets held) c
  unfolding take_at
  inside = sym (within-limit octets c (take_record octets held c) short)

  -- the header does not end in it
  pub waits : length held + length c < record_length
      → outcome (length c) nothing (in_record (octets + length c) (held ++ c)) ≡ take_at (in_record octets held) c
  waits h = sym (record_more octets held c h) ∙ inside

  -- the header ends in it, behind so many octets
  module _ (k : ℕ) (need : k ≡ record_length - length held) (full : record_length ≤ length held + length c)
      (n : Numbers) (same : n ≡ numbers_at (held ++ take k c) 0) where
    ended : record_taken octets k n (drop k c) ≡ take_at (in_record octets held) c
    ended =
        ap (λ (m : Numbers). record_taken octets k m (drop k c)) same
        ∙ ap (λ (j : ℕ). record_taken octets j (numbers_at (held ++ take j c) 0) (drop j c)) need
        ∙ sym (record_full octets held c full)
        ∙ inside

    pub refuses_6 : n.original < n.included → refuses octets included_length (octets + k - record_length + 4) ≡ take_at (in_record octets held) c
    refuses_6 h = sym (taken_above octets k n (drop k c) h) ∙ ended

    pub begins : k ≤ length c → n.included ≤ n.original
        → within (octets + k) (drop k c) (after k (take_packet (octets + k) n 0 (drop k c))) ≡ take_at (in_record octets held) c
    begins some fair =
        within-limit (octets + k) (drop k c) (after k (take_packet (octets + k) n 0 (drop k c))) (omega (arith, length-drop k c))
        ∙ sym (taken-begun octets k n (drop k c) fair)
        ∙ ended

-- the first 24 octets, where at most so many are held
front-behind : (h c : List ℕ) → length h ≤ record_length → take record_length (h ++ c) ≡ h ++ take (record_length - length h) c
front-behind h c few =
    let room : length h + (record_length - length h) ≡ record_length = omega arith in
    ap (λ (k : ℕ). take k (h ++ c)) (sym room) ∙ take-append-add h c (record_length - length h)

-- 24 octets held are all of an array
pub all-held : (held : List ℕ) (count : ℕ) → length held ≡ record_length → length (take count held) ≡ record_length → held ≡ take count held
all-held held count long full = go (dec_le (length held) count)
  where
    go : Dec (length held ≤ count) → held ≡ take count held
    go (yes h) = sym (take_all count held h)
    go (no h) = absurd (omega (arith, length-take-le count held (omega (arith, lt_of_not-le h)), lt_of_not-le h))

-- a header of which octets are held, and the rest is in a chunk inside the longest stream
module _ (octets : ℕ) (h c : List ℕ) (few : length h ≤ record_length)
    (short : octets + length c ≤ most_octets) (full : record_length ≤ length h + length c)
    (all : List ℕ) (whole : all ≡ take record_length (h ++ c)) (k : ℕ) (need : k ≡ record_length - length h) where
  numbers : numbers_at all 0 ≡ numbers_at (h ++ take k c) 0
  numbers =
      ap (λ (x : List ℕ). numbers_at x 0) (whole ∙ front-behind h c few)
      ∙ ap (λ (j : ℕ). numbers_at (h ++ take j c) 0) (sym need)

  pub above_refused : ltb (numbers_at all 0).original (numbers_at all 0).included ≡ true
      → refuses octets included_length (octets + k - record_length + 4) ≡ take_at (in_record octets h) c
  above_refused e =
      refuses_6 octets h c short k need full (numbers_at all 0) numbers
      (ltb-true (numbers_at all 0).original (numbers_at all 0).included e)

  pub packet-begun : ltb (numbers_at all 0).original (numbers_at all 0).included ≡ false
      → within (octets + k) (drop k c) (after k (take_packet (octets + k) (numbers_at all 0) 0 (drop k c))) ≡ take_at (in_record octets h) c
  packet-begun e =
      begins octets h c short k need full (numbers_at all 0) numbers (omega arith)
      (ltb-false (numbers_at all 0).original (numbers_at all 0).included e)

-- the numbers of a record at the start of a chunk are those in its first 24 octets
pub front-numbers : (c : List ℕ) → record_length ≤ length c → numbers_at (take record_length c) 0 ≡ numbers_at c 0
front-numbers c long =
    sym (numbers-front c (take record_length c) (drop record_length c) 0 (sym (take-append-drop record_length c)) (length-take-le record_length c long))

-- a record that lies whole in a chunk inside the longest stream
pub whole_record : (octets : ℕ) (c : List ℕ) → octets + length c ≤ most_octets → record_length + (numbers_at c 0).included ≤ length c
    → (numbers_at c 0).included ≤ (numbers_at c 0).original
    → outcome (record_length + (numbers_at c 0).included) (finished octets (numbers_at c 0) 0 (take (numbers_at c 0).included (drop record_length c)))
    (in_record (octets + (record_length + (numbers_at c 0).included)) [])
    ≡ take_at (in_record octets []) c
whole_record octets c short full fair =
    let n : Numbers = numbers_at c 0 in
    let size : ℕ = n.included in
    let rest : List ℕ = drop record_length c in
    let left : length (drop record_length c) ≡ length c - record_length = length-drop record_length c in
    let start : octets ≡ octets + record_length - (record_length + 0) = omega arith in
    let next : octets + (record_length + size) ≡ octets + record_length + size = omega arith in
    let all : size ≡ size - 0 = omega arith in
    let same : n ≡ numbers_at (take record_length c) 0 = sym (front-numbers c (omega arith)) in
    ap (λ (p : ℕ). outcome (record_length + size) (finished p n 0 (take size rest)) (in_record (octets + (record_length + size)) [])) start
    ∙ ap (λ (q : ℕ). outcome (record_length + size) (finished (octets + record_length - (record_length + 0)) n 0 (take size rest)) (in_record q [])) next
    ∙ ap (λ (k : ℕ). outcome (record_length + k) (finished (octets + record_length - (record_length + 0)) n 0 (take k rest)) (in_record (octets + record_length + k) [])) all
    ∙ ap (after record_length) (sym (packet-full (octets + record_length) n 0 rest (omega arith)))
    ∙ sym (within-limit (octets + record_length) rest (after record_length (take_packet (octets + record_length) n 0 rest)) (omega arith))
    ∙ begins octets [] c short record_length refl (omega arith) n same (omega arith) fair

-- a chunk that goes past a record's header
pub goes : (octets have n : ℕ) → have ≤ record_length
    → cond (leb (octets + n) most_octets) (ltb n (record_length - have)) true ≡ false
    → (octets + n ≤ most_octets) × (record_length ≤ have + n)
goes octets have n few e = elim (dec_le (octets + n) most_octets) [ yes h ↦ inner h | no h ↦ none (lt_of_not-le h) ]
  where
    inner : octets + n ≤ most_octets → (octets + n ≤ most_octets) × (record_length ≤ have + n)
    inner h =
        let f : ltb n (record_length - have) ≡ false = sym (ap (λ (b : Bool). cond b (ltb n (record_length - have)) true) (le-leb (octets + n) most_octets h)) ∙ e in
        let more : record_length - have ≤ n = ltb-false n (record_length - have) f in
        (h, omega arith)

    none : most_octets < octets + n → (octets + n ≤ most_octets) × (record_length ≤ have + n)
    none h =
        let f : true ≡ false = sym (ap (λ (b : Bool). cond b (ltb n (record_length - have)) true) (lt-leb (octets + n) most_octets h)) ∙ e in
        let z : ◌≡◌ {A = ℕ} 0 1 = cc in
        (omega arith, omega arith)
