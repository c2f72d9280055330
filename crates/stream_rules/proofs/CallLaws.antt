-- What one call does, in any state: it gives a final answer, or it goes on behind the octets that it took.
-- Assumes nothing.
use Prim.Native.Nat.{ℕ, suc, ◌+◌, ◌-◌, ◌≤◌, ◌<◌}
use mathlib.Core.Path.{◌≡◌, refl, sym, ap, ◌∙◌, subst}
use mathlib.Core.Bool.{Bool, true, false, cond}
use mathlib.Core.List.{List, [], ◌∷◌, ◌++◌}
use native.Mathlib.Omega.{arith}
use native.Mathlib.Nat.{lt_of_not-le, zero-add}
use native.Mathlib.Decide.{dec_le, ℕ_discrete}
use lib.Dec.{eqb}
use lib.ListN.{length, take, drop, length-append, length-drop}
use borrow.Author.Tests.{lt-ltb, le-ltb, le-leb, lt-leb, eq-eqb, ne_eqb}
use Rattle.refusals.specs.Refusals.{Answer, refused, given, identification, version, datalink, included_length}
use Rattle.octets.specs.Numbers.{big, octets_at, number_at}
use Rattle.btsnoop_rules.specs.declared.Numbers.{Numbers}
use Rattle.btsnoop_rules.specs.Header.{header_length, identification_octets, version_number, served, same_octets, header_judged}
use Rattle.btsnoop_rules.specs.Record.{record_length, numbers_at}
use Rattle.stream_rules.specs.Stream.{long_stream, most_octets, refusal, Stream, in_header, in_record, in_packet, refused_at, ended_at, octets_taken, Outcome, outcome, refuses, ends, handed, after, header_taken, take_header, record_taken, take_record, take_packet, within, take_at, end_at}
use Rattle.stream_rules.specs.Calls.{Final, Live, Repeated, Awaits, of_header, Due, used_up, part_used_up, code_due, record_due, header_due, six_due, long_due, only_at_end}

-- a call with a final answer
pub record Stopped (st : Stream) (c : List ℕ) (o : Outcome) : Type 0 where
  pub final : Final o.event
  pub none : o.taken ≡ 0
  pub again : Repeated o
  pub over : Live o.next → ⊥
  pub awaits : Awaits o.next
  pub other : Live st → octets_taken st + length c ≤ most_octets → (q : ℕ) → o.event ≡ refusal long_stream q → ⊥
  pub due : Live st → Awaits st → Due (octets_taken st) c o.taken o.event

-- a call without one
pub record Onward (st : Stream) (c : List ℕ) (o : Outcome) : Type 0 where
  pub going : Final o.event → ⊥
  pub live : Live o.next
  pub some : Awaits st → 1 ≤ length c → 1 ≤ o.taken
  pub most : o.taken ≤ length c
  pub counted : octets_taken o.next ≡ octets_taken st + o.taken
  pub awaits : Awaits st → Awaits o.next
  pub due : Awaits st → Due (octets_taken st) c o.taken o.event

pub data Went (st : Stream) (c : List ℕ) (o : Outcome) : Type 0 where
  stops : Stopped st c o → Went st c o
  goes : octets_taken st + length c ≤ most_octets → Onward st c o → Went st c o

-- a refusal and the end are given again
refused-again : (octets n q : ℕ) → Repeated (refuses octets n q)
unfolding take_at end_at
refused-again octets n q = record { call = λ c. refl; over = refl }

ended-again : (octets : ℕ) → Repeated (ends octets)
unfolding take_at end_at
ended-again octets = record { call = λ c. refl; over = refl }

module _ (st : Stream) (c : List ℕ) where
  refusal-stops : (octets n q : ℕ) → (Live st → octets_taken st + length c ≤ most_octets → n ≡ long_stream → ⊥)
      → (Live st → Awaits st → Due (octets_taken st) c 0 (refusal n q)) → Went st c (refuses octets n q)
  refusal-stops octets n q other due =
      stops (record {
        final = tt;
        none = refl;
        again = refused-again octets n q;
        over = λ l. l;
        awaits = tt;
        other = λ l h q' e. other l h (cc);
        due = due;
      })

  -- 32 comes first
  limited : (o : Outcome) → (octets_taken st + length c ≤ most_octets → Went st c o) → Went st c (within (octets_taken st) c o)
  limited o w = elim (dec_le (octets_taken st + length c) most_octets) [ yes h ↦ room h | no h ↦ past (lt_of_not-le h) ]
    where
      past : most_octets < octets_taken st + length c → Went st c (within (octets_taken st) c o)
      past h = rw lt-leb (refusal-stops (octets_taken st) long_stream 0 (λ l i e. omega arith) (λ l a. long_due h))

      room : octets_taken st + length c ≤ most_octets → Went st c (within (octets_taken st) c o)
      room h = rw le-leb (w h)

-- a header is refused with 2, 3 or 4 alone
abbrev Judged : Answer ℕ → Type 0
Judged (refused n q) = of_header n ≡ true
Judged (given code) = Unit {0}

judged : (h : List ℕ) → Judged (header_judged h)
unfolding header_judged
judged h =
    go (same_octets (octets_at h 0 8) identification_octets) (eqb (number_at big 4 h 8) version_number) (served (number_at big 4 h 12))
    (number_at big 4 h 12)
  where
    go : (same number code : Bool) (x : ℕ)
        → Judged (cond same (cond number (cond code (given x) (refused datalink 12)) (refused version 8)) (refused identification 0))
    go true true true x = tt
    go true true false x = refl
    go true false code x = refl
    go false number code x = refl

not_long : (n : ℕ) → of_header n ≡ true → n ≡ long_stream → ⊥
not_long n e h =
    let f : of_header long_stream ≡ true = ap of_header (sym h) ∙ e in
    let z : ◌≡◌ {A = ℕ} 0 1 = cc in
    omega arith

-- one call in the file header
module _ (octets : ℕ) (held c : List ℕ) (room : octets + length c ≤ most_octets) where
  header_went : Went (in_header octets held) c (take_header octets held c)
  unfolding take_header
  header_went = elim (dec_le (header_length - length held) (length c)) [ yes l ↦ whole l | no l ↦ short (lt_of_not-le l) ]
    where
      k : ℕ
      k = header_length - length held

      full : k ≤ length c → (x : Answer ℕ) → Judged x → Went (in_header octets held) c (header_taken octets k x)
      full l (refused n q) j =
          refusal-stops (in_header octets held) c octets n q (λ v h. not_long n j)
          (λ v a. header_due j (record { before = omega (arith, a.0, a.1); there = omega (arith, a.0) }))
      full l (given code) j =
          goes room
          (record {
            going = λ f. f;
            live = tt;
            some = λ a m. omega (arith, a.1);
            most = omega arith;
            counted = refl;
            awaits = λ a. (omega (arith, a.0, a.1), omega arith);
            due =
                λ a. code_due (record { before = omega (arith, a.0, a.1); there = omega (arith, a.0) }) (omega (arith, a.0, a.1));
          })

      whole : k ≤ length c → Went (in_header octets held) c (take_header octets held c)
      whole l = rw le-ltb (full l (header_judged (held ++ take k c)) (judged (held ++ take k c)))

      short : length c < k → Went (in_header octets held) c (take_header octets held c)
      short l =
          rw lt-ltb
          (goes room
          (record {
            going = λ f. f;
            live = tt;
            some = λ a m. m;
            most = omega arith;
            counted = refl;
            awaits = λ a. (omega (arith, a.0, length-append held c), omega (arith, length-append held c));
            due = λ a. used_up refl;
          }))

-- what octets of a packet hand out is no final answer, and uses up their chunk
handed_going : (position : ℕ) (c : List ℕ) → Final (handed position c) → ⊥
handed_going position [] f = f
handed_going position (x ∷ xs) f =
    let some : suc (length xs) ≡ 0 → ⊥ = λ z. omega arith in
    rw (ne_eqb (suc (length xs)) 0 some) at f

handed_due : {octets taken : ℕ} {chunk : List ℕ} (position : ℕ) (c : List ℕ) → taken ≡ length chunk
    → Due octets chunk taken (handed position c)
handed_due position [] e = used_up e
handed_due position (x ∷ xs) e =
    let some : suc (length xs) ≡ 0 → ⊥ = λ z. omega arith in
    rw (ne_eqb (suc (length xs)) 0 some) (part_used_up e)

-- a packet that so many octets of a chunk stand before
record Packed (octets : ℕ) (n : Numbers) (done k : ℕ) : Type 0 where
  behind : header_length + record_length + done ≤ octets
  most : done ≤ n.included
  some : 1 ≤ k + (n.included - done)

-- one call in a packet, or in its record's header and then in the packet
module _ (st : Stream) (chunk : List ℕ) (k octets : ℕ) (n : Numbers) (done : ℕ) (c : List ℕ)
    (room : octets_taken st + length chunk ≤ most_octets)
    (at : octets ≡ octets_taken st + k) (long : length chunk ≡ k + length c) (packed : Awaits st → Packed octets n done k) where
  packet_went : Went st chunk (after k (take_packet octets n done c))
  unfolding take_packet
  packet_went = elim (dec_le (n.included - done) (length c)) [ yes l ↦ whole l | no l ↦ short (lt_of_not-le l) ]
    where
      short : length c < n.included - done → Went st chunk (after k (take_packet octets n done c))
      short l =
          rw lt-ltb
          (goes room
          (record {
            going = handed_going _ c;
            live = tt;
            some = λ a m. omega arith;
            most = omega arith;
            counted = omega arith;
            awaits = λ a. (omega (arith, (packed a).behind), omega arith);
            due = λ a. handed_due _ c (sym long);
          }))

      whole : n.included - done ≤ length c → Went st chunk (after k (take_packet octets n done c))
      whole l =
          rw le-ltb
          (goes room
          (record {
            going = λ f. f;
            live = tt;
            some = λ a m. omega (arith, (packed a).some);
            most = omega arith;
            counted = omega arith;
            awaits = λ a. (omega (arith, (packed a).behind), omega arith);
            due =
                λ a. record_due {p = octets - (record_length + done)} {n = n}
                (record { before = omega (arith, (packed a).behind, (packed a).most, (packed a).some); there = omega (arith, (packed a).behind, (packed a).most) })
                (omega (arith, (packed a).behind, (packed a).most));
          }))

-- one call in a record's header
module _ (octets : ℕ) (held c : List ℕ) (room : octets + length c ≤ most_octets) where
  record_went : Went (in_record octets held) c (take_record octets held c)
  unfolding take_record record_taken
  record_went = elim (dec_le (record_length - length held) (length c)) [ yes l ↦ whole l | no l ↦ short (lt_of_not-le l) ]
    where
      k : ℕ
      k = record_length - length held

      n : Numbers
      n = numbers_at (held ++ take k c) 0

      full : k ≤ length c → Dec (n.included ≤ n.original)
          → Went (in_record octets held) c (record_taken octets k n (drop k c))
      full l (yes g) =
          rw le-leb
          (packet_went (in_record octets held) c k (octets + k) n 0 (drop k c) room refl (omega (arith, length-drop k c))
          (λ a. record { behind = omega (arith, a.0, a.1); most = omega arith; some = omega (arith, a.1) }))
      full l (no g) =
          let above : n.original < n.included = lt_of_not-le g in
          rw lt-leb
          (refusal-stops (in_record octets held) c octets included_length (octets + k - record_length + 4) (λ v h e. omega arith)
          (λ v a. six_due (octets + k - record_length) refl
          (record { before = omega (arith, a.0, a.1); there = omega (arith, a.0, a.1) })))

      whole : k ≤ length c → Went (in_record octets held) c (take_record octets held c)
      whole l = rw le-ltb (full l (dec_le n.included n.original))

      short : length c < k → Went (in_record octets held) c (take_record octets held c)
      short l =
          rw lt-ltb
          (goes room
          (record {
            going = λ f. f;
            live = tt;
            some = λ a m. m;
            most = omega arith;
            counted = refl;
            awaits = λ a. (omega (arith, a.0, length-append held c), omega (arith, length-append held c));
            due = λ a. used_up refl;
          }))

at_once : (o : Outcome) → after 0 o ≡ o
at_once o = ap (λ (k : ℕ). outcome k o.event o.next) (zero-add o.taken)

-- one call in any state
pub call_went : (st : Stream) (c : List ℕ) → Went st c (take_at st c)
unfolding take_at
call_went (in_header octets held) c = limited (in_header octets held) c (take_header octets held c) (header_went octets held c)
call_went (in_record octets held) c = limited (in_record octets held) c (take_record octets held c) (record_went octets held c)
call_went (in_packet octets n done) c =
    limited (in_packet octets n done) c (take_packet octets n done c)
    (λ h. subst (Went (in_packet octets n done) c) (at_once (take_packet octets n done c))
    (packet_went (in_packet octets n done) c 0 octets n done c h (omega arith) (omega arith)
    (λ a. record { behind = a.0; most = omega (arith, a.1); some = omega (arith, a.1) })))
call_went (refused_at octets n q) c = refusal-stops (refused_at octets n q) c octets n q (λ l. absurd l) (λ l. absurd l)
call_went (ended_at octets) c =
    stops (record {
      final = tt;
      none = refl;
      again = ended-again octets;
      over = λ l. l;
      awaits = tt;
      other = λ l. absurd l;
      due = λ l. absurd l;
    })

-- what a call leaves has not come whole either, and a call that leaves no final answer took an octet
pub call-awaits : (st : Stream) (c : List ℕ) → Awaits st → Awaits (take_at st c).next
call-awaits st c w = go (call_went st c)
  where
    go : Went st c (take_at st c) → Awaits (take_at st c).next
    go (stops s) = s.awaits
    go (goes h o) = o.awaits w

pub call-some : (st : Stream) (c : List ℕ) → Awaits st → Live (take_at st c).next → 1 ≤ length c → 1 ≤ (take_at st c).taken
call-some st c w l = go (call_went st c)
  where
    go : Went st c (take_at st c) → 1 ≤ length c → 1 ≤ (take_at st c).taken
    go (stops s) m = absurd (s.over l)
    go (goes h o) m = o.some w m

-- the call that says that the stream has ended gives a final answer, and one that only it brings
pub record Over (st : Stream) (o : Outcome) : Type 0 where
  pub final : Final o.event
  pub again : Repeated o
  pub over : Live o.next → ⊥
  pub awaits : Awaits o.next
  pub last : Live st → only_at_end o.event ≡ true

refusal-over : (st : Stream) (octets n q : ℕ) → (Live st → only_at_end (refusal n q) ≡ true) → Over st (refuses octets n q)
refusal-over st octets n q last =
    record { final = tt; again = refused-again octets n q; over = λ l. l; awaits = tt; last = last }

end_over : (st : Stream) (octets : ℕ) → Over st (ends octets)
end_over st octets = record { final = tt; again = ended-again octets; over = λ l. l; awaits = tt; last = λ l. refl }

pub end_went : (st : Stream) → Over st (end_at st)
unfolding end_at
end_went (in_header octets held) = refusal-over (in_header octets held) octets _ _ (λ l. refl)
end_went (in_record octets held) =
    elim (ℕ_discrete (length held) 0) [
      | yes e ↦ rw (eq-eqb (length held) 0 e) (end_over (in_record octets held) octets)
      | no e ↦ rw (ne_eqb (length held) 0 e) (refusal-over (in_record octets held) octets _ _ (λ l. refl))
    ]
end_went (in_packet octets n done) = refusal-over (in_packet octets n done) octets _ _ (λ l. refl)
end_went (refused_at octets n q) = refusal-over (refused_at octets n q) octets n q (λ l. absurd l)
end_went (ended_at octets) = end_over (ended_at octets) octets
