-- The claims of calls, from what one call does: the same answer again, the octets taken, the empty chunk, 32, and each answer
-- in time.
-- Assumes nothing.
use Prim.Native.Nat.{ℕ, ◌+◌, ◌-◌, ◌≤◌, ◌<◌}
use mathlib.Core.Path.{◌≡◌, refl, sym, ap, ◌∙◌, subst}
use mathlib.Core.Bool.{true, false}
use mathlib.Core.List.{List, [], append-nil}
use native.Mathlib.Omega.{arith}
use native.Mathlib.Nat.{add-zero}
use lib.ListN.{length}
use borrow.Author.Tests.{lt-ltb, le-leb, lt-leb}
use Rattle.btsnoop_rules.specs.Header.{header_length}
use Rattle.btsnoop_rules.specs.Record.{record_length}
use Rattle.stream_rules.specs.Stream.{long_stream, most_octets, nothing, refusal, Stream, in_header, in_record, in_packet, refused_at, ended_at, octets_taken, outcome, refuses, take_header, take_record, take_packet, take_at, end_at}
use Rattle.stream_rules.specs.Calls.{Left, at_first, after_call, after_end, Final, Live, Repeated, SameAnswer, Takes, EachTakes, EmptyChunk, TooLong, Awaits, Due, only_at_end, InTime}
use Rattle.stream_rules.proofs.CallLaws.{Went, stops, goes, call_went, call-awaits, end_went}

-- after a refusal or the end every further call gets the same answer
pub same_answer : SameAnswer
same_answer st = record { call = λ c f. again c f (call_went st c); over = ((end_went st).final, (end_went st).again) }
  where
    again : (c : List ℕ) → Final (take_at st c).event → Went st c (take_at st c) → Repeated (take_at st c)
    again c f (stops s) = s.again
    again c f (goes h o) = absurd (o.going f)

-- what calls leave has not come whole, and is no longer than a stream can be
record Kept (st : Stream) : Type 0 where
  awaits : Awaits st
  limit : Live st → octets_taken st ≤ most_octets

left-kept : {st : Stream} → Left st → Kept st
left-kept at_first = record { awaits = (refl, omega arith); limit = λ l. omega arith }
left-kept (after_call {st} l c) = go (left-kept l) (call_went st c)
  where
    go : Kept st → Went st c (take_at st c) → Kept (take_at st c).next
    go k (stops s) = record { awaits = call-awaits st c k.awaits; limit = λ v. absurd (s.over v) }
    go k (goes h o) = record { awaits = call-awaits st c k.awaits; limit = λ v. omega (arith, o.counted, o.most) }
left-kept (after_end {st} l) = record { awaits = (end_went st).awaits; limit = λ v. absurd ((end_went st).over v) }

-- a call without a final answer takes octets and goes on behind them; with one it takes none
pub each-takes : EachTakes
each-takes st l c = (λ f. takes f (call_went st c), λ f. takes_none f (call_went st c))
  where
    takes : (Final (take_at st c).event → ⊥) → Went st c (take_at st c) → Takes st c
    takes f (stops s) = absurd (f s.final)
    takes f (goes h o) = record { some = o.some (left-kept l).awaits; most = o.most; onward = o.counted }

    takes_none : Final (take_at st c).event → Went st c (take_at st c) → (take_at st c).taken ≡ 0
    takes_none f (stops s) = s.none
    takes_none f (goes h o) = absurd (o.going f)

-- a chunk of no octets changes nothing
empty_taken : (st : Stream) → Kept st → Live st → take_at st [] ≡ outcome 0 nothing st
unfolding take_at take_header take_record take_packet
empty_taken (in_header octets held) k l =
    let short : 0 < header_length - length held = omega (arith, k.awaits.1) in
    rw (le-leb (octets + 0) most_octets (omega (arith, k.limit l)), lt-ltb, add-zero octets)
    (ap (λ (x : List ℕ). outcome 0 nothing (in_header octets x)) (append-nil held))
empty_taken (in_record octets held) k l =
    let short : 0 < record_length - length held = omega (arith, k.awaits.1) in
    rw (le-leb (octets + 0) most_octets (omega (arith, k.limit l)), lt-ltb, add-zero octets)
    (ap (λ (x : List ℕ). outcome 0 nothing (in_record octets x)) (append-nil held))
empty_taken (in_packet octets n done) k l =
    let short : 0 < n.included - done = omega (arith, k.awaits.1) in
    rw (le-leb (octets + 0) most_octets (omega (arith, k.limit l)), lt-ltb, add-zero octets)
    (ap (λ (x : ℕ). outcome 0 nothing (in_packet octets n x)) (add-zero done))
empty_taken (refused_at octets n q) k l = absurd l
empty_taken (ended_at octets) k l = absurd l

pub empty_chunk : EmptyChunk
empty_chunk st l live = empty_taken st (left-kept l) live

-- 32 exactly for a chunk that takes the stream past 2^63 - 1 octets
past_long : (st : Stream) → Live st → (c : List ℕ) → most_octets < octets_taken st + length c
    → take_at st c ≡ refuses (octets_taken st) long_stream 0
unfolding take_at
past_long (in_header octets held) l c h = rw lt-leb
past_long (in_record octets held) l c h = rw lt-leb
past_long (in_packet octets n done) l c h = rw lt-leb
past_long (refused_at octets n q) l c h = absurd l
past_long (ended_at octets) l c h = absurd l

pub too_long : TooLong
too_long st l c = (past_long st l c, λ h q. other h q (call_went st c), at_end)
  where
    other : octets_taken st + length c ≤ most_octets → (q : ℕ) → Went st c (take_at st c) → (take_at st c).event ≡ refusal long_stream q → ⊥
    other h q (stops s) e = s.other l h q e
    other h q (goes i o) e = o.going (subst Final (sym e) tt)

    at_end : (q : ℕ) → (end_at st).event ≡ refusal long_stream q → ⊥
    at_end q e =
        let f : false ≡ true = ap only_at_end (sym e) ∙ (end_went st).last l in
        let z : ◌≡◌ {A = ℕ} 0 1 = cc in
        omega arith

-- each answer comes in time
pub in_time : InTime
in_time st l live =
    record {
      due = λ c. due c (call_went st c);
      awaits = λ c. call-awaits st c (left-kept l).awaits;
      live = λ c f. alive c f (call_went st c);
      last = (end_went st).last live;
    }
  where
    due : (c : List ℕ) → Went st c (take_at st c) → Due (octets_taken st) c (take_at st c).taken (take_at st c).event
    due c (stops s) = s.due live (left-kept l).awaits
    due c (goes h o) = o.due (left-kept l).awaits

    alive : (c : List ℕ) → (Final (take_at st c).event → ⊥) → Went st c (take_at st c) → Live (take_at st c).next
    alive c f (stops s) = absurd (f s.final)
    alive c f (goes h o) = o.live
