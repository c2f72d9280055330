-- What holds between calls, what one call makes of it, and the chain of calls.
-- Assumes nothing.
use Prim.Native.Nat.{ℕ, zero, suc, ◌+◌, ◌-◌, ◌≤◌}
use mathlib.Core.Path.{◌≡◌, subst}
use mathlib.Core.List.{List, [], ◌∷◌, ◌++◌}
use native.Mathlib.Omega.{arith}
use native.Mathlib.Nat.{lt_of_not-le}
use native.Mathlib.Decide.{dec_le}
use lib.ListN.{length, drop, length-drop}
use Rattle.btsnoop_rules.specs.declared.Numbers.{Numbers}
use Rattle.btsnoop_rules.specs.Record.{record_length, numbers_at}
use Rattle.stream_rules.specs.Stream.{Event, Stream, in_header, in_record, in_packet, refused_at, ended_at, Outcome, take_at, end_at}
use Rattle.stream_rules.specs.Cuts.{Reading, read_whole, told, Calls, call, over, broke, use_up, drive, joined}
use Rattle.stream_rules.specs.Calls.{Live, Awaits}
use Rattle.stream_rules.proofs.CallLaws.{call-awaits, call-some}
use Rattle.stream_rules.proofs.Readings.{Started}

-- what was taken of a stream and what is left are the whole, so many octets of the packet were handed out before, and
-- what is to be told from here on: in the file header,
pub record InHeader (s held rest before : List ℕ) (r : Reading) : Type 0 where
  pub stream : s ≡ held ++ rest
  pub none : before ≡ []
  pub reading : r ≡ read_whole s

-- in a record's header,
pub record InRecord (s : List ℕ) (octets : ℕ) (held rest before : List ℕ) (r : Reading) : Type 0 where
  pub start : ℕ
  pub counted : octets ≡ start + length held
  pub started : Started s start r
  pub inside : start ≤ length s
  pub stream : drop start s ≡ held ++ rest
  pub none : before ≡ []

-- and in a packet
pub record InPacket (s : List ℕ) (octets : ℕ) (n : Numbers) (done : ℕ) (rest before : List ℕ) (r : Reading) : Type 0 where
  pub start : ℕ
  pub counted : octets ≡ start + record_length + done
  pub started : Started s start r
  pub inside : start + record_length ≤ length s
  pub stream : drop (start + record_length) s ≡ before ++ rest
  pub numbers : numbers_at s start ≡ n
  pub served : n.included ≤ n.original
  pub position : length before ≡ done
  pub most : done ≤ n.included

abbrev pub At : List ℕ → Stream → List ℕ → List ℕ → Reading → Type 0
At s (in_header octets held) rest before r = InHeader s held rest before r
At s (in_record octets held) rest before r = InRecord s octets held rest before r
At s (in_packet octets n done) rest before r = InPacket s octets n done rest before r
At s (refused_at octets n q) rest before r = ⊥
At s (ended_at octets) rest before r = ⊥

at_live : (s : List ℕ) (st : Stream) (rest before : List ℕ) (r : Reading) → At s st rest before r → Live st
at_live s (in_header octets held) rest before r a = tt
at_live s (in_record octets held) rest before r a = tt
at_live s (in_packet octets n done) rest before r a = tt
at_live s (refused_at octets n q) rest before r a = a
at_live s (ended_at octets) rest before r a = a

-- a call that goes on: what is then to be told, and that it follows what the call told
pub record Goes (s before : List ℕ) (r : Reading) (e : Event) (next : Stream) (left : List ℕ) : Type 0 where
  pub before' : List ℕ
  pub r' : Reading
  pub at : At s next left before' r'
  pub tells : (es : List Event) → told before' es ≡ r' → told before (e ∷ es) ≡ r

-- what one call does: it goes on behind the octets taken, or it gives the final answer
pub data Stepped (s c more before : List ℕ) (r : Reading) (o : Outcome) : Type 0 where
  goes : Goes s before r o.event o.next (drop o.taken c ++ more) → Stepped s c more before r o
  stops : ((es : List Event) → told before (o.event ∷ es) ≡ r) → Stepped s c more before r o

-- the chain of calls, from the law of one call and that of the end
module _ (s : List ℕ)
    (step : (c more : List ℕ) (st : Stream) (before : List ℕ) (r : Reading) → Awaits st → At s st (c ++ more) before r
    → Stepped s c more before r (take_at st c))
    (last : (st : Stream) (before : List ℕ) (r : Reading) → Awaits st → At s st [] before r → told before ((end_at st).event ∷ []) ≡ r) where
  pub called : {st : Stream} {left : List ℕ} {es : List Event} → Calls st left es → (before : List ℕ) (r : Reading) → Awaits st
      → At s st left before r → told before es ≡ r
  called (call {st} {left} {es} c more e rest) before r w a =
      go (λ b x v h. called rest b x v h) (step c more st before r w (subst (λ (x : List ℕ). At s st x before r) e a))
    where
      go : ((before : List ℕ) (r : Reading) → Awaits (take_at st c).next
          → At s (take_at st c).next (drop (take_at st c).taken c ++ more) before r → told before es ≡ r)
          → Stepped s c more before r (take_at st c) → told before ((take_at st c).event ∷ es) ≡ r
      go rest (goes g) = g.tells es (rest g.before' g.r' (call-awaits st c w) g.at)
      go rest (stops f) = f es
  called (over {st}) before r w a = last st before r w a
  called broke before r w a = absurd a

  used-up : (more : List ℕ) (then : Stream → List Event)
      → ((st : Stream) (before : List ℕ) (r : Reading) → Awaits st → At s st more before r → told before (then st) ≡ r)
      → (n : ℕ) (c : List ℕ) (st : Stream) (before : List ℕ) (r : Reading) → length c ≤ n → Awaits st → At s st (c ++ more) before r
      → told before (use_up then n c st) ≡ r
  used-up more then h zero [] st before r l w a = h st before r w a
  used-up more then h zero (x ∷ xs) st before r l w a = absurd (omega arith)
  used-up more then h (suc n) c st before r l w a = go (used-up more then h n) (step c more st before r w a)
    where
      k : ℕ
      k = (take_at st c).taken

      next : Stream
      next = (take_at st c).next

      go : ((c : List ℕ) (st : Stream) (before : List ℕ) (r : Reading) → length c ≤ n → Awaits st → At s st (c ++ more) before r
          → told before (use_up then n c st) ≡ r)
          → Stepped s c more before r (take_at st c) → told before (use_up then (suc n) c st) ≡ r
      go rest (goes g) =
          g.tells (use_up then n (drop k c) next)
          (rest (drop k c) next g.before' g.r' (omega (arith, length-drop k c, fewer)) (call-awaits st c w) g.at)
        where
          fewer : length c - k ≤ n
          fewer =
              elim (dec_le 1 (length c)) [
                | yes m ↦ omega (arith, call-some st c w (at_live s next (drop k c ++ more) g.before' g.r' g.at) m)
                | no m ↦ omega (arith, lt_of_not-le m)
              ]
      go rest (stops f) = f (use_up then n (drop k c) next)

  pub driven : (cs : List (List ℕ)) (st : Stream) (before : List ℕ) (r : Reading) → Awaits st → At s st (joined cs) before r
      → told before (drive cs st) ≡ r
  driven [] st before r w a = last st before r w a
  driven (c ∷ cs) st before r w a = used-up (joined cs) (drive cs) (driven cs) (suc (length c)) c st before r (omega arith) w a
