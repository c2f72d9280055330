-- Both round trips: values and a packet that are written are read again, and a header that is read is rewritten to its
-- own octets; and an accepted write changes only the octets written.
-- Assumes nothing.
use Prim.Native.Nat.{ℕ, zero, suc, ◌+◌, ◌≤◌}
use mathlib.Core.Path.{◌≡◌, refl, sym, ap, ◌∙◌}
use mathlib.Core.List.{List, [], ◌∷◌}
use native.Mathlib.Omega.{arith}
use lib.ListN.{length, take, drop, length-drop}
use Rattle.refusals.specs.Refusals.{given}
use Rattle.octets.specs.Numbers.{little, octets_of, number_at, Octets}
use Rattle.octets.specs.Signed.{signed, unsigned}
use Rattle.octets.specs.Parts.{splice}
use Rattle.octets.proofs.Laws as Numbers
use Rattle.octets.proofs.Signs.{twos_complement}
use Rattle.octets.proofs.PartLaws.{part-splice, length-splice, splice-before, splice-behind}
use Rattle.le_rules.specs.declared.Values.{Values}
use Rattle.le_rules.specs.Reading.{header_length, values_in, within, least_packet, Header, header_of, reading_of, packet_of, packet_in}
use Rattle.le_rules.specs.Writing.{header_octets, octets_for, writing, written}
use Rattle.le_rules.specs.Orders.{Judged, Reads, Writes}
use Rattle.le_rules.proofs.Orders.{reading-exactly, writing-exactly}
use Rattle.le_rules.specs.RoundTrip.{Representable, OnlyWritten, ReadAfterWrite, WriteAfterRead}

-- what an accepted write shows
record AcceptedWrite (size at : ℕ) (v : Values) (packet : List ℕ) : Type 0 where
  judged : Judged v within
  enough : least_packet v.flags ≤ length packet
  room : at + (header_length + length packet) ≤ size

accepted_write : (size at next : ℕ) (v : Values) (packet : List ℕ) → writing size at v packet ≡ given next
    → AcceptedWrite size at v packet
accepted_write size at next v packet w = go ((writing-exactly size at v packet (given next)).0 w)
  where
    go : {n : ℕ} → Writes size at v packet (given n) → AcceptedWrite size at v packet
    go (Writes.accepted r p o) = record { judged = r; enough = p; room = o }

-- what a header that is read shows
record AcceptedRead (s : List ℕ) (h : Header) : Type 0 where
  long : header_length ≤ length s
  judged : Judged (values_in s) within
  enough : least_packet (values_in s).flags ≤ length (drop header_length s)
  header : header_of (values_in s) ≡ h

accepted_read : (s : List ℕ) (h : Header) → reading_of s ≡ given h → AcceptedRead s h
accepted_read s h e = go ((reading-exactly s (given h)).0 e)
  where
    go : {h : Header} → Reads s (given h) → AcceptedRead s h
    go (Reads.accepted l r p) = record { long = l; judged = r; enough = p; header = refl }

-- values that agree field by field are the same
same-values : (u v : Values) → u.channel ≡ v.channel → u.signal ≡ v.signal → u.noise ≡ v.noise
    → u.offences ≡ v.offences → u.reference ≡ v.reference → u.flags ≡ v.flags → u ≡ v
same-values u v channel signal noise offences reference flags =
    λ i.
    record {
      channel = channel i;
      signal = signal i;
      noise = noise i;
      offences = offences i;
      reference = reference i;
      flags = flags i;
    }

-- the octets written for values give the values back
values_read : (v : Values) (packet : List ℕ) → Representable v → values_in (octets_for v packet) ≡ v
unfolding values_in header_octets number_at octets_of
values_read v packet f =
    same-values (values_in (octets_for v packet)) v
    refl
    ((twos_complement 7).from_bits v.signal f.signal)
    ((twos_complement 7).from_bits v.noise f.noise)
    refl
    (Numbers.read_after_write little 4 v.reference f.reference)
    (Numbers.read_after_write little 2 v.flags f.flags)

-- they are ten, before the packet
length-octets : (v : Values) (packet : List ℕ) → length (octets_for v packet) ≡ header_length + length packet
unfolding header_octets octets_of
length-octets v packet = omega arith

drop-octets : (v : Values) (packet : List ℕ) → drop header_length (octets_for v packet) ≡ packet
unfolding header_octets octets_of
drop-octets v packet = refl

-- reading what was written returns the values and the packet
pub read_after_write : ReadAfterWrite
unfolding written
read_after_write out at next v packet f w =
    let a = accepted_write (length out) at next v packet w in
    let s : List ℕ = octets_for v packet in
    let size : length s ≡ header_length + length packet = length-octets v packet in
    let values = values_read v packet f in
    let behind = drop-octets v packet in
    let header : reading_of s ≡ given (header_of v) =
    (reading-exactly s (given (header_of (values_in s)))).1
    (Reads.accepted (omega arith) (rw values a.judged) (rw (values, behind) a.enough))
    ∙ rw values in
    record {
      octets = rw (w, ← size) (part-splice out at s (omega arith));
      header = header;
      packet_back = ap (packet_of s) header ∙ behind;
    }

-- an accepted write changes only the octets written
pub only_written : OnlyWritten
unfolding written
only_written out at next v packet w =
    let a = accepted_write (length out) at next v packet w in
    let s : List ℕ = octets_for v packet in
    let size : length s ≡ header_length + length packet = length-octets v packet in
    record {
      long = rw w (length-splice out at s (omega arith));
      before = rw w (splice-before out at s (omega arith));
      after = rw (w, ← size) (splice-behind out at s (omega arith));
    }

-- an input of so many octets or more, octet by octet
data From : ℕ → List ℕ → Type 0 where
  rest : (s : List ℕ) → From zero s
  octet : (x : ℕ) {n : ℕ} {s : List ℕ} → From n s → From (suc n) (x ∷ s)

octets-from : (n : ℕ) (s : List ℕ) → n ≤ length s → From n s
octets-from zero s l = rest s
octets-from (suc n) [] l = absurd (omega arith)
octets-from (suc n) (x ∷ s) l = octet x (octets-from n s (omega arith))

-- the octets for the values that were read are those of the input
octets_back : (s : List ℕ) → Octets s → header_length ≤ length s → octets_for (values_in s) (drop header_length s) ≡ s
unfolding values_in header_octets number_at
octets_back s o l = go (octets-from header_length s l) o
  where
    go : {s : List ℕ} → From header_length s → Octets s → octets_for (values_in s) (drop header_length s) ≡ s
    go (octet a (octet b (octet c (octet d (octet e (octet f (octet g (octet h (octet i (octet j (rest s))))))))))) o =
        let signal : unsigned 8 (signed 8 b) ≡ b = (twos_complement 7).to_bits b o.1.0 in
        let noise : unsigned 8 (signed 8 c) ≡ c = (twos_complement 7).to_bits c o.1.1.0 in
        let fifth : Octets (e ∷ f ∷ g ∷ h ∷ i ∷ j ∷ s) = o.1.1.1.1 in
        let ninth : Octets (i ∷ j ∷ s) = fifth.1.1.1.1 in
        let reference =
        Numbers.write_after_read little (e ∷ f ∷ g ∷ h ∷ []) (Numbers.octets-take 4 (e ∷ f ∷ g ∷ h ∷ i ∷ j ∷ s) fifth) in
        let flags = Numbers.write_after_read little (i ∷ j ∷ []) (Numbers.octets-take 2 (i ∷ j ∷ s) ninth) in
        rw (signal, noise, reference, flags)

-- and they can be written wherever there is room
rewritten : (s : List ℕ) (h : Header) → AcceptedRead s h → (size at : ℕ) → at + length s ≤ size
    → writing size at (values_in s) (drop header_length s) ≡ given (at + length s)
rewritten s h a size at room =
    let packet : List ℕ = drop header_length s in
    let whole : at + (header_length + length packet) ≡ at + length s = omega (arith, length-drop header_length s) in
    (writing-exactly size at (values_in s) packet (given (at + (header_length + length packet)))).1
    (Writes.accepted a.judged a.enough (omega arith))
    ∙ rw whole

-- writing what was read gives the very octets back
pub write_after_read : WriteAfterRead
write_after_read s h o e =
    let a = accepted_read s h e in
    let values : h.values ≡ values_in s = ap (λ (x : Header). x.values) (sym a.header) in
    let packet : packet_in s ≡ drop header_length s = ap (packet_of s) e in
    record {
      octets = rw (values, packet) (octets_back s o a.long);
      accepted = λ size at room. rw (values, packet) (rewritten s h a size at room);
    }
