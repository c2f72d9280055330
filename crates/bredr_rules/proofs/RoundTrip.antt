-- Both round trips: values that are written are read again, and a header that is read is rewritten to its own octets; and
-- an accepted write changes only the octets written.
-- Assumes nothing.
use Prim.Native.Nat.{ℕ, ◌+◌, ◌≤◌}
use mathlib.Core.Path.{◌≡◌, refl, sym, ap, ◌∙◌}
use mathlib.Core.List.{List, [], ◌∷◌, ◌++◌, append-nil}
use native.Mathlib.Omega.{arith}
use lib.ListN.{length, get_or, take, drop, length-append}
use lib.Seq.{take_at}
use Rattle.refusals.specs.Refusals.{given}
use Rattle.octets.specs.Numbers.{little, number, octets_of, number_at, Octets}
use Rattle.octets.specs.Signed.{signed, unsigned}
use Rattle.octets.proofs.Laws as Numbers
use Rattle.octets.proofs.Laws.{octet_at}
use Rattle.octets.proofs.Fields.{number_back}
use Rattle.octets.proofs.Signs.{twos_complement}
use Rattle.octets.proofs.PartLaws.{part-splice}
use Rattle.pseudo_header.proofs.Layouts.{octet_field, fields_back}
use Rattle.pseudo_header.proofs.Writes.{splice-only}
use Rattle.bredr_rules.specs.declared.Values.{Values}
use Rattle.bredr_rules.specs.Reading.{header_length, values_in, Header, header_of, reading_of}
use Rattle.bredr_rules.specs.Writing.{header_octets, writing, written}
use Rattle.bredr_rules.specs.Orders.{Reads, Writes}
use Rattle.bredr_rules.specs.RoundTrip.{Representable, OnlyWritten, ReadAfterWrite, WriteAfterRead}
use Rattle.bredr_rules.proofs.Orders.{reading-exactly, writing-exactly}

-- what an accepted write shows
record AcceptedWrite (size at : ℕ) (v : Values) : Type 0 where
  channel : v.rf_channel ≤ 78
  room : at + 22 ≤ size

accepted_write : (size at next : ℕ) (v : Values) → writing size at v ≡ given next → AcceptedWrite size at v
accepted_write size at next v w = go ((writing-exactly size at v (given next)).0 w)
  where
    go : {n : ℕ} → Writes size at v (given n) → AcceptedWrite size at v
    go (Writes.accepted c o) = record { channel = c; room = o }

-- what a header that is read shows
record AcceptedRead (s : List ℕ) (h : Header) : Type 0 where
  long : 22 ≤ length s
  channel : (values_in s).rf_channel ≤ 78
  header : header_of (values_in s) ≡ h

accepted_read : (s : List ℕ) (h : Header) → reading_of s ≡ given h → AcceptedRead s h
accepted_read s h e = go ((reading-exactly s (given h)).0 e)
  where
    go : {h : Header} → Reads s (given h) → AcceptedRead s h
    go (Reads.accepted l c) = record { long = l; channel = c; header = refl }

-- the octets written for values give the values back
values_read : (v : Values) (payload : List ℕ) → Representable v → values_in (header_octets v ++ payload) ≡ v
unfolding values_in header_octets number_at octets_of
values_read v payload f =
    let bits : signed 16 (number little (octets_of little 2 (unsigned 16 v.payload_bits))) ≡ v.payload_bits =
    ap (signed 16) (Numbers.read_after_write little 2 (unsigned 16 v.payload_bits) ((twos_complement 15).fits v.payload_bits f.payload_bits))
    ∙ (twos_complement 15).from_bits v.payload_bits f.payload_bits in
    let signal = (twos_complement 7).from_bits v.signal f.signal in
    let noise = (twos_complement 7).from_bits v.noise f.noise in
    let lap = Numbers.read_after_write little 4 v.lap f.lap in
    let reference_lap = Numbers.read_after_write little 3 v.reference_lap f.reference_lap in
    let packet_header = Numbers.read_after_write little 4 v.packet_header f.packet_header in
    let flags = Numbers.read_after_write little 2 v.flags f.flags in
    λ i.
    record {
      rf_channel = v.rf_channel;
      signal = signal i;
      noise = noise i;
      offences = v.offences;
      rate = v.rate;
      header_bits = v.header_bits;
      payload_bits = bits i;
      lap = lap i;
      reference_lap = reference_lap i;
      reference_uap = v.reference_uap;
      packet_header = packet_header i;
      flags = flags i;
    }

-- they are 22
length-octets : (v : Values) → length (header_octets v) ≡ header_length
unfolding header_octets octets_of
length-octets v = refl

-- reading what was written returns the values
pub read_after_write : ReadAfterWrite
unfolding written
read_after_write out at next v f w =
    let a = accepted_write (length out) at next v w in
    let size : length (header_octets v) ≡ header_length = length-octets v in
    record {
      octets = rw (w, ← size) (part-splice out at (header_octets v) (omega arith));
      header =
          λ payload.
          let s : List ℕ = header_octets v ++ payload in
          let values : values_in s ≡ v = values_read v payload f in
          let long : length s ≡ length (header_octets v) + length payload = length-append (header_octets v) payload in
          (reading-exactly s (given (header_of (values_in s)))).1 (Reads.accepted (omega arith) (rw values a.channel))
          ∙ ap (λ (x : Values). given (header_of x)) values;
    }

-- an accepted write changes only the octets written
pub only_written : OnlyWritten
unfolding written
only_written out at next v w =
    let a = accepted_write (length out) at next v w in
    let size : length (header_octets v) ≡ header_length = length-octets v in
    rw (w, ← size) (splice-only out at (header_octets v) (omega arith))

-- the widths of the fields
abbrev widths : List ℕ
widths = 1 ∷ 1 ∷ 1 ∷ 1 ∷ 1 ∷ 1 ∷ 2 ∷ 4 ∷ 3 ∷ 1 ∷ 4 ∷ 2 ∷ []

-- the octets for the values that were read are those of the input
octets_back : (s : List ℕ) → Octets s → header_length ≤ length s → header_octets (values_in s) ++ drop header_length s ≡ s
unfolding values_in header_octets
octets_back s o l =
    let signal : unsigned 8 (signed 8 (get_or s 1 0)) ≡ get_or s 1 0 = (twos_complement 7).to_bits (get_or s 1 0) (octet_at s 1 o) in
    let noise : unsigned 8 (signed 8 (get_or s 2 0)) ≡ get_or s 2 0 = (twos_complement 7).to_bits (get_or s 2 0) (octet_at s 2 o) in
    let bits : unsigned 16 (signed 16 (number_at little 2 s 6)) ≡ number_at little 2 s 6 =
    (twos_complement 15).to_bits (number_at little 2 s 6) (number_back s 6 2 8 refl (omega arith) little o).1 in
    let single = octet_field little s o in
    let flags : List ℕ = octets_of little 2 (number_at little 2 s 20) in
    let fields =
    rw (single 0, single 1, single 2, single 3, single 4, single 5, single 15, append-nil flags) at
    (fields_back little widths s o l) in
    rw (signal, noise, bits) fields

-- writing what was read gives the very octets back
pub write_after_read : WriteAfterRead
write_after_read s h o e =
    let a = accepted_read s h e in
    let values : h.values ≡ values_in s = ap (λ (x : Header). x.values) (sym a.header) in
    let back = octets_back s o a.long in
    let front : take header_length (header_octets (values_in s) ++ drop header_length s) ≡ header_octets (values_in s) =
    take_at (header_octets (values_in s)) (drop header_length s) header_length (length-octets (values_in s)) in
    record {
      octets = rw values (sym front ∙ ap (take header_length) back);
      accepted =
          λ size at room.
          rw values ((writing-exactly size at (values_in s) (given (at + header_length))).1 (Writes.accepted a.channel room));
    }
