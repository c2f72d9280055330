-- Both round trips: a file written is read again, and an accepted file rewritten is itself.
-- Assumes nothing.
use Prim.Native.Nat.{ℕ, ◌+◌, ◌-◌, ◌^◌, ◌≤◌, ◌<◌}
use mathlib.Core.Path.{◌≡◌, refl, sym, ap, ◌∙◌}
use mathlib.Core.Bool.{true, and-eq-true_iff}
use mathlib.Core.List.{List, ◌++◌, append_assoc, append-nil}
use native.Mathlib.Omega.{arith}
use lib.ListN.{length, take, drop, length-append, length-drop, take-append-drop}
use lib.Seq.{take_at, drop_at, drop-drop, drop-length}
use lib.Dec.{leb, eqb, lit<}
use borrow.Author.Tests.{le-leb, leb-true, eqb-true}
use Rattle.refusals.specs.Refusals.{given}
use Rattle.refusals.proofs.Orders.{chosen}
use Rattle.octets.specs.Numbers.{big, octets_of, octets_at, number_at, Octets}
use Rattle.octets.specs.Signed.{signed, unsigned}
use Rattle.octets.specs.Parts.{part}
use Rattle.octets.proofs.Laws.{octets-take, octets-drop}
use Rattle.octets.proofs.PartLaws.{length_part}
use Rattle.octets.proofs.Signs.{twos_complement}
use Rattle.octets.proofs.Fields.{length-octets_of, octets-front, number_back, number_read}
use Rattle.tiling.specs.Tiling.{Placed}
use Rattle.record_rules.specs.Outputs.{values_of, placed_from, length_of, joined, splicing}
use Rattle.record_rules.proofs.Splices.{file-spliced}
use Rattle.record_rules.proofs.Joining.{length-joined, length-placed, joined_read, joined_back}
use Rattle.btsnoop_rules.specs.declared.Numbers.{Numbers}
use Rattle.btsnoop_rules.specs.Header.{header_length, identification_octets, version_number, served, same_octets, header_judged, header_at}
use Rattle.btsnoop_rules.specs.Record.{record_length, numbers_at, Record, WholeAt}
use Rattle.btsnoop_rules.specs.Writing.{header_octets, header_writing, header_written, record_octets, record_writing, record_written}
use Rattle.btsnoop_rules.specs.Claims.{Filled, Representable, write_header, write_record, record_size, WriteThenRead, Rewritten, RewriteAccepted}
use Rattle.btsnoop_rules.proofs.Orders.{same→eq}
use Rattle.btsnoop_rules.proofs.HeaderLaws.{header-long}
use Rattle.btsnoop_rules.proofs.Files.{accepted-exactly, walk_meets}

-- the octets of a record, as they are written
abbrev written : Record → List ℕ
written r = record_octets r.numbers.original r.numbers.flags r.numbers.drops r.numbers.time r.packet

length_written : (r : Record) → length (written r) ≡ record_size r
unfolding record_octets
length_written r = simp (length-append, length-octets_of) (omega arith)

length-header : (code : ℕ) → length (header_octets code) ≡ header_length
unfolding header_octets
length-header code = simp (length-append, length-octets_of)

-- given room, the writers splice their octets in
record_spliced : (out : List ℕ) (at : ℕ) (r : Record) → Representable r → at + length (written r) ≤ length out
    → write_record out at r ≡ splicing out at (written r)
unfolding record_writing record_written
record_spliced out at r f room =
    let long = length_written r in
    let small = le-leb (length r.packet) r.numbers.original f.not_above in
    let fits = le-leb (at + (record_length + length r.packet)) (length out) (omega arith) in
    rw (small, fits, long)

header-spliced : (out : List ℕ) (at code : ℕ) → served code ≡ true → at + header_length ≤ length out
    → write_header out at code ≡ splicing out at (header_octets code)
unfolding header_writing header_written
header-spliced out at code d h = rw (d, le-leb (at + header_length) (length out) h, length-header code)

-- a record whose octets stand at a place lies whole there
record_read : (s : List ℕ) (p : ℕ) (r : Record) (after : List ℕ) → header_length ≤ p → Representable r
    → drop p s ≡ written r ++ after → WholeAt s p r (p + record_size r)
unfolding record_octets numbers_at part
record_read s p r after l f e =
    let n : Numbers = r.numbers in
    let size : length s - p ≡ length (written r) + length after =
    sym (length-drop p s) ∙ ap length e ∙ length-append (written r) after in
    let long = length_written r in
    let t5 : List ℕ = r.packet ++ after in
    let t4 : List ℕ = octets_of big 8 (unsigned 64 n.time) ++ t5 in
    let t3 : List ℕ = octets_of big 4 n.drops ++ t4 in
    let t2 : List ℕ = octets_of big 4 n.flags ++ t3 in
    let t1 : List ℕ = octets_of big 4 (length r.packet) ++ t2 in
    let f0 = number_read s p 4 (p + 4) refl (omega arith) big n.original t1 f.original (e ∙ simp append_assoc) in
    let f1 = number_read s (p + 4) 4 (p + 8) (omega arith) (omega arith) big (length r.packet) t2 (omega arith) f0.1 in
    let f2 = number_read s (p + 8) 4 (p + 12) (omega arith) (omega arith) big n.flags t3 f.flags f1.1 in
    let f3 = number_read s (p + 12) 4 (p + 16) (omega arith) (omega arith) big n.drops t4 f.drops f2.1 in
    let bits : unsigned 64 n.time < 2 ^ 64 = (twos_complement 63).fits n.time f.time in
    let f4 = number_read s (p + 16) 8 (p + 24) (omega arith) (omega arith) big (unsigned 64 n.time) t5 bits f3.1 in
    let time : signed 64 (number_at big 8 s (p + 16)) ≡ n.time =
    ap (signed 64) f4.0 ∙ (twos_complement 63).from_bits n.time f.time in
    record {
      behind_header = l;
      numbers = rw (f0.0, f1.0, f2.0, f3.0, time, ← f.included);
      included = omega arith;
      packet = sym (ap (take n.included) f4.1 ∙ take_at r.packet after n.included (sym f.included));
      next = omega (arith, f.included);
      inside = omega arith;
    }

-- and the octets of a record that lies whole are those that are written for it, and it can be written
record_back : (s : List ℕ) → Octets s → (p : ℕ) (r : Record) (q : ℕ) → WholeAt s p r q
    → (drop p s ≡ written r ++ drop q s) × Representable r
unfolding record_octets numbers_at part
record_back s o p r q w =
    let f0 = number_back s p 4 (p + 4) refl (omega arith) big o in
    let f1 = number_back s (p + 4) 4 (p + 8) (omega arith) (omega arith) big o in
    let f2 = number_back s (p + 8) 4 (p + 12) (omega arith) (omega arith) big o in
    let f3 = number_back s (p + 12) 4 (p + 16) (omega arith) (omega arith) big o in
    let f4 = number_back s (p + 16) 8 (p + 24) (omega arith) (omega arith) big o in
    let n : Numbers = r.numbers in
    let bits : ℕ = number_at big 8 s (p + 16) in
    let size : length r.packet ≡ n.included =
    ap length w.packet ∙ length_part s (p + 24) n.included (omega arith) in
    let time : unsigned 64 (signed 64 bits) ≡ bits = (twos_complement 63).to_bits bits f4.1 in
    let packet : r.packet ++ drop q s ≡ drop (p + 24) s =
    rw (w.packet, w.next, ← drop-drop n.included (p + 24) s) (take-append-drop n.included (drop (p + 24) s)) in (
      simp append_assoc (rw (size, packet, w.numbers, time, ← f4.0, ← f3.0, ← f2.0, ← f1.0, ← f0.0)),
      record {
        included = sym size;
        not_above = omega arith;
        original = rw w.numbers f0.1;
        flags = rw w.numbers f2.1;
        drops = rw w.numbers f3.1;
        time = rw w.numbers ((twos_complement 63).range bits f4.1);
        octets = rw w.packet (octets-take n.included (drop (p + 24) s) (octets-drop (p + 24) s o));
      },
    )

-- a header that is written is read
header_read : (code : ℕ) (after : List ℕ) → served code ≡ true → header_at (header_octets code ++ after) ≡ given code
unfolding header_at header_judged header_octets
header_read code after h =
    let s : List ℕ = header_octets code ++ after in
    let size : header_length ≤ length s = rw (length-append (header_octets code) after, length-header code) (omega arith) in
    let v = number_read s 8 4 12 refl (omega arith) big version_number (octets_of big 4 code ++ after) (lit< tt) (simp append_assoc) in
    let small : code ≤ 1004 = leb-true code 1004 ((and-eq-true_iff (leb 1001 code) (leb code 1004)).0 h).1 in
    let c = number_read s 12 4 16 refl size big code after (omega arith) v.1 in
    rw (le-leb header_length (length s) size, v.0, c.0, h)

-- and an accepted header's octets are those that are written for it
header_back : (s : List ℕ) (code : ℕ) → Octets s → header_at s ≡ given code
    → (s ≡ header_octets code ++ drop header_length s) × (served code ≡ true)
unfolding header_at header_judged header_octets
header_back s code o e =
    let t0 = chosen (leb header_length (length s)) _ _ e in
    let t1 = chosen (same_octets (octets_at s 0 8) identification_octets) _ _ t0.1 in
    let t2 = chosen (eqb (number_at big 4 s 8) version_number) _ _ t1.1 in
    let t3 = chosen (served (number_at big 4 s 12)) _ _ t2.1 in
    let size : header_length ≤ length s = leb-true header_length (length s) t0.0 in
    let same : octets_at s 0 8 ≡ identification_octets = same→eq (octets_at s 0 8) identification_octets t1.0 in
    let f1 = number_back s 8 4 12 refl (omega arith) big o in
    let f2 = number_back s 12 4 16 refl size big o in
    let number : number_at big 4 s 12 ≡ code = cc in
    let tail : drop 8 s ≡ octets_of big 4 version_number ++ octets_of big 4 code ++ drop header_length s =
    f1.0 ∙ rw (f2.0, append_assoc, eqb-true (number_at big 4 s 8) version_number t2.0, number) in (
      octets-front s 0 8 8 refl (omega arith)
          ∙ ap (λ (l : List ℕ). l ++ drop 8 s) same
          ∙ ap (λ (l : List ℕ). identification_octets ++ l) tail,
      rw number at t3.0,
    )

-- given room, writing a header and any representable records, and then reading, returns them
pub write_then_read : WriteThenRead
write_then_read out at code rs d f room =
    let xs : List ℕ = header_octets code ++ joined written rs in
    let head = length-header code in
    let size : length xs ≡ header_length + length_of record_size rs =
    length-append (header_octets code) (joined written rs) ∙ rw (head, length-joined written record_size length_written rs) in
    let w =
    file-spliced write_record written Representable record_spliced out at (write_header out at code) (header_octets code) rs
    (header_length + length_of record_size rs) (header-spliced out at code d (omega arith)) f size room in
    let rest : drop header_length xs ≡ joined written rs = drop_at (header_octets code) (joined written rs) header_length head in
    let placed : List (Placed Record) = placed_from record_size header_length rs in
    let filled : Filled xs code placed =
    record {
      header = header_read code (joined written rs) d;
      records =
          joined_read xs header_length (WholeAt xs) written record_size Representable length_written (record_read xs)
          header_length rs (omega arith) (omega arith) f rest;
    } in
    record {
      written = w.0;
      filled = rw w.1 filled;
      accepted = rw (w.1, ← length-placed record_size header_length rs) ((accepted-exactly xs).accepted code placed filled);
      met = rw w.1 (walk_meets xs code placed filled);
    }

-- rewriting a file of a header and records gives its own octets, and all its records can be written
rewrite-filled : (s out : List ℕ) (at code : ℕ) (xs : List (Placed Record)) → Octets s → Filled s code xs
    → at + length s ≤ length out → Rewritten s out at code (values_of xs)
rewrite-filled s out at code xs o f room =
    let head = header_back s code o f.header in
    let tail = joined_back s header_length (WholeAt s) written record_size Representable (record_back s o) f.records in
    let same : header_octets code ++ joined written (values_of xs) ≡ s =
    sym
    (head.0
    ∙ ap (λ (l : List ℕ). header_octets code ++ l) (tail.0 ∙ rw (drop-length s, append-nil (joined written (values_of xs))))) in
    let long = header-long s code f.header in
    let w =
    file-spliced write_record written Representable record_spliced out at (write_header out at code) (header_octets code) (values_of xs)
    (length s) (header-spliced out at code head.1 (omega arith)) tail.1 (ap length same) room in
    record { representable = tail.1; written = w.0; same = w.1 ∙ same }

-- rewriting an accepted file gives its own octets
pub rewrite-accepted : RewriteAccepted
rewrite-accepted s out at file o e room =
    let found = (accepted-exactly s).filled file e in
    let met = walk_meets s file.datalink found.0 found.1 in
    rw met.passed (rewrite-filled s out at file.datalink found.0 o found.1 room)
