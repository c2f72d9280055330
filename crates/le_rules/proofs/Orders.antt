-- Each refusal is given exactly when its condition holds and no earlier one does: what each case answers, and that every
-- input is one of the cases.
-- Assumes nothing.
use Prim.Native.Nat.{ℕ, ◌+◌, ◌≤◌}
use mathlib.Core.Path.{◌≡◌, refl, sym, ap, ◌∙◌, subst}
use mathlib.Core.Logic.{◌↔◌}
use mathlib.Core.Bool.{Bool, true, false, cond}
use mathlib.Core.List.{List}
use lib.ListN.{length, drop}
use native.Mathlib.Omega.{arith}
use lib.Dec.{leb, ltb, eqb}
use borrow.Author.Tests.{ltb-true, ltb-false, leb-true, leb-false, eqb-true, eqb-false, lt-ltb, le-ltb, le-leb, lt-leb, eq-eqb, ne_eqb}
use Rattle.refusals.specs.Refusals.{Answer, refused, given}
use Rattle.refusals.proofs.Orders.{not_refused, other-number}
use Rattle.le_rules.specs.declared.Values.{Values}
use Rattle.le_rules.specs.Flags.{pdu_type, phy}
use Rattle.le_rules.specs.Reading.{header_length, values_in, Fault, fault_number, fault_place, channel_above, pdu_type_reserved, phy_reserved, last_channel, reserved_type, reserved_phy, Range, out_of, within, range_of, least_packet, Header, reading_of}
use Rattle.le_rules.specs.Writing.{writing}
use Rattle.le_rules.specs.Orders.{JudgedAs, channel_fault, pdu_type_fault, phy_fault, no_fault, RangeExactly, Judged, Reads, ReadingExactly, Writes, WritingExactly, FaultExactly, FaultsExactly}

-- cases that tell what is answered, and one of them that is there: an answer is given exactly in its case
exactly : {A : Type 0} (Case : A → Type 0) (x : A) → ((a : A) → Case a → x ≡ a) → (a : A) × Case a → (b : A)
    → (x ≡ b) ↔ Case b
exactly Case x told found b = (λ e. subst Case (sym (told found.0 found.1) ∙ e) found.1, told b)

module _ (channel flags : ℕ) where
  -- what each case of channel and flags is judged as
  range_is : (r : Range) → JudgedAs channel flags r → range_of channel flags ≡ r
  range_is _ (channel_fault c) = cc (lt-leb channel last_channel c)
  range_is _ (pdu_type_fault c t) = cc (le-leb channel last_channel c, eq-eqb (pdu_type flags) reserved_type t)
  range_is _ (phy_fault c t p) =
      cc (le-leb channel last_channel c, ne_eqb (pdu_type flags) reserved_type t, eq-eqb (phy flags) reserved_phy p)
  range_is _ (no_fault c t p) =
      cc (le-leb channel last_channel c, ne_eqb (pdu_type flags) reserved_type t, ne_eqb (phy flags) reserved_phy p)

  -- every channel and flags are one of them
  in_range : (r : Range) × JudgedAs channel flags r
  in_range = go (leb channel last_channel) refl (eqb (pdu_type flags) reserved_type) refl (eqb (phy flags) reserved_phy) refl
    where
      go : (c : Bool) → leb channel last_channel ≡ c → (t : Bool) → eqb (pdu_type flags) reserved_type ≡ t → (p : Bool)
          → eqb (phy flags) reserved_phy ≡ p → (r : Range) × JudgedAs channel flags r
      go false c t _ p _ = (_, channel_fault (leb-false channel last_channel c))
      go true c true t p _ = (_, pdu_type_fault (leb-true channel last_channel c) (eqb-true (pdu_type flags) reserved_type t))
      go true c false t true p =
          (_, phy_fault (leb-true channel last_channel c) (eqb-false (pdu_type flags) reserved_type t) (eqb-true (phy flags) reserved_phy p))
      go true c false t false p =
          (_, no_fault (leb-true channel last_channel c) (eqb-false (pdu_type flags) reserved_type t) (eqb-false (phy flags) reserved_phy p))

pub range-exactly : RangeExactly
range-exactly channel flags r =
    exactly (JudgedAs channel flags) (range_of channel flags) (range_is channel flags) (in_range channel flags) r

module _ (s : List ℕ) where
  abbrev v : Values
  v = values_in s

  abbrev packet : ℕ
  packet = length (drop header_length s)

  -- what each case of an input is read as
  reading_is : (a : Answer Header) → Reads s a → reading_of s ≡ a
  unfolding reading_of
  reading_is _ (Reads.short l) = cc (lt-ltb (length s) header_length l)
  reading_is _ (Reads.fault f l r) =
      cc (le-ltb (length s) header_length l, range_is v.channel v.flags (out_of f) r)
  reading_is _ (Reads.few l r p) =
      cc (le-ltb (length s) header_length l, range_is v.channel v.flags within r, lt-leb (least_packet v.flags) packet p)
  reading_is _ (Reads.accepted l r p) =
      cc (le-ltb (length s) header_length l, range_is v.channel v.flags within r, le-leb (least_packet v.flags) packet p)

  -- every input is one of them
  reads : (a : Answer Header) × Reads s a
  reads =
      let judged = in_range v.channel v.flags in
      go (ltb (length s) header_length) refl judged.0 judged.1 (leb (least_packet v.flags) packet) refl
    where
      go : (l : Bool) → ltb (length s) header_length ≡ l → (r : Range) → Judged v r → (p : Bool)
          → leb (least_packet v.flags) packet ≡ p → (a : Answer Header) × Reads s a
      go true l r _ p _ = (_, Reads.short (ltb-true (length s) header_length l))
      go false l (out_of f) r p _ = (_, Reads.fault f (ltb-false (length s) header_length l) r)
      go false l within r false p =
          (_, Reads.few (ltb-false (length s) header_length l) r (leb-false (least_packet v.flags) packet p))
      go false l within r true p =
          (_, Reads.accepted (ltb-false (length s) header_length l) r (leb-true (least_packet v.flags) packet p))

pub reading-exactly : ReadingExactly
reading-exactly s a =
    exactly (Reads s) (reading_of s) (reading_is s) (reads s) a

module _ (size at : ℕ) (v : Values) (packet : List ℕ) where
  abbrev next : ℕ
  next = at + (header_length + length packet)

  -- what each case of a write answers
  writing_is : (a : Answer ℕ) → Writes size at v packet a → writing size at v packet ≡ a
  unfolding writing
  writing_is _ (Writes.fault f r) = cc (range_is v.channel v.flags (out_of f) r)
  writing_is _ (Writes.few r p) =
      cc (range_is v.channel v.flags within r, lt-leb (least_packet v.flags) (length packet) p)
  writing_is _ (Writes.full r p o) =
      cc (range_is v.channel v.flags within r, le-leb (least_packet v.flags) (length packet) p, lt-leb next size o)
  writing_is _ (Writes.accepted r p o) =
      cc (range_is v.channel v.flags within r, le-leb (least_packet v.flags) (length packet) p, le-leb next size o)

  -- every write is one of them
  writes : (a : Answer ℕ) × Writes size at v packet a
  writes =
      let judged = in_range v.channel v.flags in
      go judged.0 judged.1 (leb (least_packet v.flags) (length packet)) refl (leb next size) refl
    where
      go : (r : Range) → Judged v r → (p : Bool) → leb (least_packet v.flags) (length packet) ≡ p → (o : Bool)
          → leb next size ≡ o → (a : Answer ℕ) × Writes size at v packet a
      go (out_of f) r p _ o _ = (_, Writes.fault f r)
      go within r false p o _ = (_, Writes.few r (leb-false (least_packet v.flags) (length packet) p))
      go within r true p false o =
          (_, Writes.full r (leb-true (least_packet v.flags) (length packet) p) (leb-false next size o))
      go within r true p true o =
          (_, Writes.accepted r (leb-true (least_packet v.flags) (length packet) p) (leb-true next size o))

pub writing-exactly : WritingExactly
writing-exactly size at v packet a =
    exactly (Writes size at v packet) (writing size at v packet) (writing_is size at v packet) (writes size at v packet) a

-- the fault that a number tells
abbrev fault_of : (number : ℕ) → Range
fault_of number =
    cond (eqb number (fault_number channel_above))
    (out_of channel_above)
    (cond (eqb number (fault_number pdu_type_reserved))
    (out_of pdu_type_reserved)
    (cond (eqb number (fault_number phy_reserved)) (out_of phy_reserved) within))

-- a fault is told by its number
fault-told : (f : Fault) → fault_of (fault_number f) ≡ out_of f
fault-told channel_above = refl
fault-told pdu_type_reserved = refl
fault-told phy_reserved = refl

same-fault : (g f : Fault) → fault_number g ≡ fault_number f → out_of g ≡ out_of f
same-fault g f e = sym (fault-told g) ∙ ap fault_of e ∙ fault-told f

-- and by no number that tells none
no_fault_lem : (f : Fault) {n : ℕ} → fault_of n ≡ within → n ≡ fault_number f → ⊥
no_fault_lem f none e = let told = sym none ∙ ap fault_of e ∙ fault-told f in let z : ◌≡◌ {A = ℕ} 0 1 = cc in omega arith

module _ (f : Fault) (q : ℕ) where
  -- what a refusal with a fault's number shows, by the reader and by the writer
  fault_read : (s : List ℕ) {a : Answer Header} → Reads s a → a ≡ refused (fault_number f) q
      → (header_length ≤ length s) × (Judged (values_in s) (out_of f) × (q ≡ fault_place f))
  fault_read s (Reads.short l) e = absurd (other-number (no_fault_lem f refl) e)
  fault_read s (Reads.fault g l r) e =
      let same = same-fault g f (cc) in (l, (subst (Judged (values_in s)) same r, cc))
  fault_read s (Reads.few l r p) e = absurd (other-number (no_fault_lem f refl) e)
  fault_read s (Reads.accepted l r p) e = absurd (not_refused e)

  fault_written : (size at : ℕ) (v : Values) (packet : List ℕ) {a : Answer ℕ} → Writes size at v packet a
      → a ≡ refused (fault_number f) q → Judged v (out_of f) × (q ≡ 0)
  fault_written size at v packet (Writes.fault g r) e = (subst (Judged v) (same-fault g f (cc)) r, cc)
  fault_written size at v packet (Writes.few r p) e = absurd (other-number (no_fault_lem f refl) e)
  fault_written size at v packet (Writes.full r p o) e = absurd (other-number (no_fault_lem f refl) e)
  fault_written size at v packet (Writes.accepted r p o) e = absurd (not_refused e)

-- a fault is refused with its number exactly where it is the first
fault-exactly : (f : Fault) → FaultExactly f (fault_number f) (fault_place f)
fault-exactly f =
    record {
      when_read =
          λ s q. (
            λ e. fault_read f q s ((reading-exactly s (refused (fault_number f) q)).0 e) refl,
            λ h. reading_is s _ (Reads.fault f h.0 h.1.0) ∙ rw h.1.1,
          );
      when_written =
          λ size at v packet q. (
            λ e. fault_written f q size at v packet ((writing-exactly size at v packet (refused (fault_number f) q)).0 e) refl,
            λ h. writing_is size at v packet _ (Writes.fault f h.0) ∙ rw h.1,
          );
    }

pub faults_exactly : FaultsExactly
faults_exactly =
    record {
      channel = fault-exactly channel_above;
      pdu_type = fault-exactly pdu_type_reserved;
      phy = fault-exactly phy_reserved;
    }
