-- Each refusal of reading and of writing is given exactly when its condition holds and no earlier one does: what each case
-- answers, and that every input is one of the cases.
-- Assumes nothing.
use Prim.Native.Nat.{ℕ, ◌+◌}
use mathlib.Core.Path.{◌≡◌, refl}
use mathlib.Core.Bool.{Bool, true, false}
use mathlib.Core.List.{List}
use lib.ListN.{length}
use lib.Dec.{leb, ltb}
use borrow.Author.Tests.{ltb-true, ltb-false, leb-true, leb-false, lt-ltb, le-ltb, le-leb, lt-leb}
use Rattle.refusals.specs.Refusals.{Answer}
use Rattle.refusals.proofs.Orders.{by_cases}
use Rattle.bredr_rules.specs.declared.Values.{Values}
use Rattle.bredr_rules.specs.Reading.{header_length, values_in, last_channel, Header, reading_of}
use Rattle.bredr_rules.specs.Writing.{writing}
use Rattle.bredr_rules.specs.Orders.{Reads, ReadingExactly, Writes, WritingExactly}

module _ (s : List ℕ) where
  abbrev channel : ℕ
  channel = (values_in s).rf_channel

  -- what each case of an input is read as
  reading_is : (a : Answer Header) → Reads s a → reading_of s ≡ a
  unfolding reading_of
  reading_is _ (Reads.short l) = rw (lt-ltb (length s) header_length l)
  reading_is _ (Reads.above l c) = rw (le-ltb (length s) header_length l, lt-leb channel last_channel c)
  reading_is _ (Reads.accepted l c) = rw (le-ltb (length s) header_length l, le-leb channel last_channel c)

  -- every input is one of them
  reads : (a : Answer Header) × Reads s a
  reads = go (ltb (length s) header_length) refl (leb channel last_channel) refl
    where
      go : (l : Bool) → ltb (length s) header_length ≡ l → (c : Bool) → leb channel last_channel ≡ c
          → (a : Answer Header) × Reads s a
      go true l c _ = (_, Reads.short (ltb-true (length s) header_length l))
      go false l false c = (_, Reads.above (ltb-false (length s) header_length l) (leb-false channel last_channel c))
      go false l true c = (_, Reads.accepted (ltb-false (length s) header_length l) (leb-true channel last_channel c))

pub reading-exactly : ReadingExactly
reading-exactly s a = by_cases (Reads s) (reading_of s) (reading_is s) (reads s) a

module _ (size at : ℕ) (v : Values) where
  abbrev named : ℕ
  named = v.rf_channel

  -- what each case of a write answers
  writing_is : (a : Answer ℕ) → Writes size at v a → writing size at v ≡ a
  unfolding writing
  writing_is _ (Writes.above c) = rw (lt-leb named last_channel c)
  writing_is _ (Writes.full c o) = rw (le-leb named last_channel c, lt-leb (at + header_length) size o)
  writing_is _ (Writes.accepted c o) = rw (le-leb named last_channel c, le-leb (at + header_length) size o)

  -- every write is one of them
  writes : (a : Answer ℕ) × Writes size at v a
  writes = go (leb named last_channel) refl (leb (at + header_length) size) refl
    where
      go : (c : Bool) → leb named last_channel ≡ c → (o : Bool) → leb (at + header_length) size ≡ o
          → (a : Answer ℕ) × Writes size at v a
      go false c o _ = (_, Writes.above (leb-false named last_channel c))
      go true c false o = (_, Writes.full (leb-true named last_channel c) (leb-false (at + header_length) size o))
      go true c true o = (_, Writes.accepted (leb-true named last_channel c) (leb-true (at + header_length) size o))

pub writing-exactly : WritingExactly
writing-exactly size at v a = by_cases (Writes size at v) (writing size at v) (writing_is size at v) (writes size at v) a
