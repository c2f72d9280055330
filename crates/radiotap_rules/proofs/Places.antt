-- Where the fields of a reading lie, and how long they are.
-- Assumes nothing.
use Prim.Native.Nat.{ℕ, zero, suc, ◌+◌, ◌≤◌}
use mathlib.Core.Path.{◌≡◌, sym, ap, ◌∙◌, subst}
use mathlib.Core.Bool.{true}
use mathlib.Core.List.{List, [], ◌∷◌}
use native.Mathlib.Omega.{arith}
use lib.ListN.{length}
use Rattle.refusals.specs.Refusals.{given}
use Rattle.octets.specs.Parts.{part}
use Rattle.octets.proofs.PartLaws.{length_part}
use Rattle.radiotap_rules.specs.Rules.{Rules, row_of, knows, table_ok, edition_taken}
use Rattle.radiotap_rules.specs.Reading.{fixed_header, bit_at, row_number, Meaning, nothing, unknown_here, field, meaning, Field, Walk, refused_at, shown, with_field, on_meaning, fields_from, Reading, refused_before, refused_at_field, read, read_walk}
use Rattle.radiotap_rules.specs.Fields.{Lies, AllLie, Inside, FieldsInside}
use Rattle.radiotap_rules.specs.Orders.{FixedHeader}
use Rattle.radiotap_rules.proofs.Numbering.{number_bit}
use Rattle.radiotap_rules.proofs.Orders.{either, fixed_exactly}
use Rattle.radiotap_rules.proofs.Walks.{field_at, on_field_lem, by_meaning, by_walks, served_reads, read_served}

-- what an accepted fixed header says of its length: it is the one in its octets, and lies between the fixed header's and
-- the input's
pub length-told : (s : List ℕ) (size : ℕ) → fixed_header s ≡ given size → FixedHeader s size
length-told s size = ((fixed_exactly s).accepted size).0

-- if a position means a field, it has the row of this field number
abbrev OwnRow : Rules → ℕ → Meaning → Type 0
OwnRow rules n nothing = Unit {0}
OwnRow rules n unknown_here = Unit {0}
OwnRow rules n (field r) = r ≡ row_of rules n

own_row : (rules : Rules) (edition : ℕ) (words : List ℕ) (q : ℕ) → table_ok rules ≡ true
    → OwnRow rules (bit_at q) (meaning rules edition words q)
own_row rules edition words q ok =
    by_meaning words q (λ meaningIn. OwnRow rules (bit_at q) (meaningIn rules edition)) tt tt
    (either (OwnRow rules (bit_at q)) (knows rules edition (row_number words q)) _ _
    (λ known. ap (row_of rules) (number_bit rules ok edition words q known)) (λ k. tt))

none_lie : (rules : Rules) (s : List ℕ) (size : ℕ) → AllLie rules s size []
none_lie rules s size k f e x = let z : ◌≡◌ {A = ℕ} 0 1 = cc in absurd (omega arith)

-- every field that a walk shows lies so
abbrev WalkLies : Rules → List ℕ → ℕ → Walk → Type 0
WalkLies rules s size (refused_at w b p) = Unit {0}
WalkLies rules s size (shown fs e) = AllLie rules s size fs

module _ (rules : Rules) (s : List ℕ) (size : ℕ) where
  lies_with : (f : Field) (x : Walk) → Lies rules s size f → WalkLies rules s size x → WalkLies rules s size (with_field f x)
  lies_with f (refused_at w b p) h rest = tt
  lies_with f (shown fs e) h rest = all
    where
      all : AllLie rules s size (f ∷ fs)
      all zero g e x = subst (Lies rules s size) (cc) h
      all (suc k) g e x = rest k g e x

  module _ (ok : table_ok rules ≡ true) (input : size ≤ length s) where
    lies-meaning : (q at : ℕ) (rest : ℕ → Walk) (m : Meaning) → OwnRow rules (bit_at q) m
        → ((at : ℕ) → WalkLies rules s size (rest at)) → WalkLies rules s size (on_meaning s size q at rest m)
    lies-meaning q at rest nothing own h = h at
    lies-meaning q at rest unknown_here own h = none_lie rules s size
    lies-meaning q at rest (field r) own h =
        on_field_lem s size q at r (λ on. WalkLies rules s size (on rest))
        (λ place fits. lies_with (field_at s q place r.size) (rest (place + r.size)) (shown_here place fits) (h (place + r.size)))
        (λ place. tt)
      where
        shown_here : (place : ℕ) → place + r.size ≤ size → Lies rules s size (field_at s q place r.size)
        shown_here place fits =
            let long : length (part s place r.size) ≡ r.size = length_part s place r.size (omega arith) in
            record { octets = rw (← own); long = rw (← own) long; inside = omega arith }

    lies-walk : (edition : ℕ) (words : List ℕ) (left q at : ℕ) → WalkLies rules s size (fields_from rules edition s size words left q at)
    lies-walk edition words zero q at = none_lie rules s size
    lies-walk edition words (suc left) q at =
        lies-meaning q at (fields_from rules edition s size words left (suc q)) (meaning rules edition words q)
        (own_row rules edition words q ok) (lies-walk edition words left (suc q))

-- the fields that a reading shows lie inside the length
abbrev ReadingLies : Rules → List ℕ → Reading → Type 0
ReadingLies rules s (refused_before number place) = Unit {0}
ReadingLies rules s (refused_at_field w b p) = Unit {0}
ReadingLies rules s (read fs e frame) = Inside rules s fs

-- every field that a reading shows is as long as its row says and lies inside the length that the fixed header gives
pub fields_inside : FieldsInside
fields_inside rules edition s fs e frame ok h =
    subst (ReadingLies rules s) (sym (served_reads rules edition s (read_served rules edition s fs e frame h)) ∙ h)
    (by_walks s (λ readIn. ReadingLies rules s (readIn rules (edition_taken rules.reading_default edition)))
    (λ number place. tt)
    (λ size header words left q at.
    let input : size ≤ length s = (length-told s size header).inside in
    go size header input (fields_from rules _ s size words left q at) (lies-walk rules s size ok input _ words left q at)))
  where
    go : (size : ℕ) → fixed_header s ≡ given size → size ≤ length s → (x : Walk) → WalkLies rules s size x
        → ReadingLies rules s (read_walk s size x)
    go size header input (refused_at w b p) all = tt
    go size header input (shown fs e) all = record { size = size; header = header; input = input; lies = all }
