-- The octets of a header put one behind the other: the fixed header, then field by field the pad octets and the value.
-- Assumes nothing.
use Prim.Native.Nat.{ℕ, zero, suc, ◌+◌, ◌-◌, ◌≤◌, ◌<◌}
use mathlib.Core.Path.{◌≡◌, refl, sym, ap, ap₂, ◌∙◌}
use mathlib.Core.Bool.{true}
use mathlib.Core.List.{List, [], ◌∷◌, ◌++◌, append_assoc, append-nil}
use native.Mathlib.Omega.{arith}
use lib.ListN.{length, take, drop, replicate, length-append, length-replicate}
use lib.Seq.{drop-drop}
use Rattle.octets.specs.Numbers.{little, octets_of}
use Rattle.octets.specs.Parts.{part, splice, put}
use Rattle.octets.proofs.Fields.{length-octets_of}
use Rattle.octets.proofs.PartLaws.{length_part, put-room, length-splice, splice-none, splice-splice, put_next}
use Rattle.radiotap_rules.specs.Rules.{Rules}
use Rattle.radiotap_rules.specs.Reading.{fixed_length, word_bits}
use Rattle.radiotap_rules.specs.Answers.{unknown_field, lay_of}
use Rattle.radiotap_rules.specs.Writing.{writable, Planned, plan, summed, laid, header_octets}
use Rattle.radiotap_rules.proofs.Planning.{length-header}
use Rattle.radiotap_bits.specs.Bits.{NextSet}
use Rattle.radiotap_plan.proofs.PlanLaws.{known_on, plan_on, Reached, Met, reached_first, met-unknown, reached_next}

-- so many of the pad octets
pub take-pad : (m n : ℕ) → n ≤ m → take {A = ℕ} n (replicate m 0) ≡ replicate n 0
take-pad m zero h = refl
take-pad zero (suc n) h = absurd (omega arith)
take-pad (suc m) (suc n) h = ap (λ (l : List ℕ). 0 ∷ l) (take-pad m n (omega arith))

-- the octets of a fixed header
abbrev fixed_octets : (size word : ℕ) → List ℕ
fixed_octets size word = 0 ∷ 0 ∷ (octets_of little 2 size ++ octets_of little 4 word)

fixed_long : (size word : ℕ) → length (fixed_octets size word) ≡ fixed_length
fixed_long size word =
    omega (arith, length-append (octets_of little 2 size) (octets_of little 4 word), length-octets_of little 2 size, length-octets_of little 4 word)

-- version and pad, the length and the presence word, each put behind the one before
pub fixed_put : (out : List ℕ) (at size word : ℕ) {l m p : List ℕ} → at + fixed_length ≤ length out → l ≡ put out at (0 ∷ 0 ∷ [])
    → m ≡ put l (at + 2) (octets_of little 2 size) → p ≡ put m (at + 4) (octets_of little 4 word)
    → p ≡ splice out at (fixed_octets size word)
fixed_put out at size word {l} {m} {p} h el em ep =
    let two = length-octets_of little 2 size in
    let four = length-octets_of little 4 word in
    let first : l ≡ splice out at (0 ∷ 0 ∷ []) = el ∙ put-room out at (0 ∷ 0 ∷ []) (omega arith) in
    let second : m ≡ splice out at (0 ∷ 0 ∷ octets_of little 2 size) =
    em ∙ ap (λ (o : List ℕ). put o (at + 2) (octets_of little 2 size)) first
    ∙ put_next out at 2 (0 ∷ 0 ∷ []) refl (octets_of little 2 size) (omega arith) in
    ep ∙ ap (λ (o : List ℕ). put o (at + 4) (octets_of little 4 word)) second
    ∙ put_next out at 4 (0 ∷ 0 ∷ octets_of little 2 size) (omega arith) (octets_of little 4 word) (omega arith)

-- a header is its fixed header and its fields
header_parts : (rules : Rules) (edition word : ℕ) (values : List ℕ)
    → let fields = laid (plan rules edition word) fixed_length values in
    header_octets rules edition word values ≡ fixed_octets (fixed_length + length fields) word ++ fields
unfolding header_octets
header_parts rules edition word values =
    let fields = laid (plan rules edition word) fixed_length values in
    ap (λ (l : List ℕ). 0 ∷ 0 ∷ l) (sym (append_assoc (octets_of little 2 (fixed_length + length fields)) (octets_of little 4 word) fields))

-- the fields put where the fixed header ends
pub header-put : (rules : Rules) (out : List ℕ) (at edition word : ℕ) (values : List ℕ) {l m : List ℕ} {size : ℕ}
    → at ≤ length out → length (header_octets rules edition word values) ≡ size → l ≡ splice out at (fixed_octets size word)
    → m ≡ splice l (at + fixed_length) (laid (plan rules edition word) fixed_length values)
    → m ≡ splice out at (header_octets rules edition word values)
header-put rules out at edition word values {l} {m} {size} h sized el em =
    let fields = laid (plan rules edition word) fixed_length values in
    let whole : fixed_length + length fields ≡ size = sym (length-header rules edition word values) ∙ sized in
    em
    ∙ ap (λ (o : List ℕ). splice o (at + fixed_length) fields) el
    ∙ ap (λ (n : ℕ). splice (splice out at (fixed_octets size word)) (at + n) fields) (sym (fixed_long size word))
    ∙ splice-splice out at (fixed_octets size word) fields h
    ∙ ap (splice out at) (sym (header_parts rules edition word values ∙ ap (λ (n : ℕ). fixed_octets n word ++ fields) whole))

-- an output with the fields before the bit that was reached: what was put so far, behind the fixed header, and the fields
-- from the bit on make up all of them
pub record Filled (rules : Rules) (out₀ : List ℕ) (place edition word : ℕ) (values out : List ℕ) (at used bit : ℕ) : Type 0 where
  pub here : Reached word at bit
  pub known : known_on rules edition word bit ≡ true
  pub enough : used + summed (plan_on rules edition word bit) ≡ length values
  pub done : List ℕ
  pub holds : out ≡ splice out₀ (place + fixed_length) done
  pub long : fixed_length + length done ≡ at
  pub all : laid (plan rules edition word) fixed_length values ≡ done ++ laid (plan_on rules edition word bit) at (drop used values)

module _ (rules : Rules) (out₀ : List ℕ) (place edition word : ℕ) (values : List ℕ) where
  -- at first nothing is put
  pub filled_none : {next : ℕ} → writable rules edition word ≡ true → length values ≡ summed (plan rules edition word)
      → NextSet word 0 next → Filled rules out₀ place edition word values out₀ fixed_length 0 next
  unfolding writable plan
  filled_none {next} known long n =
      let first = reached_first rules edition word n in
      record {
        here = first.0;
        known = sym first.1.0 ∙ known;
        enough = omega (arith, long, ap summed first.1.1);
        done = [];
        holds = sym (splice-none out₀ (place + fixed_length));
        long = refl;
        all = ap (λ (ps : List Planned). laid ps fixed_length values) first.1.1;
      }

  module _ {out : List ℕ} {at used bit : ℕ} (f : Filled rules out₀ place edition word values out at used bit) where
    -- each bit is known, so that no bit is unknown to the table
    pub filled-known : bit < word_bits → lay_of rules edition bit at ≡ unknown_field → ⊥
    filled-known more e =
        let none = met-unknown rules edition word f.here more e in
        let z : ◌≡◌ {A = ℕ} 0 1 = cc f.known in
        absurd (omega arith)

    module _ {start size : ℕ} (m : Met rules edition word at bit start size) where
      -- the field's pad octets, its value, and the fields behind it
      abbrev gap : List ℕ
      gap = replicate (start - at) 0

      abbrev value : List ℕ
      value = part values used size

      abbrev behind : List ℕ
      behind = laid (plan_on rules edition word (suc bit)) (start + size) (drop (used + size) values)

      fields_split : laid (plan_on rules edition word bit) at (drop used values) ≡ gap ++ (value ++ behind)
      unfolding part
      fields_split =
          let ps = plan_on rules edition word (suc bit) in
          let vs = drop used values in
          ap (λ (ps : List Planned). laid ps at vs) m.fields
          ∙ ap₂ (λ (start size : ℕ). replicate (start - at) 0 ++ (take size vs ++ laid ps (start + size) (drop size vs))) (sym m.starts) (sym m.sized)
          ∙ rw (drop-drop size used values)

      -- the values hold its octets
      pub filled-values : used + size ≤ length values
      filled-values = omega (arith, f.enough, ap summed m.fields, m.sized)

      values-long : length value ≡ size
      values-long = length_part values used size filled-values

      -- it ends inside the output where the header does
      pub filled-fits : place + length (header_octets rules edition word values) ≤ length out₀ → place + (start + size) ≤ length out₀
      filled-fits room =
          omega (
            arith,
            length-header rules edition word values,
            ap length (f.all ∙ ap (λ (l : List ℕ). f.done ++ l) fields_split),
            length-append f.done (gap ++ (value ++ behind)),
            length-append gap (value ++ behind),
            length-append value behind,
            length-replicate {A = ℕ} (start - at) 0,
            values-long,
            f.long,
            m.after,
          )

      -- with its pad octets put at the first free place, and its value behind them, the next bit is reached
      pub filled-field : {padded filled : List ℕ} {next : ℕ} → place + length (header_octets rules edition word values) ≤ length out₀
          → bit < word_bits → size < 256 → NextSet word (bit + 1) next → padded ≡ put out (place + at) gap
          → filled ≡ put padded (place + start) value
          → Filled rules out₀ place edition word values filled (start + size) (used + size) next
      filled-field {padded} {filled} {next} room more small n ep ef =
          let next = reached_next rules edition word f.here more m small n in
          let fits : place + (start + size) ≤ length out₀ = filled-fits room in
          let long : length gap ≡ start - at = length-replicate (start - at) 0 in
          let first : place + fixed_length + length f.done ≡ place + at = omega (arith, f.long) in
          let second : place + fixed_length + length (f.done ++ gap) ≡ place + start = omega (arith, f.long, length-append f.done gap, m.after) in
          let pad : padded ≡ splice out₀ (place + fixed_length) (f.done ++ gap) =
          ep
          ∙ ap₂ (λ (o : List ℕ) (k : ℕ). put o k gap) f.holds (sym first)
          ∙ put_next out₀ (place + fixed_length) (length f.done) f.done refl gap (omega (arith, m.after)) in
          let whole : filled ≡ splice out₀ (place + fixed_length) (f.done ++ gap ++ value) =
          ef
          ∙ ap₂ (λ (o : List ℕ) (k : ℕ). put o k value) pad (sym second)
          ∙ put_next out₀ (place + fixed_length) (length (f.done ++ gap)) (f.done ++ gap) refl value (omega (arith, values-long)) in
          record {
            here = next.0;
            known = sym (m.known ∙ next.1.0) ∙ f.known;
            enough = omega (arith, f.enough, ap summed m.fields, m.sized, ap summed next.1.1);
            done = f.done ++ gap ++ value;
            holds = whole;
            long = omega (arith, f.long, length-append f.done gap, length-append (f.done ++ gap) value, values-long, m.after);
            all =
                f.all
                ∙ ap (λ (l : List ℕ). f.done ++ l) fields_split
                ∙ sym (append_assoc f.done gap (value ++ behind))
                ∙ sym (append_assoc (f.done ++ gap) value behind)
                ∙ ap (λ (ps : List Planned). f.done ++ gap ++ value ++ laid ps (start + size) (drop (used + size) values)) next.1.1;
          }

    -- the output keeps its length
    pub filled-same : place + length (header_octets rules edition word values) ≤ length out₀ → length out ≡ length out₀
    filled-same room =
        ap length f.holds
        ∙ length-splice out₀ (place + fixed_length) f.done
        (omega (
          arith,
          length-header rules edition word values,
          ap length f.all,
          length-append f.done (laid (plan_on rules edition word bit) at (drop used values)),
        ))

    -- behind the last bit all fields are put
    pub filled-all : word_bits ≤ bit → out ≡ splice out₀ (place + fixed_length) (laid (plan rules edition word) fixed_length values)
    filled-all end =
        let none : word_bits - bit ≡ 0 = omega arith in
        f.holds ∙ ap (splice out₀ (place + fixed_length)) (sym (f.all ∙ rw none (append-nil f.done)))
