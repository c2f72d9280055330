-- A header with one presence word, read without a stop and written again: when its octets come out unchanged.
-- Assumes nothing.
use Prim.Native.Nat.{ℕ, ◌+◌, ◌-◌, ◌^◌, ◌≤◌, ◌<◌}
use mathlib.Core.Path.{◌≡◌, refl, sym, ap, ◌∙◌, subst}
use mathlib.Core.Bool.{Bool, true}
use mathlib.Core.Logic.{◌↔◌}
use mathlib.Core.List.{List, [], ◌∷◌, ◌++◌, append_cancel_left}
use native.Mathlib.Omega.{arith}
use native.Mathlib.Nat.{sub_self}
use lib.ListN.{length, get_or, take, drop, replicate, length-append, length-replicate, get_or-replicate}
use lib.Seq.{take_at, drop_at, take-add, drop-drop, get_or-take, get_or-drop, ext_get_or}
use borrow.Author.Tests.{le-leb, eq-eqb}
use Rattle.refusals.specs.Refusals.{given}
use Rattle.octets.specs.Numbers.{little, octets_of, octets_at, number_at, Octets}
use Rattle.octets.specs.Parts.{part, splice}
use Rattle.octets.proofs.Laws.{write_after_read, range, octets_append, octets_after_lem, octets-take, octets-drop}
use Rattle.octets.proofs.PartLaws.{length_part, octets-part}
use Rattle.radiotap_rules.specs.Rules.{Rules, table_ok, edition_taken, served}
use Rattle.radiotap_rules.specs.Reading.{fixed_length, length_in, fixed_header, presence_words, aligned, Field, ended, Walk, shown, fields_of}
use Rattle.radiotap_rules.specs.Writing.{writable, Planned, plan, summed, laid, header_octets, writing, written}
use Rattle.radiotap_rules.specs.Rewriting.{Writable, joined, last_end, end_of, GapsZero, OneWord, RewritesItself}
use Rattle.radiotap_rules.proofs.Walks.{read_served, read_shown}
use Rattle.radiotap_rules.proofs.Words.{words_at, last_calls-none}
use Rattle.radiotap_rules.proofs.Unstopped.{walk-writable}
use Rattle.radiotap_rules.proofs.TableTests.{taken-served}
use Rattle.radiotap_rules.proofs.Places.{length-told}
use Rattle.radiotap_rules.proofs.Planning.{Aligned, aligned_after, plan-aligned, end_after, length-laid, header-ends, planned_fields, WalkedTo, walked}

-- a part of an input is its first part and the part behind that
part_add : (s : List ℕ) (at m n : ℕ) → part s at (m + n) ≡ part s at m ++ part s (at + m) n
unfolding part
part_add s at m n = take-add m n (drop at s) ∙ rw (drop-drop m at s)

-- the same up to places
part-split : (s : List ℕ) (a b c : ℕ) → a ≤ b → b ≤ c → part s a (c - a) ≡ part s a (b - a) ++ part s b (c - b)
part-split s a b c l h =
    let sum : c - a ≡ (b - a) + (c - b) = omega arith in
    let there : a + (b - a) ≡ b = omega arith in
    rw sum (part_add s a (b - a) (c - b) ∙ rw there)

get_d_part : (s : List ℕ) (at n i : ℕ) → i < n → get_or (part s at n) i 0 ≡ get_or s (at + i) 0
unfolding part
get_d_part s at n i h = get_or-take n (drop at s) i 0 h ∙ get_or-drop at s i 0

-- the octets from a place up to another are a gap of zeros exactly if each one is 0
gap-zero : (s : List ℕ) (at place : ℕ) → at ≤ place → place ≤ length s
    → (replicate (place - at) 0 ≡ part s at (place - at)) ↔ ((i : ℕ) → at ≤ i → i < place → get_or s i 0 ≡ 0)
gap-zero s at place l h = (each, all)
  where
    n : ℕ
    n = place - at

    fill : List ℕ
    fill = replicate n 0

    each : fill ≡ part s at n → (i : ℕ) → at ≤ i → i < place → get_or s i 0 ≡ 0
    each e i low high =
        let there : at + (i - at) ≡ i = omega arith in
        let k : i - at < n = omega arith in
        sym (rw there at (get_d_part s at n (i - at) k)) ∙ rw (← e) (get_or-replicate n (i - at) 0 0 k)

    all : ((i : ℕ) → at ≤ i → i < place → get_or s i 0 ≡ 0) → fill ≡ part s at n
    all zeros =
        let long : length fill ≡ n = length-replicate n 0 in
        ext_get_or 0 fill (part s at n) (long ∙ sym (length_part s at n (omega arith)))
        (λ i k.
        let k' : i < n = omega arith in
        get_or-replicate n i 0 0 k' ∙ sym (get_d_part s at n i k' ∙ zeros (at + i) (omega arith) (omega arith)))

-- two lists with the same middle behind fronts of the same length are equal exactly if the fronts and the backs are
same_middle : (f f' mid b b' : List ℕ) → length f ≡ length f' → (f ++ (mid ++ b) ≡ f' ++ (mid ++ b')) ↔ ((f ≡ f') × (b ≡ b'))
same_middle f f' mid b b' long = (
  λ e. (
    sym (take_at f (mid ++ b) (length f) refl) ∙ ap (take (length f)) e ∙ take_at f' (mid ++ b') (length f) (sym long),
    append_cancel_left mid b b'
        (sym (drop_at f (mid ++ b) (length f) refl) ∙ ap (drop (length f)) e ∙ drop_at f' (mid ++ b') (length f) (sym long)),
  ),
  λ e. rw (e.0, e.1),
)

module _ (s : List ℕ) where
  -- the values that an input holds for planned fields have the summed length
  length-values : (at : ℕ) (ps : List Planned) → Aligned ps → last_end at ps ≤ length s
      → length (joined (planned_fields s at ps)) ≡ summed ps
  length-values at [] a h = refl
  length-values at (p ∷ ps) a h =
      let place : ℕ = aligned p.row.alignment at in
      let size : ℕ = p.row.size in
      let inside : place + size ≤ length s = omega (arith, end_after (place + size) ps a.1) in
      length-append (part s place size) (joined (planned_fields s (place + size) ps))
      ∙ rw (length_part s place size inside, length-values (place + size) ps a.1 h)

  -- laid from a place on, they are the input's octets there exactly if its gaps are 0
  laid-own : (at : ℕ) (ps : List Planned) → Aligned ps → last_end at ps ≤ length s
      → (laid ps at (joined (planned_fields s at ps)) ≡ part s at (last_end at ps - at)) ↔ GapsZero s at (planned_fields s at ps)
  unfolding part
  laid-own at [] a h = (λ e. tt, λ g. rw (sub_self at))
  laid-own at (p ∷ ps) a h =
      let place : ℕ = aligned p.row.alignment at in
      let size : ℕ = p.row.size in
      let next : ℕ = place + size in
      let end : ℕ = last_end next ps in
      let after : at ≤ place = aligned_after p.row.alignment at a.0 in
      let ends : next ≤ end = end_after next ps a.1 in
      let gap : List ℕ = part s at (place - at) in
      let value : List ℕ = part s place size in
      let values : List ℕ = joined (planned_fields s next ps) in
      let long : length value ≡ size = length_part s place size (omega arith) in
      let fill : List ℕ = replicate (place - at) 0 in
      let fills : length fill ≡ length gap =
      length-replicate (place - at) 0 ∙ sym (length_part s at (place - at) (omega arith)) in
      let left : laid (p ∷ ps) at (value ++ values) ≡ fill ++ (value ++ laid ps next values) =
      rw (take_at value values size long, drop_at value values size long) in
      let sized : next - place ≡ size = omega arith in
      let right : part s at (end - at) ≡ gap ++ (value ++ part s next (end - next)) =
      part-split s at place end after (omega arith)
      ∙ ap (λ (l : List ℕ). gap ++ l) (part-split s place next end (omega arith) ends ∙ rw sized) in
      let same = same_middle fill gap value (laid ps next values) (part s next (end - next)) fills in
      let zeros = gap-zero s at place after (omega arith) in
      let Behind : ℕ → Type 0 = λ (k : ℕ). GapsZero s (place + k) (planned_fields s next ps) in
      let rest = laid-own next ps a.1 h in (
        λ e. let both = same.0 (sym left ∙ e ∙ right) in (zeros.0 both.0, subst Behind (sym long) (rest.0 both.1)),
        λ g. left ∙ same.1 (zeros.1 g.0, rest.1 (subst Behind long g.1)) ∙ sym right,
      )

  -- the last of the fields that an input holds ends where the last planned one does
  planned_end : (at : ℕ) (ps : List Planned) → Aligned ps → last_end at ps ≤ length s → end_of at (planned_fields s at ps) ≡ last_end at ps
  planned_end at [] a h = refl
  planned_end at (p ∷ ps) a h =
      let place : ℕ = aligned p.row.alignment at in
      let size : ℕ = p.row.size in
      let inside : place + size ≤ length s = omega (arith, end_after (place + size) ps a.1) in
      ap (λ (k : ℕ). end_of (place + k) (planned_fields s (place + size) ps)) (length_part s place size inside)
      ∙ planned_end (place + size) ps a.1 h

-- where one presence word is given, it is the number at the first word's place
word_back : (s : List ℕ) (size word : ℕ) → presence_words s size ≡ given (word ∷ []) → number_at little 4 s 4 ≡ word
word_back s size word e = sym (words_at s size (word ∷ []) e 0 (omega arith))

-- the octets of an accepted header up to its length: 0, the pad octet, its length, its first presence word and the others
header_back : (s : List ℕ) (size word : ℕ) → Octets s → fixed_header s ≡ given size → presence_words s size ≡ given (word ∷ [])
    → take size s ≡ 0 ∷ get_or s 1 0 ∷ (octets_of little 2 size ++ (octets_of little 4 word ++ part s fixed_length (size - fixed_length)))
unfolding number_at part
header_back s size word o header words =
    let fixed = length-told s size header in
    let input : size ≤ length s = fixed.inside in
    let low : fixed_length ≤ size = fixed.least in
    let two : octets_of little 2 size ≡ octets_at s 2 2 =
    rw (← fixed.told) (write_after_read little (octets_at s 2 2) (octets_after_lem s 2 0 2 o)) in
    let four : octets_of little 4 word ≡ octets_at s 4 4 =
    rw (← word_back s size word words) (write_after_read little (octets_at s 4 4) (octets_after_lem s 4 0 4 o)) in
    let sum : size ≡ fixed_length + (size - fixed_length) = omega arith in
    let rest : List ℕ = part s fixed_length (size - fixed_length) in
    let front : octets_at s 0 fixed_length ≡ take fixed_length s = octets-part s 0 0 fixed_length (omega arith) in
    ap (λ (n : ℕ). take n s) sum
    ∙ take-add fixed_length (size - fixed_length) s
    ∙ ap (λ (l : List ℕ). l ++ rest) (sym front)
    ∙ rw (fixed.version, two, four)

-- a walk to the end shows the planned fields, which end inside the length
walk-planned : (s : List ℕ) (size at : ℕ) (ps : List Planned) (known : Bool) (x : Walk) (fs : List Field)
    → WalkedTo s size at ps known x → x ≡ shown fs ended → (fs ≡ planned_fields s at ps) × (last_end at ps ≤ size)
walk-planned s size at ps known x fs h e = subst (WalkedTo s size at ps known) e h

-- the octets of planned fields are octets of the input
octets-planned : (s : List ℕ) (at : ℕ) (ps : List Planned) → Octets s → Octets (joined (planned_fields s at ps))
unfolding part
octets-planned s at [] o = tt
octets-planned s at (p ∷ ps) o =
    let place : ℕ = aligned p.row.alignment at in
    octets_append (take p.row.size (drop place s)) (joined (planned_fields s (place + p.row.size) ps))
    (octets-take p.row.size (drop place s) (octets-drop place s o)) (octets-planned s (place + p.row.size) ps o)

-- the writer's answer and output, where it serves the edition as itself and accepts the word and the values
module _ (rules : Rules) (edition word : ℕ) (values : List ℕ) (serves : served rules edition ≡ true)
    (itself : edition_taken rules.writing_default edition ≡ edition) (w : Writable rules edition word values) where
  accepted : (room at : ℕ) → at + length (header_octets rules edition word values) ≤ room
      → writing rules room at edition word values ≡ given (at + length (header_octets rules edition word values))
  unfolding writing
  accepted room at h =
      rw (
        serves,
        itself,
        w.known,
        eq-eqb (length values) (summed (plan rules edition word)) w.long,
        le-leb (at + length (header_octets rules edition word values)) room h,
      )

  accepted-output : (out : List ℕ) (at : ℕ) → at + length (header_octets rules edition word values) ≤ length out
      → written rules out at edition word values ≡ splice out at (header_octets rules edition word values)
  unfolding written
  accepted-output out at h = rw (accepted (length out) at h, itself)

module _ (rules : Rules) (edition : ℕ) (s : List ℕ) (size word : ℕ) (fs : List Field) (frame : List ℕ) (ok : table_ok rules ≡ true)
    (o : Octets s) (one : OneWord rules edition s size word fs frame) where
  -- what reading takes the edition for
  abbrev taken : ℕ
  taken = edition_taken rules.reading_default edition

  -- what is read ends without a stop
  ends : fields_of rules taken s size (word ∷ []) ≡ shown fs ended
  ends = read_shown rules edition s size (word ∷ []) fs ended frame one.header one.words one.whole

  -- the fields are the planned ones and end inside the length
  planned : (fs ≡ planned_fields s fixed_length (plan rules taken word)) × (last_end fixed_length (plan rules taken word) ≤ size)
  planned =
      walk-planned s size fixed_length (plan rules taken word) (writable rules taken word) (fields_of rules taken s size (word ∷ [])) fs
      (walked rules taken s size word ok (length-told s size one.header).least) ends

  -- the values that are written
  abbrev values : List ℕ
  values = joined (planned_fields s fixed_length (plan rules taken word))

  -- they have the summed length
  values-long : length values ≡ summed (plan rules taken word)
  values-long =
      let input : size ≤ length s = (length-told s size one.header).inside in
      length-values s fixed_length (plan rules taken word) (plan-aligned rules taken word ok) (omega (arith, planned.1))

  -- the writer accepts the word and the values
  accepts : Writable rules taken word values
  unfolding number_at
  accepts =
      let fixed = length-told s size one.header in
      let input : size ≤ length s = fixed.inside in
      let low : fixed_length ≤ size = fixed.least in
      let last : last_end fixed_length (plan rules taken word) ≤ size = planned.1 in
      let short : length_in s < 256 ^ 2 = range little (octets_at s 2 2) (octets_after_lem s 2 0 2 o) in
      record {
        known = walk-writable rules taken s size word fs one.clear (last_calls-none s size (word ∷ []) one.words) ends;
        long = values-long;
        word32 = rw (← word_back s size word one.words) (range little (octets_at s 4 4) (octets_after_lem s 4 0 4 o));
        octets = octets-planned s fixed_length (plan rules taken word) o;
        short = omega (arith, header-ends rules taken word values ok values-long, fixed.told);
      }

  -- its octets are the header's own exactly when the pad octets are all 0 and the length ends at the last field
  own-octets : (header_octets rules taken word values ≡ take size s)
      ↔ ((get_or s 1 0 ≡ 0)
      × GapsZero s fixed_length (planned_fields s fixed_length (plan rules taken word))
      × (size ≡ end_of fixed_length (planned_fields s fixed_length (plan rules taken word))))
  unfolding header_octets octets_of
  own-octets =
      let ps : List Planned = plan rules taken word in
      let a : Aligned ps = plan-aligned rules taken word ok in
      let last : last_end fixed_length ps ≤ size = planned.1 in
      let input : size ≤ length s = (length-told s size one.header).inside in
      let low : fixed_length ≤ size = (length-told s size one.header).least in
      let xs : List ℕ = laid ps fixed_length values in
      let summed_up : length values ≡ summed ps = values-long in
      let ends : fixed_length + length xs ≡ last_end fixed_length ps = length-laid fixed_length ps values a (omega arith) in
      let own = laid-own s fixed_length ps a (omega arith) in
      let end : end_of fixed_length (planned_fields s fixed_length ps) ≡ last_end fixed_length ps = planned_end s fixed_length ps a (omega arith) in
      let rest : List ℕ = part s fixed_length (size - fixed_length) in
      let long : length rest ≡ size - fixed_length = length_part s fixed_length (size - fixed_length) (omega arith) in
      let head = header_back s size word o one.header one.words in (
        λ e.
            let whole = e ∙ head in
            let pad : 0 ≡ get_or s 1 0 = ap (λ (l : List ℕ). get_or l 1 0) whole in
            let same : xs ≡ rest = ap (drop fixed_length) whole in
            let sized : size ≡ last_end fixed_length ps = omega (arith, ap length same) in
            (sym pad, own.0 (same ∙ ap (λ (n : ℕ). part s fixed_length (n - fixed_length)) sized), sized ∙ sym end),
        λ h.
            let last' : size ≡ last_end fixed_length ps = h.2 ∙ end in
            let same : xs ≡ rest = own.1 h.1 ∙ ap (λ (n : ℕ). part s fixed_length (n - fixed_length)) (sym last') in
            let sized : fixed_length + length xs ≡ size = omega arith in
            rw (sized, same, head, h.0),
      )

-- a header with one presence word, read without a stop, is written again in the same edition wherever there is room, and to
-- its own octets exactly when its pad octets are all 0 and its length ends at the last field
pub rewrites_itself : RewritesItself
rewrites_itself rules edition s size word fs frame ok o one =
    let both = taken-served rules edition ok (read_served rules edition s fs ended frame one.whole) in
    let w = accepts rules edition s size word fs frame ok o one in
    rw (planned rules edition s size word fs frame ok o one).0
    (record {
      serves = both.0;
      itself = both.1;
      accepts = w;
      answer = accepted rules _ word _ both.0 both.1 w;
      output = accepted-output rules _ word _ both.0 both.1 w;
      own = own-octets rules edition s size word fs frame ok o one;
    })
