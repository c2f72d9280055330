-- Writing a header and then reading it, in the writing edition or a later one, gives the planned fields and the frame.
-- Assumes nothing.
use Prim.Native.Nat.{ℕ, zero, suc, ◌+◌, ◌-◌, ◌≤◌, ◌<◌}
use mathlib.Core.Path.{◌≡◌, refl, sym, ap, ap₂, ◌∙◌, fun_ext}
use mathlib.Core.Bool.{Bool, true, false, cond, and-eq-true_iff}
use mathlib.Core.List.{List, [], ◌∷◌, ◌++◌, append_assoc}
use native.Mathlib.Omega.{arith}
use lib.ListN.{length, take, drop, length-append, length-drop, length-replicate, replicate}
use lib.Seq.{take_at, length-take-le}
use Rattle.refusals.specs.Refusals.{given}
use Rattle.octets.specs.Numbers.{little, octets_of, number_at}
use Rattle.octets.specs.Parts.{part}
use Rattle.octets.proofs.Laws.{read_after_write}
use Rattle.octets.proofs.Fields.{past}
use Rattle.radiotap_rules.specs.Rules.{Rules, edition_taken}
use Rattle.radiotap_rules.specs.Reading.{fixed_length, length_in, fixed_header, bit_set, word_bits, words_from, presence_words, Meaning, meaning, aligned, Field, ended, stopped, Walk, refused_at, shown, on_meaning, fields_from, fields_of, read_walk}
use Rattle.radiotap_rules.specs.Writing.{is_field, writable_at, writable_from, writable, Planned, plan, summed, laid, laid_fields, header_octets}
use Rattle.radiotap_rules.specs.Rewriting.{last_end, ReadBack}
use Rattle.radiotap_rules.proofs.Walks.{served-walk}
use Rattle.radiotap_rules.proofs.Nesting.{Grows, served-grows, Means, alike, newly, means}
use Rattle.radiotap_rules.proofs.Orders.{fixed_exactly}
use Rattle.radiotap_rules.proofs.WriteOrders.{writable-known}
use Rattle.radiotap_rules.proofs.Planning.{Aligned, aligned_after, plan-aligned, length-laid, planned_fields, clear-nothing, WalkedTo, walked}

module _ (rules : Rules) (edition reader : ℕ) (grows : Grows rules edition reader) (word : ℕ) where
  -- what can be written in an edition means the same in a later one
  later-meaning : (q : ℕ) → q < word_bits → writable_at rules edition word q ≡ true
      → meaning rules edition (word ∷ []) q ≡ meaning rules reader (word ∷ []) q
  later-meaning q inside = go (bit_set word q) refl
    where
      same : {m m' : Meaning} → Means m m' → is_field m ≡ true → m ≡ m'
      same alike h = refl
      same newly h = let z : ◌≡◌ {A = ℕ} 0 1 = cc in absurd (omega arith)

      go : (t : Bool) → bit_set word q ≡ t → cond t (is_field (meaning rules edition (word ∷ []) q)) true ≡ true
          → meaning rules edition (word ∷ []) q ≡ meaning rules reader (word ∷ []) q
      go true e = same (means rules edition reader (word ∷ []) q grows)
      go false e = λ h. clear-nothing rules edition word q inside e ∙ sym (clear-nothing rules reader word q inside e)

  -- so a later edition walks over it alike
  later-walk : (s : List ℕ) (size left q at : ℕ) → q + left ≡ word_bits → writable_from rules edition word left q ≡ true
      → fields_from rules edition s size (word ∷ []) left q at ≡ fields_from rules reader s size (word ∷ []) left q at
  later-walk s size zero q at count known = refl
  later-walk s size (suc left) q at count known =
      let both = (and-eq-true_iff (writable_at rules edition word q) (writable_from rules edition word left (suc q))).0 known in
      ap₂ (on_meaning s size q at) (fun_ext (λ at. later-walk s size left (suc q) at (omega arith) both.1))
      (later-meaning q (omega arith) both.0)

  later-fields : (s : List ℕ) (size : ℕ) → writable rules edition word ≡ true
      → fields_of rules edition s size (word ∷ []) ≡ fields_of rules reader s size (word ∷ [])
  unfolding writable fields_of
  later-fields s size = later-walk s size word_bits 0 fixed_length refl

-- where the fields are laid from a place on, they stand there as planned
laid-planned : (s : List ℕ) (at : ℕ) (ps : List Planned) (values frame : List ℕ) → Aligned ps → summed ps ≤ length values
    → drop at s ≡ laid ps at values ++ frame → planned_fields s at ps ≡ laid_fields ps at values
unfolding part
laid-planned s at [] values frame h long e = refl
laid-planned s at (p ∷ ps) values frame h long e =
    let place : ℕ = aligned p.row.alignment at in
    let size : ℕ = p.row.size in
    let gap : List ℕ = replicate (place - at) 0 in
    let value : List ℕ = take size values in
    let rest : List ℕ = laid ps (place + size) (drop size values) in
    let after : at ≤ place = aligned_after p.row.alignment at h.0 in
    let value_long : length value ≡ size = length-take-le size values (omega arith) in
    let there : drop place s ≡ value ++ (rest ++ frame) =
    past s at place gap (value ++ (rest ++ frame)) (rw length-replicate (omega arith)) (e ∙ simp append_assoc) in
    let behind : drop (place + size) s ≡ rest ++ frame = past s place (place + size) value (rest ++ frame) (rw value_long) there in
    let octets : take size (drop place s) ≡ value = rw there (take_at value (rest ++ frame) size value_long) in
    rw (octets, laid-planned s (place + size) ps (drop size values) frame h.1 (rw length-drop (omega arith)) behind)

-- bit 31 clear, the first presence word is the only one
one_word : (s : List ℕ) (size word : ℕ) → number_at little 4 s 4 ≡ word → bit_set word 31 ≡ false
    → presence_words s size ≡ given (word ∷ [])
unfolding presence_words
one_word s size word e clear =
    let clear_there : bit_set (number_at little 4 s 4) 31 ≡ false = rw e clear in
    rw (clear_there, words_from, e)

-- bit 31 of a word that can be written is clear
bit_31_clear : (rules : Rules) (edition word : ℕ) → writable rules edition word ≡ true → bit_set word 31 ≡ false
bit_31_clear rules edition word known = go (bit_set word 31) refl
  where
    go : (t : Bool) → bit_set word 31 ≡ t → t ≡ false
    go true set = absurd (omega (arith, ((writable-known rules edition word).0 known 31 (omega arith) set).0))
    go false clear = refl

-- a walk over a word that can be written, whose fields end inside the length, shows the planned fields
walk-shows : (s : List ℕ) (size at : ℕ) (ps : List Planned) {known : Bool} (x : Walk) → WalkedTo s size at ps known x → known ≡ true
    → last_end at ps ≤ size → x ≡ shown (planned_fields s at ps) ended
walk-shows s size at ps (refused_at w b p) h known l = absurd (omega arith)
walk-shows s size at ps (shown fs ended) h known l = rw h.0
walk-shows s size at ps (shown fs (stopped w b)) h known l = let z : ◌≡◌ {A = ℕ} 0 1 = cc in absurd (omega arith)

-- written in an edition and read in it or a later one, the same fields come out, and the frame behind them
pub read_back : ReadBack
unfolding header_octets octets_of number_at
read_back rules edition reader word values frame ok nests servedReader later w =
    let ps : List Planned = plan rules edition word in
    let xs : List ℕ = laid ps fixed_length values in
    let size : ℕ = fixed_length + length xs in
    let s : List ℕ = header_octets rules edition word values ++ frame in
    let e : ℕ = edition_taken rules.reading_default reader in
    let a : Aligned ps = plan-aligned rules edition word ok in
    let long = length-append xs frame in
    let last : size ≡ last_end fixed_length ps = length-laid fixed_length ps values a (omega arith) in
    let sized : length_in s ≡ size = read_after_write little 2 size (omega arith) in
    let worded : number_at little 4 s 4 ≡ word = read_after_write little 4 word w.word32 in
    let header : fixed_header s ≡ given size =
    ((fixed_exactly s).accepted size).1 (record { version = refl; told = sized; least = omega arith; inside = omega arith }) in
    let words : presence_words s size ≡ given (word ∷ []) = one_word s size word worded (bit_31_clear rules edition word w.known) in
    let walk : fields_of rules e s size (word ∷ []) ≡ shown (laid_fields ps fixed_length values) ended =
    sym (later-fields rules edition e (served-grows rules edition reader ok nests servedReader later) word s size w.known)
    ∙ walk-shows s size fixed_length ps (fields_of rules edition s size (word ∷ []))
    (walked rules edition s size word ok (omega arith)) w.known (omega arith)
    ∙ ap (λ (fs : List Field). shown fs ended) (laid-planned s fixed_length ps values frame a (omega arith) refl) in
    let behind : drop size s ≡ frame = past s fixed_length size xs frame refl refl in
    served-walk rules reader s size (word ∷ []) header words servedReader ∙ ap (read_walk s size) walk ∙ rw behind
