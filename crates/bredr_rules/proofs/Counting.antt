-- An accepted survey counts each header once, in the channel that it names.
-- Assumes nothing.
use Prim.Native.Nat.{ℕ, zero, suc, ◌+◌, ◌*◌, ◌/◌, ◌%◌, ◌≤◌, ◌<◌}
use mathlib.Core.Path.{◌≡◌, refl, sym, ap, ◌∙◌, subst}
use mathlib.Core.Bool.{Bool, true, false, cond}
use mathlib.Core.List.{List, [], ◌∷◌}
use native.Mathlib.Omega.{arith}
use native.Mathlib.Nat.{add-zero, div-add-mod'}
use lib.ListN.{length, get_or, drop}
use lib.Arith.{lt_of_le-ne}
use lib.Seq.{get_or-take}
use lib.Dec.{eqb}
use borrow.Author.Tests.{eqb-true, eqb-false, eq-eqb, ne_eqb}
use Rattle.refusals.specs.Refusals.{given}
use Rattle.octets.specs.Parts.{part}
use Rattle.octets.proofs.PartLaws.{length_part}
use Rattle.bredr_rules.specs.Reading.{header_length, values_in, last_channel, header_of, reading_of}
use Rattle.bredr_rules.specs.Survey.{headers_in, channels_from, channels_in, naming, counts_from, counts_of, survey_of}
use Rattle.bredr_rules.specs.Orders.{Reads, Surveys}
use Rattle.bredr_rules.specs.Counting.{sum, Named, Counted, SurveyCounts}
use Rattle.bredr_rules.proofs.Orders.{reading-exactly}
use Rattle.bredr_rules.proofs.Surveys.{survey-exactly}

-- ---- the channels of headers end to end

pub length_channels : (s : List ℕ) (at n : ℕ) → length (channels_from s at n) ≡ n
length_channels s at zero = refl
length_channels s at (suc n) = ap suc (length_channels s (at + header_length) n)

-- the one of a number is that of the header which starts so many headers further on
channel_at : (s : List ℕ) (at n i : ℕ) → i < n
    → get_or (channels_from s at n) i 0 ≡ (values_in (drop (at + i * header_length) s)).rf_channel
channel_at s at zero i h = absurd (omega arith)
channel_at s at (suc n) zero h =
    let place : at ≡ at + 0 * header_length = omega arith in ap (λ (k : ℕ). (values_in (drop k s)).rf_channel) place
channel_at s at (suc n) (suc i) h =
    let place : at + header_length + i * header_length ≡ at + suc i * header_length = omega arith in
    channel_at s (at + header_length) n i (omega arith) ∙ ap (λ (k : ℕ). (values_in (drop k s)).rf_channel) place

channel_in : (s : List ℕ) (i : ℕ) → i < headers_in s
    → get_or (channels_in s) i 0 ≡ (values_in (drop (i * header_length) s)).rf_channel
channel_in s i h =
    let place : 0 + i * header_length ≡ i * header_length = omega arith in
    channel_at s 0 (headers_in s) i h ∙ ap (λ (k : ℕ). (values_in (drop k s)).rf_channel) place

-- the octets of one header have its channel
first_channel : (s : List ℕ) (p : ℕ) → (values_in (part s p header_length)).rf_channel ≡ (values_in (drop p s)).rf_channel
unfolding values_in part
first_channel s p = get_or-take header_length (drop p s) 0 0 (omega arith)

-- ---- the counts

length_counts : (c n : ℕ) (cs : List ℕ) → length (counts_from c n cs) ≡ n
length_counts c zero cs = refl
length_counts c (suc n) cs = ap suc (length_counts (suc c) n cs)

count_at : (c n : ℕ) (cs : List ℕ) (i : ℕ) → i < n → get_or (counts_from c n cs) i 0 ≡ naming (c + i) cs
count_at c zero cs i h = absurd (omega arith)
count_at c (suc n) cs zero h = ap (λ (k : ℕ). naming k cs) (sym (add-zero c))
count_at c (suc n) cs (suc i) h =
    let same : suc c + i ≡ c + suc i = omega arith in
    count_at (suc c) n cs i (omega arith) ∙ ap (λ (k : ℕ). naming k cs) same

pub length-counts_of : (cs : List ℕ) → length (counts_of cs) ≡ 79
unfolding counts_of
length-counts_of cs = length_counts 0 79 cs

pub counts_each : (cs : List ℕ) (c : ℕ) → c < 79 → get_or (counts_of cs) c 0 ≡ naming c cs
unfolding counts_of
counts_each cs c h =
    let same : 0 + c ≡ c = omega arith in count_at 0 79 cs c h ∙ ap (λ (k : ℕ). naming k cs) same

-- ---- their sum

sum-none : (c n : ℕ) → sum (counts_from c n []) ≡ 0
sum-none c zero = refl
sum-none c (suc n) = let rest = sum-none (suc c) n in omega arith

-- a channel below those that are counted adds nothing
misses : (x : ℕ) (cs : List ℕ) (c n : ℕ) → x < c → sum (counts_from c n (x ∷ cs)) ≡ sum (counts_from c n cs)
misses x cs c zero h = refl
misses x cs c (suc n) h =
    let other : eqb x c ≡ false = ne_eqb x c (λ e. omega arith) in
    let rest = misses x cs (suc c) n (omega arith) in
    rw other (omega arith)

-- one of them adds one
hits : (x : ℕ) (cs : List ℕ) (c n : ℕ) → c ≤ x → x < c + n → sum (counts_from c n (x ∷ cs)) ≡ suc (sum (counts_from c n cs))
hits x cs c zero h l = absurd (omega arith)
hits x cs c (suc n) h l = go (eqb x c) refl (λ above. hits x cs (suc c) n above (omega arith))
  where
    go : (t : Bool) → eqb x c ≡ t → (suc c ≤ x → sum (counts_from (suc c) n (x ∷ cs)) ≡ suc (sum (counts_from (suc c) n cs)))
        → sum (counts_from c (suc n) (x ∷ cs)) ≡ suc (sum (counts_from c (suc n) cs))
    go true t later =
        let same : x ≡ c = eqb-true x c t in
        let rest = misses x cs (suc c) n (omega arith) in
        rw t (omega arith)
    go false t later =
        let above : suc c ≤ x = lt_of_le-ne h (λ e. eqb-false x c t (sym e)) in let rest = later above in rw t (omega arith)

-- so the counts of channels in range sum to how many there are
counts_sum : (cs : List ℕ) → ((i : ℕ) → get_or cs i 0 ≤ 78) → sum (counts_of cs) ≡ length cs
unfolding counts_of
counts_sum [] h = sum-none 0 79
counts_sum (c ∷ cs) h =
    hits c cs 0 79 (omega arith) (let l : c ≤ 78 = h 0 in omega arith) ∙ ap suc (counts_sum cs (λ i. h (suc i)))

-- ---- an accepted survey

named_at : (s : List ℕ) → headers_in s * header_length ≡ length s → ((i : ℕ) → get_or (channels_in s) i 0 ≤ 78) → (i : ℕ)
    → i < headers_in s → Named s i
named_at s whole fine i h =
    let place = i * header_length in
    let s' : List ℕ = part s place header_length in
    let inside : place + header_length ≤ length s = omega arith in
    let long : length s' ≡ header_length = length_part s place header_length inside in
    let channel : (values_in s').rf_channel ≡ get_or (channels_in s) i 0 = first_channel s place ∙ sym (channel_in s i h) in
    let low : (values_in s').rf_channel ≤ 78 = rw channel (fine i) in
    record {
      header = header_of (values_in s');
      read = (reading-exactly s' (given (header_of (values_in s')))).1 (Reads.accepted (omega arith) low);
      channel = channel;
    }

pub survey_counts : SurveyCounts
survey_counts s counts e = go ((survey-exactly s (given counts)).0 e)
  where
    go : {ns : List ℕ} → Surveys s (given ns) → Counted s ns
    go (Surveys.counted e fine) =
        let whole : headers_in s * header_length ≡ length s = let d = div-add-mod' (length s) 22 in omega arith in
        let headers : length (channels_in s) ≡ headers_in s = length_channels s 0 (headers_in s) in
        record {
          whole = whole;
          headers = headers;
          named = named_at s whole fine;
          long = length-counts_of (channels_in s);
          each = counts_each (channels_in s);
          total = counts_sum (channels_in s) fine ∙ headers;
        }
