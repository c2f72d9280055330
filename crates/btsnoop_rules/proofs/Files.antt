-- Laws of whole files: which records lie whole, when a file is accepted, what the walk over it meets, and surveys.
-- Assumes nothing.
use Prim.Native.Nat.{ℕ, ◌+◌, ◌-◌, ◌≤◌, ◌<◌}
use mathlib.Core.Path.{◌≡◌, refl, sym, ap, ◌∙◌, subst, subst₂}
use mathlib.Core.Logic.{◌↔◌, ◌⊎◌, inl, inr}
use mathlib.Core.List.{List}
use native.Mathlib.Omega.{arith}
use native.Mathlib.Nat.{lt_of_not-le}
use native.Mathlib.Decide.{dec_le, ℕ_discrete}
use lib.ListN.{length}
use Rattle.refusals.specs.Refusals.{Answer, refused, given, short_record, included_length, short_packet, record_place}
use Rattle.tiling.specs.Tiling.{Next, Placed, Ending, ended, more, broken, items, ending, onward, walk, Survey, survey, Tiles, none, one}
use Rattle.tiling.specs.Claims.{Forward, SurveyFrom}
use Rattle.tiling.proofs.Walks.{survey-from, count_is_passed, surveys_add, never_more as never_more-walk, broken_inside}
use Rattle.record_rules.proofs.Filling.{filled-walk as over-filled, walk-filled as filled-over}
use Rattle.btsnoop_rules.specs.declared.Numbers.{Numbers}
use Rattle.btsnoop_rules.specs.Header.{header_length, header_at}
use Rattle.btsnoop_rules.specs.Record.{record_length, numbers_at, Found, end, whole, record_judged, record_at, packet_in, packet_at, Record, step_on, record_step, WholeAt}
use Rattle.btsnoop_rules.specs.File.{survey_at, file_walk, File, file_of, behind, file_at}
use Rattle.btsnoop_rules.specs.Claims.{FoundExactly, WholeExactly, Filled, AcceptedFile, AcceptedExactly, Meets, at_the_end, on_record, WalkMeets, SurveysInTurn, SurveyCountsPassed, NeverMore, WalkNeverMore, WalkNever17, CheckNever17, SurveyPlaceExactly}
use Rattle.btsnoop_rules.proofs.Orders.{header_never_17}
use Rattle.btsnoop_rules.proofs.HeaderLaws.{header-long}
use Rattle.btsnoop_rules.proofs.RecordLaws.{record_below, record_past, record_end, record_short, record_judged_lem, judged_above, judged_past, judged-whole}

-- what the reader answers at a place: a refusal, which is 17 only at a wrong place, the end at the input's end, or a record that lies whole
data Seen (s : List ℕ) (p : ℕ) : Answer Found → Type 0 where
  refusal : {n q : ℕ} → (header_length ≤ p → p ≤ length s → n ≡ record_place → ⊥) → Seen s p (refused n q)
  last : p ≡ length s → Seen s p (given end)
  lying : header_length ≤ p → (numbers_at s p).included ≤ (numbers_at s p).original
      → p + record_length + (numbers_at s p).included ≤ length s
      → Seen s p (given (whole (numbers_at s p) (p + record_length) (p + record_length + (numbers_at s p).included)))

judged-seen : (s : List ℕ) (p : ℕ) → header_length ≤ p → record_length ≤ length s - p
    → Seen s p (record_judged (length s - p) p (numbers_at s p))
judged-seen s p l h = go (dec_le n.included n.original) (dec_le (record_length + n.included) left)
  where
    n : Numbers
    n = numbers_at s p

    left : ℕ
    left = length s - p

    go : Dec (n.included ≤ n.original) → Dec (record_length + n.included ≤ left) → Seen s p (record_judged left p n)
    go (no a) b = rw (judged_above left p n (lt_of_not-le a)) (refusal {n = included_length} (λ l h e. omega arith))
    go (yes a) (no b) = rw (judged_past left p n a (lt_of_not-le b)) (refusal {n = short_packet} (λ l h e. omega arith))
    go (yes a) (yes b) = rw (judged-whole left p n a b) (lying l a (omega arith))

seen : (s : List ℕ) (p : ℕ) → Seen s p (record_at s p)
seen s p = go (dec_le header_length p) (dec_le p (length s)) (ℕ_discrete p (length s)) (dec_le record_length (length s - p))
  where
    go : Dec (header_length ≤ p) → Dec (p ≤ length s) → Dec (p ≡ length s) → Dec (record_length ≤ length s - p)
        → Seen s p (record_at s p)
    go (no l) i e h = rw (record_below s p (lt_of_not-le l)) (refusal (λ i h e. l i))
    go (yes l) (no i) e h = rw (record_past s p l (lt_of_not-le i)) (refusal (λ l h e. i h))
    go (yes l) (yes i) (yes e) h = rw (record_end s p l e) (last e)
    go (yes l) (yes i) (no e) (no h) = rw (record_short s p l (omega arith) (lt_of_not-le h)) (refusal {n = short_record} (λ l h e. omega arith))
    go (yes l) (yes i) (no e) (yes h) = rw (record_judged_lem s p l (omega arith) h) (judged-seen s p l h)

module _ (s : List ℕ) (p : ℕ) (r : Record) (q : ℕ) where
  -- a record that lies whole is read, and its packet with it
  whole_read : WholeAt s p r q → record_at s p ≡ given (whole r.numbers (p + record_length) q)
  whole_read w =
      let n : Numbers = numbers_at s p in
      let same : n.included ≡ r.numbers.included = ap (λ (m : Numbers). m.included) (sym w.numbers) in
      let below : n.included ≤ n.original = rw w.numbers at w.included in
      record_judged_lem s p w.behind_header (omega arith) (omega arith)
      ∙ judged-whole (length s - p) p n below (omega arith)
      ∙ rw (w.next, w.numbers)

  whole-packet : WholeAt s p r q → packet_at s p ≡ r.packet
  unfolding packet_at
  whole-packet w = ap (packet_in s) (whole_read w) ∙ sym w.packet

  found-exactly : FoundExactly s p r q
  found-exactly = record { found = found; lies = lies (seen s p) }
    where
      found : WholeAt s p r q → record_step s p ≡ given (Next.whole r q)
      found w = ap (step_on s) (whole_read w) ∙ rw (← w.packet)

      lies : {x : Answer Found} → Seen s p x → step_on s x ≡ given (Next.whole r q) → WholeAt s p r q
      lies (refusal f) e = let z : ◌≡◌ {A = ℕ} 0 1 = cc in absurd (omega arith)
      lies (last h) e = let z : ◌≡◌ {A = ℕ} 0 1 = cc in absurd (omega arith)
      lies (lying l a f) e =
          subst₂ (WholeAt s p) (cc) (cc)
          (record { behind_header = l; numbers = refl; included = a; packet = refl; next = refl; inside = f })

-- the record step finds exactly the records that lie whole at a place
pub whole-exactly : WholeExactly
whole-exactly = found-exactly

-- the record step goes forward
pub forward : (s : List ℕ) → Forward header_length (length s) (record_step s)
forward s =
    record {
      starts = λ {p} {q} {a = r} e. (lies p r q e).behind_header;
      onward = λ {p} {q} {a = r} e. let w = lies p r q e in omega arith;
      inside = λ {p} {q} {a = r} e. (lies p r q e).inside;
      at_end = λ l. ap (step_on s) (record_end s (length s) l refl);
      is_end = λ {p} e. is_end p (seen s p) e;
    }
  where
    lies : (p : ℕ) (r : Record) (q : ℕ) → record_step s p ≡ given (Next.whole r q) → WholeAt s p r q
    lies p r q e = (whole-exactly s p r q).lies e

    is_end : (p : ℕ) {x : Answer Found} → Seen s p x → step_on s x ≡ given Next.end → p ≡ length s
    is_end p (refusal f) e = let z : ◌≡◌ {A = ℕ} 0 1 = cc in absurd (omega arith)
    is_end p (last h) e = h
    is_end p (lying l a f) e = let z : ◌≡◌ {A = ℕ} 0 1 = cc in absurd (omega arith)

module _ (s : List ℕ) where
  exact : (p : ℕ) (r : Record) (q : ℕ) → WholeAt s p r q ↔ (record_step s p ≡ given (Next.whole r q))
  exact p r q = ((whole-exactly s p r q).found, (whole-exactly s p r q).lies)

  -- the walk over a file passes the records that fill it, and then ends
  filled-walk : {code : ℕ} {xs : List (Placed Record)} → Filled s code xs
      → (items (file_walk s) ≡ xs) × (ending (file_walk s) ≡ ended (length s))
  unfolding file_walk
  filled-walk {code} {xs} f =
      over-filled header_length (length s) (record_step s) (WholeAt s) (forward s) exact (header-long s code f.header) xs f.records

  -- and a walk that ends passed records that fill the input
  walk-filled : (q : ℕ) → ending (file_walk s) ≡ ended q → Tiles (WholeAt s) header_length (items (file_walk s)) (length s)
  unfolding file_walk
  walk-filled = filled-over header_length (length s) (record_step s) (WholeAt s) (forward s) exact

  accepted-file : AcceptedFile s
  unfolding file_at
  accepted-file = record { filled = λ file. under file (header_at s) refl; accepted = accepted }
    where
      Fills : File → Type 0
      Fills file = (xs : List (Placed Record)) × Filled s file.datalink xs × (length xs ≡ file.records)

      over : (code : ℕ) (file : File) → header_at s ≡ given code → (e : Ending) → ending (file_walk s) ≡ e
          → file_of code (length (items (file_walk s))) e ≡ given file → Fills file
      over code file h (ended q) e g =
          subst Fills (cc) (items (file_walk s), record { header = h; records = walk-filled q e }, refl)
      over code file h (more q) e g = let z : ◌≡◌ {A = ℕ} 0 1 = cc in absurd (omega arith)
      over code file h (broken n q) e g = let z : ◌≡◌ {A = ℕ} 0 1 = cc in absurd (omega arith)

      under : (file : File) (x : Answer ℕ) → header_at s ≡ x → behind s x ≡ given file → Fills file
      under file (refused n q) h g = let z : ◌≡◌ {A = ℕ} 0 1 = cc in absurd (omega arith)
      under file (given code) h g = over code file h (ending (file_walk s)) refl g

      accepted : (code : ℕ) (xs : List (Placed Record)) → Filled s code xs
          → file_at s ≡ given (record { datalink = code; records = length xs })
      accepted code xs f = let w = filled-walk f in rw (f.header, w.0, w.1)

-- a file is accepted exactly when its header is valid and whole records fill the rest
pub accepted-exactly : AcceptedExactly
accepted-exactly = accepted-file

-- the walk over an accepted file meets exactly its records
pub walk_meets : WalkMeets
walk_meets s code xs f =
    let w = filled-walk s f in
    record { meets = along f.records (omega arith) refl; passed = w.0; ends = w.1 }
  where
    along : {p q : ℕ} {xs : List (Placed Record)} → Tiles (WholeAt s) p xs q → header_length ≤ p → q ≡ length s
        → Meets s p xs
    along (none {p}) l e = at_the_end (record_end s p l e)
    along (one {p} {q} {r} {a} w t) l e =
        on_record (whole_read s p a q w) (whole-packet s p a q w) (along t (omega arith) e)

-- surveys one after another end as one survey with the summed number does
pub surveys_in_turn : SurveysInTurn
unfolding survey_at
surveys_in_turn s n ms p = surveys_add header_length (length s) (record_step s) (forward s) n ms p

-- a survey's count is the number of records between its start and the place that it reached
pub survey_counts_passed : SurveyCountsPassed
unfolding survey_at
survey_counts_passed s p n l h =
    record {
      answer = (survey-from header_length (length s) (record_step s) n p).inside l h;
      reached = count_is_passed header_length (length s) (record_step s) n p;
    }

-- a survey allowed as many records as the input has octets never says "more"
pub never_more : NeverMore
unfolding survey_at
never_more s p l h =
    rw ((survey-from header_length (length s) (record_step s) (length s) p).inside l h)
    (never_more-walk header_length (length s) (record_step s) (forward s) (length s) p l h (omega arith))

-- nor does the walk behind a valid header
pub walk_never_more : WalkNeverMore
unfolding file_walk
walk_never_more s code h =
    let long : header_length ≤ length s = header-long s code h in
    never_more-walk header_length (length s) (record_step s) (forward s) (length s) header_length (omega arith) long (omega arith)

-- no walk from a place where a record may start gives 17, since every place that it comes to is such a place
inside_never_17 : (s : List ℕ) (n p q : ℕ) → header_length ≤ p → p ≤ length s
    → ending (walk (record_step s) n p) ≡ broken record_place q → ⊥
inside_never_17 s n p q l h e =
    let b = broken_inside header_length (length s) (record_step s) (forward s) n p l h record_place q e in
    never b.0 b.1 b.2 (seen s b.0) b.3
  where
    never : (p : ℕ) → header_length ≤ p → p ≤ length s → {x : Answer Found} → Seen s p x → step_on s x ≡ refused record_place q → ⊥
    never p l i (refusal f) e = f l i (cc)
    never p l i (last f) e = let z : ◌≡◌ {A = ℕ} 0 1 = cc in omega arith
    never p l i (lying f a k) e = let z : ◌≡◌ {A = ℕ} 0 1 = cc in omega arith

-- so the walk behind a valid header never does
pub walk_never_17 : WalkNever17
unfolding file_walk
walk_never_17 s code q h = inside_never_17 s (length s) header_length q (omega arith) (header-long s code h)

-- nor does the check of a file
pub check_never_17 : CheckNever17
unfolding file_at
check_never_17 s q = under (header_at s) refl
  where
    over : (code : ℕ) → header_at s ≡ given code → (e : Ending) → ending (file_walk s) ≡ e
        → file_of code (length (items (file_walk s))) e ≡ refused record_place q → ⊥
    over code h (ended r) e g = let z : ◌≡◌ {A = ℕ} 0 1 = cc in omega arith
    over code h (more r) e g = rw e at (walk_never_more s code h)
    over code h (broken n r) e g = walk_never_17 s code q h (cc)

    under : (x : Answer ℕ) → header_at s ≡ x → behind s x ≡ refused record_place q → ⊥
    under (refused n r) h g = header_never_17 s q (cc)
    under (given code) h g = over code h (ending (file_walk s)) refl g

-- and a survey gives it exactly when no record may start at its place
pub survey-place-exactly : SurveyPlaceExactly
unfolding survey_at
survey-place-exactly s p n = (found (dec_le header_length p) (dec_le p (length s)), at_place.outside)
  where
    at_place : SurveyFrom header_length (length s) (record_step s) n p
    at_place = survey-from header_length (length s) (record_step s) n p

    found : Dec (header_length ≤ p) → Dec (p ≤ length s)
        → survey header_length (length s) (record_step s) n p ≡ record { count = 0; ending = broken record_place p }
        → (p < header_length) ⊎ (length s < p)
    found (no l) h e = inl (lt_of_not-le l)
    found (yes l) (no h) e = inr (lt_of_not-le h)
    found (yes l) (yes h) e = absurd (inside_never_17 s n p p l h (ap (λ (v : Survey). v.ending) (sym (at_place.inside l h) ∙ e)))
