-- Laws of walks and surveys over any step that goes forward.
-- Assumes nothing.
use Prim.Native.Nat.{ℕ, zero, suc, ◌+◌, ◌-◌, ◌≤◌, ◌<◌}
use mathlib.Core.Path.{◌≡◌, refl, sym, ap, ◌∙◌}
use mathlib.Core.Bool.{cond, ◌&&◌, and-false}
use mathlib.Core.Logic.{◌⊎◌, inl, inr}
use mathlib.Core.List.{List, [], ◌∷◌}
use native.Mathlib.Omega.{arith}
use native.Mathlib.Nat.{zero-add, suc-add, lt_of_not-le}
use lib.ListN.{length}
use lib.Dec.{leb}
use borrow.Author.Tests.{le-leb, lt-leb}
use native.Mathlib.Decide.{dec_le}
use Rattle.refusals.specs.Refusals.{Answer, refused, given, record_place}
use Rattle.tiling.specs.Tiling.{Next, end, whole, Placed, Ending, ended, more, broken, stop, items, ending, used, onward, walk, Survey, survey_of, survey, Tiles, none, one}
use Rattle.tiling.specs.Claims.{Forward, Found, EndsAt, Reached, Final, then, in_turn, sum, SurveyFromAnyPlace, CountIsPassed, NeverMore, SurveysAdd, TilesWalk}

-- an ending names a place that was reached
abbrev Names : Ending → ℕ → Type 0
Names (ended r) q = r ≡ q
Names (more r) q = r ≡ q
Names (broken n r) q = ⊥

-- one item more
abbrev bump : Survey → Survey
bump s = record { count = suc s.count; ending = s.ending }

then-bump : (c : ℕ) (next : ℕ → Survey) (e : Ending) → bump (then c next e) ≡ then (suc c) next e
then-bump c next (ended q) = ap (λ (k : ℕ). record { count = k; ending = (next q).ending }) (sym (suc-add c (next q).count))
then-bump c next (more q) = ap (λ (k : ℕ). record { count = k; ending = (next q).ending }) (sym (suc-add c (next q).count))
then-bump c next (broken n q) = refl

then-zero : (next : ℕ → Survey) (q : ℕ) → record { count = 0 + (next q).count; ending = (next q).ending } ≡ next q
then-zero next q = ap (λ (k : ℕ). record { count = k; ending = (next q).ending }) (zero-add (next q).count)

then_cong : (c : ℕ) (f g : ℕ → Survey) (e : Ending) → ((q : ℕ) → Names e q → f q ≡ g q) → then c f e ≡ then c g e
then_cong c f g (ended q) h = ap (λ (s : Survey). record { count = c + s.count; ending = s.ending }) (h q refl)
then_cong c f g (more q) h = ap (λ (s : Survey). record { count = c + s.count; ending = s.ending }) (h q refl)
then_cong c f g (broken n q) h = refl

module _ {A : Type 0} (low high : ℕ) (step : ℕ → Answer (Next A)) where
  -- a survey is refused from a place where no item can start, and that of the walk from any other
  pub survey-from : SurveyFromAnyPlace low high step
  unfolding survey
  survey-from n p = record { outside = outside; inside = λ l h. rw (le-leb low p l, le-leb p high h) }
    where
      outside : (p < low) ⊎ (high < p)
          → cond (leb low p && leb p high) (survey_of (walk step n p)) (record { count = 0; ending = broken record_place p })
          ≡ record { count = 0; ending = broken record_place p }
      outside (inl l) = rw (lt-leb low p l)
      outside (inr h) = rw (lt-leb p high h, and-false (leb low p))

  -- the count is the number of items between the start and the place reached
  pub count_is_passed : CountIsPassed low high step
  count_is_passed zero p = go (step p) refl
    where
      go : (x : Answer (Next A)) → step p ≡ x → Reached step p (used p x)
      go (refused n q) e = record { place = p; tiles = none; ends = refl }
      go (given end) e = record { place = p; tiles = none; ends = refl }
      go (given (whole a q)) e = record { place = p; tiles = none; ends = refl }
  count_is_passed (suc n) p = go (count_is_passed n) (step p) refl
    where
      go : ((q : ℕ) → Reached step q (walk step n q)) → (x : Answer (Next A)) → step p ≡ x → Reached step p (onward p (walk step n) x)
      go rest (refused k q) e = record { place = p; tiles = none; ends = e }
      go rest (given end) e = record { place = p; tiles = none; ends = refl }
      go rest (given (whole a q)) e = record { place = (rest q).place; tiles = one e (rest q).tiles; ends = (rest q).ends }

  -- at the input's end a walk ends at once, whatever its number
  walk_at_end : (n p : ℕ) → step p ≡ given end → walk step n p ≡ stop (ended p)
  walk_at_end zero p e = ap (used p) e
  walk_at_end (suc n) p e = ap (onward p (walk step n)) e

  -- a walk of two numbers added is the walk of the first, and then of the second from the place reached
  walk_add : (m n p : ℕ) → survey_of (walk step (m + n) p)
      ≡ then (length (items (walk step m p))) (λ (q : ℕ). survey_of (walk step n q)) (ending (walk step m p))
  walk_add zero n p = ap (λ (k : ℕ). survey_of (walk step k p)) (zero-add n) ∙ go (step p)
    where
      next : ℕ → Survey
      next q = survey_of (walk step n q)

      go : (x : Answer (Next A)) → next p ≡ then (length (items (used p x))) next (ending (used p x))
      go (refused k q) = sym (then-zero next p)
      go (given end) = sym (then-zero next p)
      go (given (whole a q)) = sym (then-zero next p)
  walk_add (suc m) n p = ap (λ (k : ℕ). survey_of (walk step k p)) (suc-add m n) ∙ go (walk_add m n) (step p) refl
    where
      next : ℕ → Survey
      next q = survey_of (walk step n q)

      go : ((q : ℕ) → survey_of (walk step (m + n) q) ≡ then (length (items (walk step m q))) next (ending (walk step m q)))
          → (x : Answer (Next A)) → step p ≡ x
          → survey_of (onward p (walk step (m + n)) x) ≡ then (length (items (onward p (walk step m) x))) next (ending (onward p (walk step m) x))
      go rest (refused k q) e = refl
      go rest (given end) e = sym (then-zero next p ∙ ap survey_of (walk_at_end n p e))
      go rest (given (whole a q)) e = ap bump (rest q) ∙ then-bump (length (items (walk step m q))) next (ending (walk step m q))

  module _ (fw : Forward low high step) where
    -- a walk allowed as many items as there are octets left never says "more"
    walk-final : (n p : ℕ) → low ≤ p → p ≤ high → high - p ≤ n → Final (ending (walk step n p))
    walk-final zero p l h left = go (step p) refl
      where
        here : p ≡ high
        here = omega arith

        at_end : step p ≡ given end
        at_end = rw here (fw.at_end (omega arith))

        go : (x : Answer (Next A)) → step p ≡ x → Final (ending (used p x))
        go (refused n q) e = let z : ◌≡◌ {A = ℕ} 0 1 = cc at_end in absurd (omega arith)
        go (given end) e = tt
        go (given (whole a q)) e = let z : ◌≡◌ {A = ℕ} 0 1 = cc at_end in absurd (omega arith)
    walk-final (suc n) p l h left = go (walk-final n) (step p) refl
      where
        go : ((q : ℕ) → low ≤ q → q ≤ high → high - q ≤ n → Final (ending (walk step n q)))
            → (x : Answer (Next A)) → step p ≡ x → Final (ending (onward p (walk step n) x))
        go rest (refused k q) e = tt
        go rest (given end) e = tt
        go rest (given (whole a q)) e =
            let after : p < q = fw.onward e in
            rest q (omega arith) (fw.inside e) (omega arith)

    -- items end to end from a place inside lie inside
    tiles_inside : {p q : ℕ} {xs : List (Placed A)} → Tiles (Found step) p xs q → low ≤ p → p ≤ high → (low ≤ q) × (q ≤ high)
    tiles_inside none l h = (l, h)
    tiles_inside (one e t) l h = let after = fw.onward e in tiles_inside t (omega arith) (fw.inside e)

    -- a place that a walk reached is one that a survey may start from
    reached_inside : (n p : ℕ) → low ≤ p → p ≤ high → (r : ℕ) → Names (ending (walk step n p)) r → (low ≤ r) × (r ≤ high)
    reached_inside n p l h r = go (ending (walk step n p)) w.ends
      where
        w : Reached step p (walk step n p)
        w = count_is_passed n p

        go : (e : Ending) → EndsAt step e w.place → Names e r → (low ≤ r) × (r ≤ high)
        go (ended q) e m = let i = tiles_inside w.tiles l h in omega arith
        go (more q) e m = let i = tiles_inside w.tiles l h in omega arith
        go (broken k q) e m = absurd m

    -- a walk that is broken met its refusal at a place inside
    pub broken_inside : (n p : ℕ) → low ≤ p → p ≤ high → (k q : ℕ) → ending (walk step n p) ≡ broken k q
        → (r : ℕ) × (low ≤ r) × (r ≤ high) × (step r ≡ refused k q)
    broken_inside n p l h k q e =
        let w : Reached step p (walk step n p) = count_is_passed n p in
        let i = tiles_inside w.tiles l h in
        (w.place, i.0, i.1, rw e at w.ends)

    -- surveys one after another end as one survey with the summed number does
    surveys-sum : (n : ℕ) (ms : List ℕ) (p : ℕ) → in_turn low high step n ms p ≡ survey low high step (sum n ms) p
    surveys-sum n [] p = refl
    surveys-sum n (m ∷ ms) p = go (surveys-sum m ms) (dec_le low p) (dec_le p high)
      where
        N : ℕ
        N = sum m ms

        next : ℕ → Survey
        next = in_turn low high step m ms

        go : ((q : ℕ) → next q ≡ survey low high step N q) → Dec (low ≤ p) → Dec (p ≤ high)
            → then (survey low high step n p).count next (survey low high step n p).ending ≡ survey low high step (n + N) p
        go rest (yes l) (yes h) =
            let inside : (q : ℕ) → Names (ending (walk step n p)) q → next q ≡ survey_of (walk step N q) =
            λ q named. let i = reached_inside n p l h q named in rest q ∙ (survey-from N q).inside i.0 i.1 in
            rw ((survey-from n p).inside l h, (survey-from (n + N) p).inside l h)
            (then_cong (length (items (walk step n p))) next (λ (q : ℕ). survey_of (walk step N q)) (ending (walk step n p)) inside
            ∙ sym (walk_add n N p))
        go rest (yes l) (no h) =
            rw ((survey-from n p).outside (inr (lt_of_not-le h)), (survey-from (n + N) p).outside (inr (lt_of_not-le h)))
        go rest (no l) h =
            rw ((survey-from n p).outside (inl (lt_of_not-le l)), (survey-from (n + N) p).outside (inl (lt_of_not-le l)))

  -- a walk allowed as many items as there are octets left never says "more"
  pub never_more : NeverMore low high step
  never_more fw = walk-final fw

  -- surveys one after another end as one survey with the summed number does
  pub surveys_add : SurveysAdd low high step
  surveys_add fw = surveys-sum fw

  -- items that tile the input from a place to its end are what a walk from there passes, and then it ends
  pub tiles-walk : TilesWalk low high step
  tiles-walk fw p xs n l t few = along t n (fw.at_end l) few
    where
      along : {p r : ℕ} {xs : List (Placed A)} → Tiles (Found step) p xs r → (n : ℕ) → step r ≡ given end → length xs ≤ n
          → (items (walk step n p) ≡ xs) × (ending (walk step n p) ≡ ended r)
      along (none {p}) n e few = (ap items (walk_at_end n p e), ap ending (walk_at_end n p e))
      along (one h t) zero e few = absurd (omega arith)
      along (one {p} {q} {r} {a} {xs} h t) (suc n) e few =
          let rest = along t n e (omega arith) in
          rw (h, rest.0, rest.1) (refl, refl)
