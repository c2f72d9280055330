-- What holds of walks and surveys over any step that goes forward. Proofs: proofs/Walks.antt.
use Rattle.std.specs.Prelude.{ℕ, ◌+◌, ◌-◌, ◌≤◌, ◌<◌, ◌≡◌, ◌⊎◌, List, [], ◌∷◌, length}
use Rattle.refusals.specs.Refusals.{Answer, refused, given, record_place}
use Rattle.tiling.specs.Tiling.{Next, end, whole, Placed, Ending, ended, more, broken, Walk, items, ending, walk, Survey, survey, Tiles}

-- a step that goes forward: items lie at places from `low` on, each ends after it starts and inside the input, and the
-- input's end, and no other place, is found as the end
pub record Forward {A : Type 0} (low high : ℕ) (step : ℕ → Answer (Next A)) : Type 0 where
  pub starts : {p q : ℕ} {a : A} → step p ≡ given (whole a q) → low ≤ p
  pub onward : {p q : ℕ} {a : A} → step p ≡ given (whole a q) → p < q
  pub inside : {p q : ℕ} {a : A} → step p ≡ given (whole a q) → q ≤ high
  pub at_end : low ≤ high → step high ≡ given end
  pub is_end : {p : ℕ} → step p ≡ given end → p ≡ high

-- the item found by a step lies whole from its place to the next
abbrev pub Found : {A : Type 0} → (ℕ → Answer (Next A)) → ℕ → A → ℕ → Type 0
Found step p a q = step p ≡ given (whole a q)

-- an ending is that of a place: it names the place, or its refusal is the one found there
abbrev pub EndsAt : {A : Type 0} → (ℕ → Answer (Next A)) → Ending → ℕ → Type 0
EndsAt step (ended q) p = q ≡ p
EndsAt step (more q) p = q ≡ p
EndsAt step (broken n q) p = step p ≡ refused n q

-- what a walk passes tiles the input from its start to the place that it reached
pub record Reached {A : Type 0} (step : ℕ → Answer (Next A)) (p : ℕ) (w : Walk A) : Type 0 where
  pub place : ℕ
  pub tiles : Tiles (Found step) p (items w) place
  pub ends : EndsAt step (ending w) place

-- an ending that is not "more"
abbrev pub Final : Ending → Type 0
Final (ended q) = Unit {0}
Final (more q) = ⊥
Final (broken n q) = Unit {0}

-- surveys one after another, each from the place the last reached, until one is refused; their counts added
abbrev pub then : ℕ → (ℕ → Survey) → Ending → Survey
then c next (ended q) = record { count = c + (next q).count; ending = (next q).ending }
then c next (more q) = record { count = c + (next q).count; ending = (next q).ending }
then c next (broken n q) = record { count = c; ending = broken n q }

abbrev pub in_turn : {A : Type 0} → (low high : ℕ) → (ℕ → Answer (Next A)) → ℕ → List ℕ → ℕ → Survey
in_turn low high step n [] p = survey low high step n p
in_turn low high step n (m ∷ ms) p =
    then (survey low high step n p).count (in_turn low high step m ms) (survey low high step n p).ending

-- the sum of the surveys' numbers
abbrev pub sum : ℕ → List ℕ → ℕ
sum n [] = n
sum n (m ∷ ms) = n + sum m ms

-- a survey from a place where no item can start is refused with 17 at that place and counts nothing; from any other it
-- counts the items that the walk passes, and ends as the walk does
pub record SurveyFrom {A : Type 0} (low high : ℕ) (step : ℕ → Answer (Next A)) (n p : ℕ) : Type 0 where
  pub outside : (p < low) ⊎ (high < p) → survey low high step n p ≡ record { count = 0; ending = broken record_place p }
  pub inside : low ≤ p → p ≤ high
      → survey low high step n p ≡ record { count = length (items (walk step n p)); ending = ending (walk step n p) }

module _ {A : Type 0} (low high : ℕ) (step : ℕ → Answer (Next A)) where
  abbrev pub SurveyFromAnyPlace : Type 0
  SurveyFromAnyPlace = (n p : ℕ) → SurveyFrom low high step n p

  -- the count is the number of items between the start and the place reached
  abbrev pub CountIsPassed : Type 0
  CountIsPassed = (n p : ℕ) → Reached step p (walk step n p)

  -- a walk allowed as many items as there are octets left never says "more"
  abbrev pub NeverMore : Type 0
  NeverMore = Forward low high step → (n p : ℕ) → low ≤ p → p ≤ high → high - p ≤ n → Final (ending (walk step n p))

  -- surveys one after another end as one survey with the summed number does, and count as many
  abbrev pub SurveysAdd : Type 0
  SurveysAdd = Forward low high step → (n : ℕ) (ms : List ℕ) (p : ℕ)
      → in_turn low high step n ms p ≡ survey low high step (sum n ms) p

  -- items that tile the input from a place to its end are what a walk from there passes, and then it ends
  abbrev pub TilesWalk : Type 0
  TilesWalk = Forward low high step → (p : ℕ) (xs : List (Placed A)) (n : ℕ) → low ≤ high → Tiles (Found step) p xs high
      → length xs ≤ n
      → (items (walk step n p) ≡ xs) × (ending (walk step n p) ≡ ended high)
