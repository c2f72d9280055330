-- Items end to end in an input, over any step: the walk, the tiling and the survey (document 01's terms, "BTSnoop").
use Rattle.std.specs.Prelude.{ℕ, zero, suc, cond, ◌&&◌, List, [], ◌∷◌, length, leb}
use Rattle.refusals.specs.Refusals.{Answer, refused, given, record_place}

-- what a step finds at a place that it does not refuse: the input's end, or a whole item and the place after it
pub data Next (A : Type 0) : Type 0 where
  end : Next A
  whole : A → (next : ℕ) → Next A

-- an item with the place where it starts
pub record Placed (A : Type 0) : Type 0 where
  pub place : ℕ
  pub value : A

-- how a walk ends: at the input's end; elsewhere with its number of items used up; or at an item that is refused
pub data Ending : Type 0 where
  ended : (reached : ℕ) → Ending
  more : (reached : ℕ) → Ending
  broken : (number place : ℕ) → Ending

-- a walk: the items that it passes, each at its place, and then its ending
pub data Walk (A : Type 0) : Type 0 where
  stop : Ending → Walk A
  pass : (place : ℕ) → A → Walk A → Walk A

-- the items passed, in order
abbrev pub items : {A : Type 0} → Walk A → List (Placed A)
items (stop e) = []
items (pass p a w) = record { place = p; value = a } ∷ items w

-- the ending
abbrev pub ending : {A : Type 0} → Walk A → Ending
ending (stop e) = e
ending (pass p a w) = ending w

-- with no item left to pass: "end" at the input's end, otherwise "more"
abbrev pub used : {A : Type 0} → ℕ → Answer (Next A) → Walk A
used p (refused n q) = stop (more p)
used p (given end) = stop (ended p)
used p (given (whole a q)) = stop (more p)

-- with items left to pass: the refusal, the input's end, or the item passed and the walk from the place after it
abbrev pub onward : {A : Type 0} → ℕ → (ℕ → Walk A) → Answer (Next A) → Walk A
onward p rest (refused n q) = stop (broken n q)
onward p rest (given end) = stop (ended p)
onward p rest (given (whole a q)) = pass p a (rest q)

-- the walk from a place that passes as many whole items as lie there, at most the given number
abbrev pub walk : {A : Type 0} → (ℕ → Answer (Next A)) → ℕ → ℕ → Walk A
walk step zero p = used p (step p)
walk step (suc n) p = onward p (walk step n) (step p)

-- a survey: how many items it passed, and how it ended. On a refusal the count is of the whole items before it.
pub record Survey : Type 0 where
  pub count : ℕ
  pub ending : Ending

abbrev pub survey_of : {A : Type 0} → Walk A → Survey
survey_of w = record { count = length (items w); ending = ending w }

-- the survey from a place with a number of items it may pass. 17: the place is below the first item's or past the end.
unfoldable pub survey : {A : Type 0} → (low high : ℕ) → (ℕ → Answer (Next A)) → ℕ → ℕ → Survey
survey low high step n p =
    cond (leb low p && leb p high) (survey_of (walk step n p)) (record { count = 0; ending = broken record_place p })

-- items that lie end to end from one place up to another, for any meaning of "this item lies whole from here to there"
pub data Tiles {A : Type 0} (Lies : ℕ → A → ℕ → Type 0) : ℕ → List (Placed A) → ℕ → Type 0 where
  none : {p : ℕ} → Tiles Lies p [] p
  one : {p q r : ℕ} {a : A} {xs : List (Placed A)} → Lies p a q → Tiles Lies q xs r → Tiles Lies p (record { place = p; value = a } ∷ xs) r
