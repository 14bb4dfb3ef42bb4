-- A request: its figures (capacity, start charge, end charge), and for each frame a harvest, a least and a most.
use Rattle.std.specs.Prelude.{◌≡◌, List, [], ◌∷◌, ℕ, ◌+◌, length, get_or}
use Rattle.model.specs.declared.Figures.{Figures}
use Rattle.model.specs.Limits.{no_upper_end}

-- capacity, start charge and end charge
abbrev pub figures : ℕ → ℕ → ℕ → Figures
figures c s e = record { capacity = c; start = s; end = e }

-- the least and the most budget of a frame
pub record Bounds : Type 0 where
  pub least : ℕ
  pub most : ℕ

abbrev pub bounds : ℕ → ℕ → Bounds
bounds l m = record { least = l; most = m }

-- absent bounds: 0 and no upper end
abbrev pub absent : Bounds
absent = bounds 0 no_upper_end

-- the bounds are one for each frame; where their list ends early they are absent
pub record Request : Type 0 where
  pub figures : Figures
  pub harvest : List ℕ
  pub bounds : List Bounds

-- a request without bounds
abbrev pub request : Figures → List ℕ → Request
request f hs = record { figures = f; harvest = hs; bounds = [] }

-- leasts and mosts, frame by frame
abbrev pub bounds_of : List ℕ → List ℕ → List Bounds
bounds_of [] ms = []
bounds_of (l ∷ ls) [] = []
bounds_of (l ∷ ls) (m ∷ ms) = bounds l m ∷ bounds_of ls ms

-- a request with a list of leasts and one of mosts
abbrev pub bounded_request : Figures → List ℕ → List ℕ → List ℕ → Request
bounded_request f hs ls ms = record { figures = f; harvest = hs; bounds = bounds_of ls ms }

-- the bounds of the first frame, and those of the frames after it
abbrev pub first_bounds : List Bounds → Bounds
first_bounds [] = absent
first_bounds (w ∷ ws) = w

abbrev pub later_bounds : List Bounds → List Bounds
later_bounds [] = []
later_bounds (w ∷ ws) = ws

-- frame i, counted from 0, has no most
abbrev pub NoMost : Request → ℕ → Type 0
NoMost r i = (get_or r.bounds i absent).most ≡ no_upper_end

-- the leasts of frames with harvests hs, as budgets
abbrev pub leasts_from : List ℕ → List Bounds → List ℕ
leasts_from [] ws = []
leasts_from (h ∷ hs) ws = (first_bounds ws).least ∷ leasts_from hs (later_bounds ws)

abbrev pub leasts : Request → List ℕ
leasts r = leasts_from r.harvest r.bounds

-- the number of frames, document 01's K
abbrev pub frame_count : Request → ℕ
frame_count r = length r.harvest

-- the sum of a list
abbrev pub total : List ℕ → ℕ
total [] = 0
total (x ∷ xs) = x + total xs

-- start charge plus all harvest: no budget of a feasible assignment is larger
abbrev pub most_energy : Request → ℕ
most_energy r = r.figures.start + total r.harvest

-- what start and harvests have to come to, whatever the budgets: the end charge
abbrev pub due : Request → ℕ
due r = r.figures.end

-- what budgets take out of the store, frame by frame: themselves
abbrev pub withdrawn : Request → List ℕ → List ℕ
withdrawn r bs = bs

-- the same request with another capacity
abbrev pub with_capacity : Request → ℕ → Request
with_capacity r c = record r { figures = record r.figures { capacity = c } }
