-- The plan and the needed capacity of a request as computing definitions. That they are what demands 2 and 3 ask is
-- proved (proofs/).
use Rattle.std.specs.Prelude.{List, [], ◌∷◌, ℕ, ◌+◌, ◌-◌, max, eqb}
use Rattle.model.specs.declared.Store.{Store}
use Rattle.model.specs.Choice.{pick}
use Rattle.model.specs.Limits.{no_upper_end}
use Rattle.model.specs.Request.{Bounds, Request, first_bounds, later_bounds, most_energy}
use Rattle.model.specs.Frames.{Frame, plan, requirement}

-- the most of a frame; m, which no budget is above, where there is no upper end
abbrev pub most_of : ℕ → Bounds → ℕ
most_of m w = pick (eqb w.most no_upper_end) m w.most

-- the charge rule as frames: the most that a frame with harvest h can spend and carry on with a store of capacity c
abbrev pub ceiling_of : ℕ → ℕ → ℕ
ceiling_of c h = c + h

-- and the least capacity with which it can spend and carry on n
abbrev pub capacity_for : ℕ → ℕ → ℕ
capacity_for n h = n - h

-- a frame with harvest h and bounds w
abbrev pub frame_of : Store → ℕ → Bounds → Frame
frame_of s h w =
    record {
      inflow = h;
      ceiling = ceiling_of s.capacity h;
      drain = 0;
      least = w.least;
      most = most_of s.energy w;
    }

unfoldable pub frames_of : Store → List ℕ → List Bounds → List Frame
frames_of s [] ws = []
frames_of s (h ∷ hs) ws = frame_of s h (first_bounds ws) ∷ frames_of s hs (later_bounds ws)

-- what the frames of a request share, were its capacity c
abbrev pub store_of : Request → ℕ → Store
store_of r c = record { capacity = c; energy = most_energy r }

-- the frames of a request with a store of capacity c
abbrev pub frames_with : Request → ℕ → List Frame
frames_with r c = frames_of (store_of r c) r.harvest r.bounds

-- the plan
unfoldable pub plan_of : Request → List ℕ
plan_of r = plan r.figures.end r.figures.start (frames_with r r.figures.capacity)

-- a capacity that no charge exceeds, nor the end charge
abbrev pub boundless : Request → ℕ
boundless r = most_energy r + r.figures.end

-- the plan without limit
unfoldable pub open_plan : Request → List ℕ
open_plan r = plan r.figures.end r.figures.start (frames_with r (boundless r))

-- the least capacity whose ceilings hold, in each frame, its drain, its budget and what is required after it; that the
-- store can hold the end charge is the needed capacity's to say
unfoldable pub peak : ℕ → List Frame → List ℕ → ℕ
peak e [] bs = 0
peak e (f ∷ fs) [] = 0
peak e (f ∷ fs) (b ∷ bs) = max (capacity_for (f.drain + b + requirement e fs bs) f.inflow) (peak e fs bs)

-- the needed capacity: the greatest of the start, the end and what the frames of the plan without limit ask for
unfoldable pub needed_of : Request → ℕ
needed_of r = max r.figures.start
    (max r.figures.end (peak r.figures.end (frames_with r (boundless r)) (open_plan r)))
