-- A plan has a budget for each frame.
use mathlib.Core.Path.{◌≡◌, refl, ap, ◌∙◌}
use mathlib.Core.List.{List, [], ◌∷◌}
use Prim.Native.Nat.{ℕ, suc}
use lib.ListN.{length}
use Rattle.model.specs.declared.Store.{Store}
use Rattle.model.specs.Request.{Bounds, Request, later_bounds, frame_count}
use Rattle.model.specs.Frames.{Frame, left, budget, plan}
use Rattle.model.specs.Plan.{store_of, frames_of, frames_with, plan_of}

-- there is a frame for each harvest
pub frames_length : (s : Store) (hs : List ℕ) (ws : List Bounds) → length (frames_of s hs ws) ≡ length hs
unfolding frames_of
frames_length s [] ws = refl
frames_length s (h ∷ hs) ws = ap suc (frames_length s hs (later_bounds ws))

-- and a budget for each frame
plan_length : (e y : ℕ) (fs : List Frame) → length (plan e y fs) ≡ length fs
unfolding plan
plan_length e y [] = refl
plan_length e y (f ∷ fs) = ap suc (plan_length e (left f y (budget e y f fs)) fs)

pub plan_of_length : (r : Request) → length (plan_of r) ≡ frame_count r
unfolding plan_of
plan_of_length r =
    plan_length r.figures.end r.figures.start (frames_with r r.figures.capacity)
    ∙ frames_length (store_of r r.figures.capacity) r.harvest r.bounds
