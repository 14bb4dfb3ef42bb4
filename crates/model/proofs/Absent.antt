-- Leasts of 0 and mosts without upper end, spelt out for each frame, are no bounds: feasible, plan, needed capacity and
-- reach are those of the request without bounds.
use mathlib.Core.Path.{◌≡◌, refl, ap, sym, ◌∙◌}
use mathlib.Core.Bool.{Bool, true, ◌&&◌}
use mathlib.Core.List.{List, [], ◌∷◌}
use Prim.Native.Nat.{ℕ, zero, suc}
use native.Mathlib.Omega.{arith}
use lib.ListN.{length, replicate}
use borrow.Author.Tests.{le-leb}
use Rattle.model.specs.Limits.{no_upper_end}
use Rattle.model.specs.declared.Figures.{Figures}
use Rattle.model.specs.declared.Store.{Store}
use Rattle.model.specs.Request.{Request, absent, request, bounds_of, bounded_request, leasts_from, leasts}
use Rattle.model.specs.Charge.{all_within, drawable, feasible}
use Rattle.model.specs.Frames.{Frame, plan}
use Rattle.model.specs.Plan.{store_of, boundless, frame_of, frames_of, plan_of, open_plan, needed_of}
use Rattle.model.specs.Refusals.{reachable}
use Rattle.model.proofs.Reach.{reachable_is}

-- the request with absent bounds spelt out
abbrev pub spelt_out : Figures → List ℕ → Request
spelt_out f hs = bounded_request f hs (replicate (length hs) 0) (replicate (length hs) no_upper_end)

-- anything is within them
spelt_within : (n : ℕ) (bs : List ℕ) → all_within (bounds_of (replicate n 0) (replicate n no_upper_end)) bs ≡ true
spelt_within zero bs = refl
spelt_within (suc n) [] = refl
spelt_within (suc n) (b ∷ bs) = rw (le-leb 0 b (omega arith), spelt_within n bs) refl

pub spelt_feasible : (f : Figures) (hs bs : List ℕ) → feasible (spelt_out f hs) bs ≡ feasible (request f hs) bs
spelt_feasible f hs bs =
    ap (λ (t : Bool). t && drawable (request f hs) bs) (spelt_within (length hs) bs)

-- the frames are the same
spelt_frames : (s : Store) (hs : List ℕ) →
    frames_of s hs (bounds_of (replicate (length hs) 0) (replicate (length hs) no_upper_end)) ≡ frames_of s hs []
unfolding frames_of
spelt_frames s [] = refl
spelt_frames s (h ∷ hs) = ap (λ (fs : List Frame). frame_of s h absent ∷ fs) (spelt_frames s hs)

pub spelt_plan : (f : Figures) (hs : List ℕ) → plan_of (spelt_out f hs) ≡ plan_of (request f hs)
unfolding plan_of
spelt_plan f hs = ap (plan f.end f.start) (spelt_frames (store_of (request f hs) f.capacity) hs)

pub spelt_needed : (f : Figures) (hs : List ℕ) → needed_of (spelt_out f hs) ≡ needed_of (request f hs)
unfolding needed_of open_plan
spelt_needed f hs = let r = request f hs in rw (spelt_frames (store_of r (boundless r)) hs) refl

-- and so are refusals 9 and 11
spelt_leasts : (hs : List ℕ) →
    leasts_from hs (bounds_of (replicate (length hs) 0) (replicate (length hs) no_upper_end)) ≡ leasts_from hs []
spelt_leasts [] = refl
spelt_leasts (h ∷ hs) = ap (λ (bs : List ℕ). 0 ∷ bs) (spelt_leasts hs)

pub spelt_reachable : (f : Figures) (hs : List ℕ) → reachable (spelt_out f hs) ≡ reachable (request f hs)
spelt_reachable f hs =
    let r = request f hs in
    reachable_is (spelt_out f hs) ∙ ap (feasible (spelt_out f hs)) (spelt_leasts hs)
    ∙ spelt_feasible f hs (leasts r) ∙ sym (reachable_is r)
