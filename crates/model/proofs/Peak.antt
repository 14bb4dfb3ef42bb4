-- Without bounds and without limit the plan requires, after each frame, just the charge that it carries; so the needed
-- capacity is a highest charge. With a most it can be lower: what is carried need not be required.
use mathlib.Core.Path.{◌≡◌, refl, ap₂, ap, ◌∙◌}
use mathlib.Core.Logic.{⊎_elim}
use mathlib.Core.Bool.{true}
use mathlib.Core.List.{List, [], ◌∷◌}
use Prim.Native.Nat.{ℕ, ◌+◌, ◌-◌, ◌≤◌, ◌<◌, min, max}
use native.Mathlib.Nat.{le_refl}
use native.Mathlib.Omega.{arith}
use Rattle.model.specs.declared.Figures.{Figures}
use Rattle.model.specs.declared.Store.{Store}
use Rattle.model.specs.Request.{absent, request, total}
use Rattle.model.specs.Refusals.{reachable_unlimited}
use Rattle.model.specs.Frames.{Frame, room, left, Feasible, reserve, budget, plan, requirement}
use Rattle.model.specs.Plan.{capacity_for, frame_of, frames_of, store_of, frames_with, boundless, open_plan, peak}
use Rattle.model.specs.Plan.{needed_of}
use Rattle.model.proofs.Order.{le_or_lt}
use Rattle.model.proofs.Budget.{IsLargest, budget_is}
use Rattle.model.proofs.Lowest.{carried}
use Rattle.model.proofs.Needed.{open_plan_frames}

-- the greatest number of a list, 0 for none
abbrev pub greatest : List ℕ → ℕ
greatest [] = 0
greatest (x ∷ xs) = max x (greatest xs)

-- the capacity that each frame asks for where all that it has is required: charge and harvest
unfoldable pub asked_for : ℕ → List Frame → List ℕ → List ℕ
asked_for y [] bs = []
asked_for y (f ∷ fs) [] = []
asked_for y (f ∷ fs) (b ∷ bs) = capacity_for (y + f.inflow) f.inflow ∷ asked_for (left f y b) fs bs

-- where the ceiling is not met, all goes into the drain, the budget and what is left
all_there : (f : Frame) (y b : ℕ) → y + f.inflow ≤ f.ceiling → f.drain + b ≤ room f y →
    (f.drain + b + left f y b ≡ y + f.inflow) × (left f y b ≤ y + f.inflow)
all_there f y b o h = (omega arith, omega arith)

module _ (s : Store) (e : ℕ) where
  -- the last frame leaves the end charge and no more
  last_left : (y h : ℕ) → y + h ≤ s.energy → e ≤ left (frame_of s h absent) y (budget e y (frame_of s h absent) []) →
      e ≡ left (frame_of s h absent) y (budget e y (frame_of s h absent) [])
  unfolding reserve
  last_left y h q k =
      let f = frame_of s h absent in
      numbers (budget e y f []) (room f y) f.drain (omega arith) (budget_is e y f []) k
    where
      numbers : (b a d : ℕ) → a ≤ s.energy → IsLargest e [] (a - d) 0 (min s.energy (a - d)) b → e ≤ a - (d + b) →
          e ≡ a - (d + b)
      numbers b a d u i k =
          ⊎_elim
          (λ (v : min s.energy (a - d) ≤ b). omega arith)
          (λ (v : b < min s.energy (a - d)). under (i.refused b (le_refl b) v))
          (le_or_lt (min s.energy (a - d)) b)
        where
          under : a - d ≤ b + e → e ≡ a - (d + b)
          under w = omega arith

  -- the plan requires after a frame all that it carries on
  rest_tight : (y h : ℕ) (hs : List ℕ) → y + total (h ∷ hs) ≤ s.capacity → y + total (h ∷ hs) ≤ s.energy →
      Feasible e y (frames_of s (h ∷ hs) []) (plan e y (frames_of s (h ∷ hs) [])) →
      let z = left (frame_of s h absent) y (budget e y (frame_of s h absent) (frames_of s hs [])) in
      requirement e (frames_of s hs []) (plan e z (frames_of s hs [])) ≡ z
  unfolding frames_of plan requirement
  rest_tight y h [] p q k = last_left y h (omega arith) k.1
  rest_tight y h (x ∷ hs) p q k =
      let f = frame_of s h absent in
      let g = frame_of s x absent in
      let z = left f y (budget e y f (frames_of s (x ∷ hs) [])) in
      let b = budget e z g (frames_of s hs []) in
      let a = all_there f y (budget e y f (frames_of s (x ∷ hs) [])) (omega arith) k.0.have in
      let l : z ≤ y + h = a.1 in
      let i = rest_tight z x hs (omega arith) (omega arith) k.1 in
      back (g.drain + b) x z (requirement e (frames_of s hs []) (plan e (left g z b) (frames_of s hs []))) (left g z b)
      (all_there g z b (omega arith) k.1.0.have).0 i
    where
      back : (d x z q w : ℕ) → d + w ≡ z + x → q ≡ w → d + q - x ≡ z
      back d x z q w p i = omega arith

  peak_asked : (y : ℕ) (hs : List ℕ) → y + total hs ≤ s.capacity → y + total hs ≤ s.energy →
      Feasible e y (frames_of s hs []) (plan e y (frames_of s hs [])) →
      peak e (frames_of s hs []) (plan e y (frames_of s hs [])) ≡ greatest
      (asked_for y (frames_of s hs []) (plan e y (frames_of s hs [])))
  unfolding frames_of plan peak asked_for
  peak_asked y [] p q k = refl
  peak_asked y (h ∷ hs) p q k =
      let f = frame_of s h absent in
      let b = budget e y f (frames_of s hs []) in
      let z = left f y b in
      let a = all_there f y b (omega arith) k.0.have in
      let l : z ≤ y + h = a.1 in
      ap₂ max
      (ap (λ (n : ℕ). capacity_for n h) (ap (λ (n : ℕ). f.drain + b + n) (rest_tight y h hs p q k) ∙ a.0))
      (peak_asked z hs (omega arith) (omega arith) k.1)

  -- what each frame asks for is the charge before it; the last one after is the end charge
  asked_carried : (y : ℕ) (hs : List ℕ) → y + total hs ≤ s.capacity → y + total hs ≤ s.energy →
      Feasible e y (frames_of s hs []) (plan e y (frames_of s hs [])) →
      max y (max e (greatest (asked_for y (frames_of s hs []) (plan e y (frames_of s hs [])))))
      ≡ max y (max e (greatest (carried y (frames_of s hs []) (plan e y (frames_of s hs [])))))
  unfolding frames_of plan asked_for carried
  asked_carried y [] p q k = refl
  asked_carried y (h ∷ []) p q k =
      let f = frame_of s h absent in
      last_one y h (left f y (budget e y f [])) (last_left y h (omega arith) k.1)
    where
      last_one : (y h z : ℕ) → e ≡ z → max y (max e (max (y + h - h) 0)) ≡ max y (max e (max z 0))
      last_one y h z i = omega arith
  asked_carried y (h ∷ (x ∷ hs)) p q k =
      let f = frame_of s h absent in
      let g = frame_of s x absent in
      let z = left f y (budget e y f (frames_of s (x ∷ hs) [])) in
      let b = budget e z g (frames_of s hs []) in
      let ps = plan e (left g z b) (frames_of s hs []) in
      let l : z ≤ y + h = (all_there f y (budget e y f (frames_of s (x ∷ hs) [])) (omega arith) k.0.have).1 in
      one_more y h x z (greatest (asked_for (left g z b) (frames_of s hs []) ps))
      (max (left g z b) (greatest (carried (left g z b) (frames_of s hs []) ps)))
      (asked_carried z (x ∷ hs) (omega arith) (omega arith) k.1)
    where
      one_more : (y h x z a c : ℕ) → max z (max e (max (z + x - x) a)) ≡ max z (max e c) →
          max y (max e (max (y + h - h) (max (z + x - x) a))) ≡ max y (max e (max z c))
      one_more y h x z a c i = omega arith

-- without bounds the needed capacity is the greatest of the start, the end and what the open plan's charges ask for
pub needed_asked : (f : Figures) (hs : List ℕ) →
    let r = request f hs in
    reachable_unlimited r ≡ true →
    needed_of r ≡ max f.start (max f.end (greatest (asked_for f.start (frames_with r (boundless r)) (open_plan r))))
unfolding needed_of open_plan
needed_asked f hs reach =
    let r = request f hs in
    rw (peak_asked (store_of r (boundless r)) f.end f.start hs (omega arith) (omega arith)
    (open_plan_frames r reach)) refl

-- that is of the start, the end and the charges that the open plan carries
pub needed_carried : (f : Figures) (hs : List ℕ) →
    let r = request f hs in
    reachable_unlimited r ≡ true →
    needed_of r ≡ max f.start
    (max f.end (greatest (carried f.start (frames_with r (boundless r)) (open_plan r))))
unfolding open_plan
needed_carried f hs reach =
    let r = request f hs in
    needed_asked f hs reach
    ∙ asked_carried (store_of r (boundless r)) f.end f.start hs (omega arith) (omega arith) (open_plan_frames r reach)
