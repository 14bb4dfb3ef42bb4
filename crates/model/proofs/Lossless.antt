-- A frame of the plan without a most loses nothing: its budget takes what the store could not.
use mathlib.Core.Path.{◌≡◌, refl, sym, ap, ◌∙◌}
use mathlib.Core.Logic.{⊎_elim}
use mathlib.Core.List.{List, [], ◌∷◌}
use Prim.Native.Nat.{ℕ, zero, suc, ◌+◌, ◌-◌, ◌≤◌, ◌<◌, min}
use native.Mathlib.Nat.{le_refl}
use native.Mathlib.Omega.{arith}
use lib.ListN.{get_or}
use borrow.Author.Tests.{eq-eqb}
use Rattle.model.specs.declared.Store.{Store}
use Rattle.model.specs.Limits.{no_upper_end}
use Rattle.model.specs.Request.{Bounds, Request, absent, NoMost, total}
use Rattle.model.specs.Charge.{frame_end, losses_from, losses}
use Rattle.model.specs.Frames.{Frame, room, left, reserve, budget, plan}
use Rattle.model.specs.Plan.{most_of, store_of, frame_of, frames_of, plan_of}
use Rattle.model.proofs.Order.{le_or_lt}
use Rattle.model.proofs.Budget.{budget_is}
use Rattle.model.proofs.Bridge.{taken, taken_withdrawn}
use Rattle.model.proofs.Lengths.{plan_of_length}

-- a frame whose most is not below what it has carries on no more than the reserve of its budget
left_within_reserve : (e y : ℕ) (f : Frame) (fs : List Frame) → room f y - f.drain ≤ f.most →
    left f y (budget e y f fs) ≤ reserve e (budget e y f fs) fs
left_within_reserve e y f fs h = go (budget e y f fs) (budget_is e y f fs).refused
  where
    a : ℕ
    a = room f y - f.drain

    go : (b : ℕ) → ((x : ℕ) → b ≤ x → x < min f.most a → a ≤ x + reserve e x fs) → left f y b ≤ reserve e b fs
    go b refused =
        ⊎_elim
        (λ (p : a ≤ b). omega arith)
        (λ (p : b < a). omega (arith, refused b (le_refl b) (omega (arith, h))))
        (le_or_lt a b)

-- no reserve of the charge rule's frames is above the capacity
reserve_within : (s : Store) (e l : ℕ) (hs : List ℕ) (ws : List Bounds) → e ≤ s.capacity →
    reserve e l (frames_of s hs ws) ≤ s.capacity
unfolding reserve frames_of
reserve_within s e l [] ws p = p
reserve_within s e l (h ∷ hs) ws p = omega arith

-- where there is no upper end the frame's most is m
most_is : (m : ℕ) (w : Bounds) → w.most ≡ no_upper_end → most_of m w ≡ m
most_is m w p = rw (eq-eqb w.most no_upper_end p) refl

module _ (s : Store) (e : ℕ) (within : e ≤ s.capacity) where
  -- one frame: from charge x, which the frames carry as y, with no more at hand than the energy
  frame_lossless : (x y h : ℕ) (hs : List ℕ) (w : Bounds) (ws : List Bounds) → x ≡ min s.capacity y → x + h ≤ s.energy →
      w.most ≡ no_upper_end →
      (frame_end s.capacity x h ((frame_of s h w).drain + budget e y (frame_of s h w) (frames_of s hs ws))).lost ≡ 0
  frame_lossless x y h hs w ws p q k =
      let f = frame_of s h w in
      let b = budget e y f (frames_of s hs ws) in
      omega (
        arith,
        most_is s.energy w k,
        left_within_reserve e y f (frames_of s hs ws) (omega (arith, most_is s.energy w k)),
        reserve_within s e b hs ws within,
      )

  -- any frame, by its index
  frames_lossless : (x y : ℕ) (hs : List ℕ) (ws : List Bounds) (i : ℕ) → x ≡ min s.capacity y →
      x + total hs ≤ s.energy →
      (get_or ws i absent).most ≡ no_upper_end →
      get_or (losses_from s.capacity x hs (taken (frames_of s hs ws) (plan e y (frames_of s hs ws)))) i 0 ≡ 0
  unfolding plan frames_of
  frames_lossless x y [] ws i p q k = refl
  frames_lossless x y (h ∷ hs) [] zero p q k = frame_lossless x y h hs absent [] p (omega arith) k
  frames_lossless x y (h ∷ hs) (w ∷ ws) zero p q k = frame_lossless x y h hs w ws p (omega arith) k
  frames_lossless x y (h ∷ hs) [] (suc i) p q k =
      let f = frame_of s h absent in
      let b = budget e y f (frames_of s hs []) in
      frames_lossless (frame_end s.capacity x h (f.drain + b)).charge (left f y b) hs [] i (omega arith)
      (omega arith) k
  frames_lossless x y (h ∷ hs) (w ∷ ws) (suc i) p q k =
      let f = frame_of s h w in
      let b = budget e y f (frames_of s hs ws) in
      frames_lossless (frame_end s.capacity x h (f.drain + b)).charge (left f y b) hs ws i (omega arith)
      (omega arith) k

-- so a frame of the plan without a most loses nothing
pub plan_lossless : (r : Request) → r.figures.start ≤ r.figures.capacity → r.figures.end ≤ r.figures.capacity →
    (i : ℕ) → NoMost r i → get_or (losses r (plan_of r)) i 0 ≡ 0
unfolding plan_of
plan_lossless r s e i k =
    ap (λ (bs : List ℕ). get_or (losses_from r.figures.capacity r.figures.start r.harvest bs) i 0)
    (sym (taken_withdrawn r r.figures.capacity (plan_of r) (plan_of_length r)))
    ∙ frames_lossless (store_of r r.figures.capacity) r.figures.end e r.figures.start r.figures.start r.harvest r.bounds i
    (omega arith) (omega arith) k
