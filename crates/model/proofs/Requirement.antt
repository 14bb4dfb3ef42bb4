-- Feasibility by requirements: a list is feasible from a charge at least its requirement if every frame's ceiling
-- holds what is still required.
use mathlib.Core.List.{List, [], ◌∷◌}
use Prim.Native.Nat.{ℕ, ◌+◌, ◌-◌, ◌≤◌, min}
use native.Mathlib.Omega.{arith}
use Rattle.model.specs.Frames.{Frame, left, Feasible, requirement}

-- every budget is within its bounds, and every ceiling holds the drain, the budget and the requirement of the rest
pub record FitsFrame (f : Frame) (b need : ℕ) : Type 0 where
  pub low : f.least ≤ b
  pub high : b ≤ f.most
  pub holds : f.drain + b + need ≤ f.ceiling

abbrev pub Fits : ℕ → List Frame → List ℕ → Type 0
Fits e [] [] = Unit {0}
Fits e [] (b ∷ bs) = ⊥
Fits e (f ∷ fs) [] = ⊥
Fits e (f ∷ fs) (b ∷ bs) = FitsFrame f b (requirement e fs bs) × Fits e fs bs

fits_numbers : (m y i d b q : ℕ) → d + b ≤ min m (y + i) → q ≤ min m (y + i) - (d + b) →
    (d + b + q ≤ m) × (d + b + q - i ≤ y)
fits_numbers m y i d b q p h = (omega arith, omega arith)

pub feasible_fits : (e y : ℕ) (fs : List Frame) (bs : List ℕ) → Feasible e y fs bs →
    Fits e fs bs × (requirement e fs bs ≤ y)
unfolding requirement
feasible_fits e y [] [] k = (tt, k)
feasible_fits e y [] (b ∷ bs) k = absurd k
feasible_fits e y (f ∷ fs) [] k = absurd k
feasible_fits e y (f ∷ fs) (b ∷ bs) k =
    let i = feasible_fits e (left f y b) fs bs k.1 in
    let n = fits_numbers f.ceiling y f.inflow f.drain b (requirement e fs bs) k.0.have i.1 in
    ((record { low = k.0.low; high = k.0.high; holds = n.0 }, i.0), n.1)

feasible_numbers : (m y i d b q : ℕ) → d + b + q ≤ m → d + b + q - i ≤ y →
    (d + b ≤ min m (y + i)) × (q ≤ min m (y + i) - (d + b))
feasible_numbers m y i d b q p h = (omega arith, omega arith)

pub fits_feasible : (e y : ℕ) (fs : List Frame) (bs : List ℕ) → Fits e fs bs → requirement e fs bs ≤ y →
    Feasible e y fs bs
unfolding requirement
fits_feasible e y [] [] k h = h
fits_feasible e y [] (b ∷ bs) k h = absurd k
fits_feasible e y (f ∷ fs) [] k h = absurd k
fits_feasible e y (f ∷ fs) (b ∷ bs) k h =
    let n = feasible_numbers f.ceiling y f.inflow f.drain b (requirement e fs bs) k.0.holds h in
    (record { low = k.0.low; high = k.0.high; have = n.0 }, fits_feasible e (left f y b) fs bs k.1 n.1)
