-- More charge never hurts: what is feasible from a charge is feasible from a larger one.
use mathlib.Core.List.{List, [], ◌∷◌}
use Prim.Native.Nat.{ℕ, ◌≤◌}
use native.Mathlib.Omega.{arith}
use Rattle.model.specs.Frames.{Frame, left, Feasible}

pub more : (e y y' : ℕ) (fs : List Frame) (bs : List ℕ) → y ≤ y' → Feasible e y fs bs → Feasible e y' fs bs
more e y y' [] [] h k = omega arith
more e y y' [] (b ∷ bs) h k = absurd k
more e y y' (f ∷ fs) [] h k = absurd k
more e y y' (f ∷ fs) (b ∷ bs) h k = (
  record { low = k.0.low; high = k.0.high; have = omega arith },
  more e (left f y b) (left f y' b) fs bs
      (omega arith) k.1,
)
