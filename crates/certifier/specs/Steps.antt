-- The plan written frame by frame.
use Rattle.std.specs.Prelude.{◌≡◌, List, ◌∷◌, ◌++◌, ℕ, ◌+◌, ◌<◌, ◌^◌, drop, take}
use Rattle.model.specs.Frames.{Frame, Feasible, plan}

-- the plan of the frames from i on can be drawn from charge y
unfoldable pub Able : ℕ → List Frame → ℕ → ℕ → Type 0
Able e fs i y = Feasible e y (drop i fs) (plan e y (drop i fs))

-- from charge y at frame i the plan's budget there is b, and the plan goes on from charge z
pub record Stepped (e : ℕ) (fs : List Frame) (i y b z : ℕ) : Type 0 where
  pub is : plan e y (drop i fs) ≡ b ∷ plan e z (drop (i + 1) fs)
  pub fits : b < 2 ^ 32
  pub able : Able e fs (i + 1) z

-- the budgets written before frame i, with the plan from there on, from charge y, are the whole
pub record Written (e : ℕ) (fs : List Frame) (i y : ℕ) (bs whole : List ℕ) : Type 0 where
  pub is : take i bs ++ plan e y (drop i fs) ≡ whole
