-- The theory's general frame: any ceiling, drain, least and most. Every charge rule is a way to turn a request into
-- frames.
use Rattle.std.specs.Prelude.{true, false, List, [], ◌∷◌, ℕ, zero, suc, ◌+◌, ◌-◌, ◌≤◌, min, max, leb}

pub record Frame : Type 0 where
  pub inflow : ℕ
  pub ceiling : ℕ
  pub drain : ℕ
  pub least : ℕ
  pub most : ℕ

-- what a frame can spend or carry on, from a carried charge y
abbrev pub room : Frame → ℕ → ℕ
room f y = min f.ceiling (y + f.inflow)

-- what is carried on after the drain and a budget b
abbrev pub left : Frame → ℕ → ℕ → ℕ
left f y b = room f y - (f.drain + b)

pub record Allowed (f : Frame) (y b : ℕ) : Type 0 where
  pub low : f.least ≤ b
  pub high : b ≤ f.most
  pub have : f.drain + b ≤ room f y

-- budgets that can be drawn from charge y and leave at least e
abbrev pub Feasible : ℕ → ℕ → List Frame → List ℕ → Type 0
Feasible e y [] [] = e ≤ y
Feasible e y [] (b ∷ bs) = ⊥
Feasible e y (f ∷ fs) [] = ⊥
Feasible e y (f ∷ fs) (b ∷ bs) = Allowed f y b × Feasible e (left f y b) fs bs

-- what a frame takes at a level
abbrev pub draw : Frame → ℕ → ℕ
draw f l = max f.least (min f.most l)

-- the least charge from which drawing a level can go on until the store is full, or until the end charge is met
unfoldable pub reserve : ℕ → ℕ → List Frame → ℕ
reserve e l [] = e
reserve e l (f ∷ fs) = min (f.ceiling - f.inflow) (f.drain + draw f l + reserve e l fs - f.inflow)

-- the largest budget from lo to lo + n that leaves the reserve of one level below it, of what a frame has (a); lo if
-- none does
unfoldable pub largest : ℕ → List Frame → ℕ → ℕ → ℕ → ℕ
largest e fs a lo zero = lo
largest e fs a lo (suc n) =
    elim (leb (lo + suc n + reserve e (lo + n) fs) a) [ true ↦ lo + suc n | false ↦ largest e fs a lo n ]

-- the plan's budget of frame f, followed by fs, from charge y
unfoldable pub budget : ℕ → ℕ → Frame → List Frame → ℕ
budget e y f fs =
    let a = room f y - f.drain in
    largest e fs a f.least (min f.most a - f.least)

-- the plan of a list of frames from charge y, to end with at least e
unfoldable pub plan : ℕ → ℕ → List Frame → List ℕ
plan e y [] = []
plan e y (f ∷ fs) = let b = budget e y f fs in b ∷ plan e (left f y b) fs

-- what a list of budgets serves at a level: each budget counts up to that level
unfoldable pub served : ℕ → List ℕ → ℕ
served l [] = 0
served l (b ∷ bs) = min b l + served l bs

-- the least charge from which the budgets are feasible without ceilings
unfoldable pub requirement : ℕ → List Frame → List ℕ → ℕ
requirement e [] bs = e
requirement e (f ∷ fs) [] = e
requirement e (f ∷ fs) (b ∷ bs) = f.drain + b + requirement e fs bs - f.inflow
