-- The certificate: a level for each frame, from which the plan's budgets can be read off.
use Rattle.std.specs.Prelude.{◌≡◌, List, [], ◌∷◌, ℕ, ◌+◌, ◌-◌, ◌≤◌, ◌<◌, ◌^◌, min, drop}
use Rattle.model.specs.Frames.{Frame, room, draw, reserve}

-- what a frame followed by fs must have to draw a level and leave its reserve
abbrev pub need : ℕ → ℕ → Frame → List Frame → ℕ
need e l f fs = f.drain + draw f l + reserve e l fs

-- below the highest level there is; at that one every frame draws its most
abbrev pub Bounded : ℕ → Type 0
Bounded l = l + 1 < 2 ^ 32

-- a frame with level l, followed by fs: it can hold what the level needs, and what comes in is not above the need
-- of one level more; a is what the level reserves after it
pub record Steady (e : ℕ) (f : Frame) (fs : List Frame) (l a : ℕ) : Type 0 where
  pub after : a ≡ reserve e l fs
  pub rich : need e l f fs ≤ f.ceiling
  pub poor : Bounded l → min f.ceiling f.inflow ≤ need e (l + 1) f fs

-- the level goes from l to n before a frame with level n: it rises where the store is empty, and falls where it is
-- full
pub record Turn (e : ℕ) (f : Frame) (fs : List Frame) (l n : ℕ) : Type 0 where
  pub empty : l < n → reserve e n (f ∷ fs) ≡ 0
  pub full : n < l → f.ceiling - f.inflow ≤ reserve e (n + 1) (f ∷ fs)

-- a frame with level l before frames fs with levels ls
abbrev pub Turns : ℕ → List Frame → ℕ → List ℕ → Type 0
Turns e [] l ls = Unit
Turns e (f ∷ fs) l [] = ⊥
Turns e (f ∷ fs) l (n ∷ ls) = Turn e f fs l n

-- levels ls for frames fs, with what each reserves after its frame
abbrev pub Course : ℕ → List Frame → List ℕ → List ℕ → Type 0
Course e [] ls rs = Unit
Course e (f ∷ fs) [] rs = ⊥
Course e (f ∷ fs) (l ∷ ls) [] = ⊥
Course e (f ∷ fs) (l ∷ ls) (a ∷ rs) = Steady e f fs l a × Turns e fs l ls × Course e fs ls rs

-- from charge y a frame has what its level needs, and not more than the need of one level more
pub record Within (e y : ℕ) (f : Frame) (fs : List Frame) (l : ℕ) : Type 0 where
  pub rich : need e l f fs ≤ room f y
  pub poor : Bounded l → room f y ≤ need e (l + 1) f fs

-- the first of the frames with its level
abbrev pub Starts : ℕ → ℕ → List Frame → List ℕ → Type 0
Starts e y [] ls = Unit
Starts e y (f ∷ fs) [] = ⊥
Starts e y (f ∷ fs) (l ∷ ls) = Within e y f fs l

-- both from frame i on
unfoldable pub CourseFrom : ℕ → List Frame → ℕ → List ℕ → List ℕ → Type 0
CourseFrom e fs i ls rs = Course e (drop i fs) (drop i ls) (drop i rs)

unfoldable pub StartsFrom : ℕ → ℕ → List Frame → ℕ → List ℕ → Type 0
StartsFrom e y fs i ls = Starts e y (drop i fs) (drop i ls)

-- the levels from frame i on are certified for charge y there
pub record Certified (e y : ℕ) (fs : List Frame) (i : ℕ) (ls rs : List ℕ) : Type 0 where
  pub starts : StartsFrom e y fs i ls
  pub course : CourseFrom e fs i ls rs
