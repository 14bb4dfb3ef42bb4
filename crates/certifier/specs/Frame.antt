-- The frames of a request from a number on, and one frame read field by field.
use Rattle.std.specs.Prelude.{◌≡◌, List, ◌∷◌, ℕ, ◌+◌, ◌-◌, ◌≤◌, ◌<◌, ◌^◌, min, max, drop}
use Rattle.model.specs.Frames.{Frame, reserve}

-- a frame of an inflow, a ceiling, a drain, a least and a most
abbrev pub frame : ℕ → ℕ → ℕ → ℕ → ℕ → Frame
frame h m d lo hi = record { inflow = h; ceiling = m; drain = d; least = lo; most = hi }

-- what a frame with a least and a most takes at a level
abbrev pub drawn : ℕ → ℕ → ℕ → ℕ
drawn lo hi l = max lo (min hi l)

-- the reserve of a level for the frames from number i on
unfoldable pub reserve_at : ℕ → List Frame → ℕ → ℕ → ℕ
reserve_at e fs i l = reserve e l (drop i fs)

-- a frame's figures leave room for sums of 64 bits, and what its store can take over is of 32 bits
pub record Plain (h m d lo hi : ℕ) : Type 0 where
  pub inflow_fits : h < 2 ^ 32
  pub ceiling_fits : m ≤ 2 ^ 33
  pub store_fits : m - h < 2 ^ 32
  pub drain_fits : d < 2 ^ 32
  pub least_fits : lo < 2 ^ 32
  pub most_fits : hi < 2 ^ 32

-- frame number i of the list is this one
pub record Read (fs : List Frame) (i h m d lo hi : ℕ) : Type 0 where
  pub is : drop i fs ≡ frame h m d lo hi ∷ drop (i + 1) fs
  pub plain : Plain h m d lo hi
