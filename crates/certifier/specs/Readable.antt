-- What frames by a rule are, and what reading and planning them asks.
use Rattle.std.specs.Prelude.{◌≡◌, List, ℕ, ◌≤◌, ◌<◌, ◌^◌, length}
use Rattle.model.specs.Frames.{Frame, plan}
use Rattle.model.specs.Request.{bounds_of}
use Rattle.model.specs.Plan.{frames_of}
use Rattle.certifier.specs.declared.frame.Rule.{Rule}
use Rattle.certifier.specs.Steps.{Able}

-- the frames of harvests, leasts and mosts by a rule
abbrev pub frames : Rule → List ℕ → List ℕ → List ℕ → List Frame
frames r hs ls ms = frames_of r.store hs (bounds_of ls ms)

-- a rule whose figures are of 32 bits
pub record Small (r : Rule) : Type 0 where
  pub capacity_fits : r.store.capacity < 2 ^ 32
  pub end_fits : r.end < 2 ^ 32
  pub energy_fits : r.store.energy < 2 ^ 32

-- frames that can be read by a rule: a least and a most for each harvest
pub record Readable (r : Rule) (harvest least most : List ℕ) : Type 0 where
  pub small : Small r
  pub leasts_long : length least ≡ length harvest
  pub mosts_long : length most ≡ length harvest

-- frames that can be planned by a rule from a start charge: the plan can be drawn
pub record Startable (r : Rule) (harvest least most : List ℕ) (start : ℕ) : Type 0 where
  pub readable : Readable r harvest least most
  pub start_fits : start < 2 ^ 32
  pub able : Able r.end (frames r harvest least most) 0 start

-- the budgets are the plan
abbrev pub PlannedAt : Rule → List ℕ → List ℕ → List ℕ → ℕ → List ℕ → Type 0
PlannedAt r hs ls ms start bs = bs ≡ plan r.end start (frames r hs ls ms)

-- what a guess is lent: a request that can be planned, a list for what is reserved after each frame, and one for
-- levels and budgets
abbrev pub Lent : Rule → List ℕ → List ℕ → List ℕ → ℕ → List ℕ → List ℕ → Type 0
Lent r hs ls ms start rs bs = Startable r hs ls ms start × (length bs ≡ length hs) × (length hs ≤ length rs)
