-- The range in which a budget is caught.
use Rattle.std.specs.Prelude.{ℕ, ◌+◌, ◌-◌, ◌≤◌, ◌<◌, List}
use Rattle.model.specs.Frames.{Frame}
use Rattle.certifier.specs.Frame.{reserve_at}

-- a frame that has a, with a least lo and a most hi, followed by the frames from i on: its budget is from good to
-- top. Where good and top are the same number, it is the budget
pub record Between (e : ℕ) (fs : List Frame) (i a lo hi good top : ℕ) : Type 0 where
  pub low : lo ≤ good
  pub ordered : good ≤ top
  pub high : top ≤ hi
  pub have : top ≤ a
  -- good leaves the reserve of one level below it
  pub taken : lo < good → good + reserve_at e fs i (good - 1) ≤ a
  -- one unit more than top leaves too little
  pub refused : top < hi → a ≤ top + reserve_at e fs i top
