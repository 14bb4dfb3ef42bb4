-- What planning asks and gives.
use Rattle.std.specs.Prelude.{◌≡◌, List, ℕ, ◌≤◌, ◌<◌, ◌^◌}
use Rattle.model.specs.declared.Request.{Request as Asked}
use Rattle.model.specs.Limits.{max_frames}
use Rattle.model.specs.Request.{Request, frame_count}
use Rattle.model.specs.Answer.{asked, leasts_lent, mosts_lent}
use Rattle.model.specs.Frames.{Feasible}
use Rattle.model.specs.Plan.{store_of, frames_with}
use Rattle.certifier.specs.declared.frame.Rule.{Rule}
use Rattle.certifier.specs.Says.{Small}

-- the rule of request q, were its capacity c
abbrev pub rule_of : Request → ℕ → Rule
rule_of q c = record { store = store_of q c; end = q.figures.end }

-- what the planning of a request asks, were its capacity c: figures of 32 bits, no more frames than there may be, a
-- least and a most for each of them, and that something is feasible
pub record Ready (a : Asked) (c : ℕ) : Type 0 where
  pub small : Small (rule_of (asked a) c)
  pub start_fits : a.figures.start < 2 ^ 32
  pub few : frame_count (asked a) ≤ max_frames
  pub leasts_long : leasts_lent a ≡ frame_count (asked a)
  pub mosts_long : mosts_lent a ≡ frame_count (asked a)
  pub able : (bs : List ℕ) × Feasible a.figures.end a.figures.start (frames_with (asked a) c) bs
