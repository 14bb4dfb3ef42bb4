-- What drawing a level from a charge shows about its reserve, and the range in which a search has caught a budget.
use Rattle.std.specs.Prelude.{◌≡◌, Bool, true, false, List, ℕ, ◌≤◌, ◌<◌}
use Rattle.model.specs.Frames.{Frame}
use Rattle.certifier.specs.declared.frames.Frames.{Frames}
use Rattle.certifier.specs.Frame.{reserve_at}
use Rattle.certifier.specs.Caught.{Between}
use Rattle.certifier.specs.Says.{frames_in}
use Rattle.search.specs.declared.place.Place.{Place}
use Rattle.search.specs.declared.place.Range.{Range}

-- level l drawn from charge y at the frames from i on: it goes on, or it fails
pub record Scanned (e : ℕ) (fs : List Frame) (i y l : ℕ) (ok : Bool) : Type 0 where
  pub goes : ok ≡ true → reserve_at e fs i l ≤ y
  pub fails : ok ≡ false → y < reserve_at e fs i l

-- whether level l goes on from charge y at frame i on
abbrev pub ScannedAt : Frames → ℕ → ℕ → ℕ → Bool → Type 0
ScannedAt fs i y l ok = Scanned fs.rule.end (frames_in fs) i y l ok

-- g holds the budget at a place
abbrev pub BetweenAt : Place → Range → Type 0
BetweenAt p g = Between p.frames.rule.end (frames_in p.frames) p.next p.have p.frame.least p.frame.most g.good g.top

-- b is the budget at a place
abbrev pub CaughtAt : Place → ℕ → Type 0
CaughtAt p b = Between p.frames.rule.end (frames_in p.frames) p.next p.have p.frame.least p.frame.most b b
