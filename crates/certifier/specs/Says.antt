-- What the functions promise, in terms of their structs.
use Rattle.std.specs.Prelude.{◌≡◌, List, ℕ, ◌+◌, ◌-◌, ◌≤◌, ◌<◌, ◌^◌, min, length}
use Rattle.model.specs.Frames.{Frame}
use Rattle.certifier.specs.declared.frame.At.{At}
use Rattle.certifier.specs.declared.weight.Weight.{Weight}
use Rattle.certifier.specs.Frame.{drawn, Read}
use Rattle.certifier.specs.Course.{Bounded, Certified}
use Rattle.certifier.specs.declared.frames.Frames.{Frames}
pub use Rattle.certifier.specs.Readable.{frames, Small, Readable, Startable, PlannedAt, Lent}

-- the frames that are read
abbrev pub frames_in : Frames → List Frame
frames_in fs = frames fs.rule fs.lists.harvest.now fs.lists.least.now fs.lists.most.now

-- how many they are
abbrev pub frame_count : Frames → ℕ
frame_count fs = length fs.lists.harvest.now

-- f is frame i
abbrev pub ReadIn : Frames → ℕ → At → Type 0
ReadIn fs i f = Read (frames_in fs) i f.inflow f.ceiling f.drain f.least f.most

-- reserves of 32 bits
pub record Light (w : Weight) : Type 0 where
  pub low_fits : w.low < 2 ^ 32
  pub high_fits : w.high < 2 ^ 32

-- from a frame at level l to what w holds: where the levels differ, the store is empty or full
pub record TurnedAt (l : ℕ) (w : Weight) (low high : ℕ) : Type 0 where
  pub rise : l < w.level → (w.low ≡ 0) × (low ≡ 0) × (high ≡ 0)
  pub fall : w.level < l → (w.gap ≤ w.high) × (low ≡ w.high) × (high ≡ w.high)
  pub same : l ≡ w.level → (low ≡ w.low) × (high ≡ w.high)

-- v is what frame f at level l, put before what w holds, reserves
pub record WeighedAt (f : At) (l : ℕ) (w v : Weight) : Type 0 where
  pub turned : TurnedAt l w v.after v.above
  pub level_is : v.level ≡ l
  pub rich : f.drain + drawn f.least f.most l + v.after ≤ f.ceiling
  pub poor : Bounded l → min f.ceiling f.inflow ≤ f.drain + drawn f.least f.most (l + 1) + v.above
  pub gap_is : v.gap ≡ f.ceiling - f.inflow
  pub low_is : v.low ≡ min (f.ceiling - f.inflow) (f.drain + drawn f.least f.most l + v.after - f.inflow)
  pub high_is : v.high ≡ min (f.ceiling - f.inflow)
      (f.drain + drawn f.least f.most (l + 1) + v.above - f.inflow)

-- the start charge y is at least the reserve of w's level, and not above that of one level more unless the store is
-- full
pub record StartsAt (y : ℕ) (w : Weight) : Type 0 where
  pub rich : w.low ≤ y
  pub poor : Bounded w.level → min y w.gap ≤ w.high

-- the levels are certified for the start charge y; rs is what they reserve after each frame
abbrev pub CertifiedIn : Frames → ℕ → List ℕ → List ℕ → Type 0
CertifiedIn fs y levels rs = Certified fs.rule.end y (frames_in fs) 0 levels rs

-- b is what a frame with a least and a most spends of a at level l, which reserves v after it
pub record Spent (least most a l v b : ℕ) : Type 0 where
  pub at_least : l < least → b ≡ least
  pub at_most : least ≤ l → most ≤ l → b ≡ most
  pub more : least ≤ l → l < most → l + v < a → b ≡ l + 1
  pub level : least ≤ l → l < most → a ≤ l + v → b ≡ l

-- the frames, with a start charge and two lists, as a guess is lent them
abbrev pub LentIn : Frames → ℕ → List ℕ → List ℕ → Type 0
LentIn fs y rs bs = Lent fs.rule fs.lists.harvest.now fs.lists.least.now fs.lists.most.now y rs bs

-- the budgets are the plan
abbrev pub PlannedIn : Frames → ℕ → List ℕ → Type 0
PlannedIn fs y bs = PlannedAt fs.rule fs.lists.harvest.now fs.lists.least.now fs.lists.most.now y bs
