-- What trying levels gives.
use Rattle.std.specs.Prelude.{◌≡◌, Bool, true, length}
use Rattle.certifier.specs.declared.draft.Draft.{Draft}
use Rattle.certifier.specs.Says.{PlannedIn}

-- the budgets of a draft are the plan
abbrev pub Planned : Draft → Type 0
Planned d = PlannedIn d.frames d.start d.budgets.now

-- d is left as d': the same frames and lists, as long as they were, and, where the answer is true, the plan as budgets
pub record TriedOn (d d' : Draft) (b : Bool) : Type 0 where
  pub same_frames : d'.frames ≡ d.frames
  pub same_start : d'.start ≡ d.start
  pub same_after : d'.after.ghost_name ≡ d.after.ghost_name
  pub same_budgets : d'.budgets.ghost_name ≡ d.budgets.ghost_name
  pub after_long : length d'.after.now ≡ length d.after.now
  pub budgets_long : length d'.budgets.now ≡ length d.budgets.now
  pub ok : b ≡ true → Planned d'
