-- What planning gives, in terms of its tasks.
use Rattle.std.specs.Prelude.{◌≡◌, ℕ}
use Rattle.model.specs.declared.Request.{Request as Asked}
use Rattle.model.specs.Answer.{asked}
use Rattle.model.specs.Frames.{plan}
use Rattle.model.specs.Plan.{peak}
use Rattle.certifier.specs.Says.{frames_in}
use Rattle.leveller.specs.declared.task.Task.{Task}
use Rattle.leveller.specs.Plan.{rule_of}

-- t is that request, were its capacity c
abbrev pub TaskOf : Asked → ℕ → Task → Type 0
TaskOf a c t = (t.frames.rule ≡ rule_of (asked a) c) × (t.frames.lists ≡ a.lists) × (t.start ≡ a.figures.start)

-- r is the least capacity that the frames of the plan ask for
abbrev pub PeakOf : Task → ℕ → Type 0
PeakOf t r =
    let fs = frames_in t.frames in
    r ≡ peak t.frames.rule.end fs (plan t.frames.rule.end t.start fs)
