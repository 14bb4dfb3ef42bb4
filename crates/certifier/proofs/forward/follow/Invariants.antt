-- At a certified level the frame spends the plan's budget and leaves a charge between the level's reserves
-- (`follows`), so what is written, with the plan of the rest, stays the plan.
use Rattle.certifier.specs.Course.{Certified}
use Rattle.certifier.specs.Says.{frames_in, frame_count}
use Rattle.certifier.proofs.Steps.{Writing}
use Rattle.certifier.proofs.forward.follow.Given as goal

abbrev pub invariant-loop-i : goal.invariant-loop-i
invariant-loop-i l =
    let fs = frames_in l.frames in
    Writing l.frames.rule.end fs (frame_count l.frames) l.start l.i l.y l.budgets
    × Certified l.frames.rule.end l.y fs l.i l.budgets l.after
