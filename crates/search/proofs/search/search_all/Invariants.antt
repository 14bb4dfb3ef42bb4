-- Each budget caught is a step of the plan (`stepped`), so what is written, with the plan of the rest, stays the
-- plan.
use Rattle.certifier.specs.Says.{frames_in, frame_count}
use Rattle.certifier.proofs.Steps.{Writing}
use Rattle.search.proofs.search.search_all.Given as goal

abbrev pub invariant-loop-i : goal.invariant-loop-i
invariant-loop-i l =
    Writing l.frames.rule.end (frames_in l.frames) (frame_count l.frames) l.start l.i l.y l.budgets
