-- From behind, a frame requires what it takes and what the rest requires, less its inflow: the definition's own
-- recursion.
use Rattle.std.proofs.Common.{◌+◌, ◌-◌, ◌*◌, ◌≤◌, ◌^◌}
use Rattle.certifier.specs.Says.{frames_in, frame_count}
use Rattle.certifier.proofs.Requires as law
use Rattle.certifier.proofs.requirement.peak_requirement.Given as goal

abbrev pub invariant-loop-k : goal.invariant-loop-k
invariant-loop-k l =
    (l.charge ≤ 2 ^ 34 * (frame_count l.frames - l.k + 1)) × law.Required l.frames.rule.end
    (frames_in l.frames) l.budgets l.k l.charge l.top
