-- Where something is feasible, the plan can be drawn (`startable`).
use Rattle.leveller.proofs.Start as law
use Rattle.leveller.proofs.task.Task.with.Goals as goal

pub invariant_of-result : goal.invariant_of-result
invariant_of-result c =
    record {
      startable =
          rw (c.of.ensures.0, c.of.ensures.1, c.requires.1)
          (law.startable c.args.request c.args.capacity c.requires.0);
      few = rw c.of.ensures.1 c.requires.0.few;
    }
