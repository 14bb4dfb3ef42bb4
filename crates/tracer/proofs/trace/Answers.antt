-- Past the tests nothing is refused: charges and losses are the trace's, and the verdict on the charges is the
-- definition's.
use Rattle.std.proofs.Common.{sym, ap}
use Rattle.model.specs.Request.{request}
use Rattle.model.specs.Refusals.{is_none}
use Rattle.tracer.proofs.Meaning as law
use Rattle.tracer.proofs.trace.Goals as goal

pub returns : goal.returns
returns c =
    let a = c.args in
    law.traced (request a.figures a.harvest.now) a.budgets.now a.charges.now c.fill.new.charges a.losses.now
    c.fill.new.losses c.judge.result (sym (ap is_none c.in_ok-check_trace.ensures))
    c.fill.ensures.charges_after c.fill.ensures.losses_after c.judge.ensures
