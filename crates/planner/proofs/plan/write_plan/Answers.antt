-- A request that is not refused is within the planning core's limits, and what the core writes is the definition of
-- the plan.
use Rattle.std.proofs.Common.{[], ◌∷◌, length}
use Rattle.model.specs.Answer.{asked, leasts_lent, mosts_lent}
use Rattle.model.specs.Request.{frame_count}
use Rattle.request.proofs.Within.{length_within, plan_within}
use Rattle.planner.proofs.Entries as law
use Rattle.planner.proofs.plan.write_plan.Goals as goal

pub of-requires : goal.of-requires
of-requires c =
    let a = c.args.request in
    let ns = length c.args.budgets.now ∷ [] in
    law.plan_ready a ns (plan_within (asked a) (leasts_lent a) (mosts_lent a) ns c.requires)

pub plan_into-requires : goal.plan_into-requires
plan_into-requires c =
    let a = c.args.request in
    let n = length c.args.budgets.now in
    let within = plan_within (asked a) (leasts_lent a) (mosts_lent a) (n ∷ []) c.requires in
    rw c.of.ensures.1 (length_within (frame_count (asked a)) n within.written.0)

pub returns : goal.returns
returns c =
    law.plan_found (asked c.args.request) c.plan_into.new.budgets
    (rw (c.of.ensures.0, c.of.ensures.1, c.of.ensures.2) at c.plan_into.ensures)
