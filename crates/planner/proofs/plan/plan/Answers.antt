-- Refused: the refusal that was found is the definition's, and nothing is written. Otherwise the inner function
-- writes the plan.
use Rattle.std.proofs.Common.{rules, ◌≡◌, refl, Err}
use Rattle.model.specs.Answer.{asked, leasts_lent, mosts_lent}
use Rattle.model.specs.Refusals.{none}
use Rattle.planner.proofs.Entries as law
use Rattle.planner.proofs.plan.plan.Goals as goal

pub returns-in_err-check_plan : goal.returns-in_err-check_plan
returns-in_err-check_plan c =
    let a = c.args.request in
    let e = c.in_err-check_plan.field-0.0 in
    let handed_on : c.from_residual.result ≡ Err e = search rules in
    rw handed_on
    (law.plan_refused (asked a) (leasts_lent a) (mosts_lent a) c.args.budgets.now e c.in_err-check_plan.ensures)

pub returns : goal.returns
returns c =
    let a = c.args.request in
    law.plan_given (asked a) (leasts_lent a) (mosts_lent a) c.args.budgets.now c.write_plan.new.budgets
    none c.in_ok-check_plan.ensures refl c.write_plan.ensures
