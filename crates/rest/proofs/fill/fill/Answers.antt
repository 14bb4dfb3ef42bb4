-- Refusals 9 and 11 decide: with one of them the list is cleared, else the planner has what it asks and plans.
use Rattle.std.proofs.Common.{length}
use Rattle.rest.proofs.Filled as law
use Rattle.rest.proofs.fill.fill.Goals as goal

pub returns-in-Err-clause-ending : goal.returns-in-Err-clause-ending
returns-in-Err-clause-ending c =
    let q = c.requires in
    let o = c.args.whole.one_each in
    law.ends_short c.args.whole.request q.fillable o.0 o.1 c.in-Err.unreachable c.in-Err.ensures c.p-missing.result
    c.p-missing.ensures

pub returns-in-Err-clause-written : goal.returns-in-Err-clause-written
returns-in-Err-clause-written c =
    let q = c.requires in
    let o = c.args.whole.one_each in
    law.fill_short c.args.whole.request q.fillable o.0 o.1 c.in-Err.unreachable c.in-Err.ensures
    (length c.args.budgets.now) c.fill.new.self q.budgets_len (c.fill.ensures.after (λ y e. e))

pub of-requires : goal.of-requires
of-requires c =
    let q = c.requires in
    let o = c.args.whole.one_each in
    law.fill_ready c.args.whole.request q.fillable o.0 o.1 c.in_default.ensures

pub returns-clause-ending : goal.returns-clause-ending
returns-clause-ending c =
    let q = c.requires in
    let o = c.args.whole.one_each in
    law.ends_full c.args.whole.request q.fillable o.0 o.1 c.in_default.ensures

pub returns-clause-written : goal.returns-clause-written
returns-clause-written c =
    let q = c.requires in
    let o = c.args.whole.one_each in
    law.fill_full c.args.whole.request q.fillable o.0 o.1 c.plan_into.new.budgets c.in_default.ensures
    (rw (c.of.ensures.0, c.of.ensures.1, c.of.ensures.2) at c.plan_into.ensures)
