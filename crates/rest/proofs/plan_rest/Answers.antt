-- Past the refusals a frame is left and every figure is within its limits, so the unrecorded part can be lent on and
-- filled.
use Rattle.std.proofs.Common.{sym, ap, subst}
use Rattle.model.specs.Refusals.{is_none}
use Rattle.rest.specs.Rest.{Fillable, lent}
use Rattle.rest.proofs.Planned.{rest_fillable, rest_filled}
use Rattle.rest.proofs.plan_rest.Goals as goal

pub fill-requires-clause-fillable : goal.fill-requires-clause-fillable
fill-requires-clause-fillable c =
    let a = c.args in
    let clear = sym (ap is_none c.in_ok-check_rest.ensures) in
    subst Fillable (sym c.rest_request-whole.ensures) (rest_fillable a.shift (lent a.outlook) a.budgets.now clear)

pub returns : goal.returns
returns c =
    let a = c.args in
    let clear = sym (ap is_none c.in_ok-check_rest.ensures) in
    rest_filled a.shift (lent a.outlook) a.budgets.now clear _ c.rest_request-whole.ensures
    c.fill.result c.fill.new.budgets c.fill.ensures.ending c.fill.ensures.written
