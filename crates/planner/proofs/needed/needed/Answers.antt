-- Refused: the refusal that was found is the definition's. Otherwise the inner function gives the definition's
-- capacity.
use Rattle.std.proofs.Common.{rules, ◌≡◌, refl, Err}
use Rattle.model.specs.Answer.{asked, leasts_lent, mosts_lent}
use Rattle.model.specs.Refusals.{none}
use Rattle.planner.proofs.Entries as law
use Rattle.planner.proofs.needed.needed.Goals as goal

pub returns-in_err-check_needed : goal.returns-in_err-check_needed
returns-in_err-check_needed c =
    let a = c.args.request in
    let e = c.in_err-check_needed.field-0.0 in
    let handed_on : c.from_residual.result ≡ Err e = search rules in
    rw handed_on (law.needed_refused (asked a) (leasts_lent a) (mosts_lent a) e c.in_err-check_needed.ensures)

pub returns : goal.returns
returns c =
    let a = c.args.request in
    law.needed_given (asked a) (leasts_lent a) (mosts_lent a) c.needed_capacity.result none
    c.in_ok-check_needed.ensures refl c.needed_capacity.ensures
