-- The refusal is the rule's in either case, and the shift the one due beside it.
use Rattle.std.proofs.Common.{◌≡◌, Err, rules}
use Rattle.model.specs.Answer.{asked, leasts_lent, mosts_lent}
use Rattle.shift.proofs.Started.{start_given, start_refused}
use Rattle.shift.proofs.start.Goals as goal

pub returns-in_err-check_start : goal.returns-in_err-check_start
returns-in_err-check_start c =
    let q = c.args.request in
    let e : c.from_residual.result ≡ Err c.in_err-check_start.field-0.0 = search rules in
    rw e (start_refused (asked q) (leasts_lent q) (mosts_lent q) c.in_err-check_start.field-0.0 c.in_err-check_start.ensures)

pub returns : goal.returns
returns c =
    let q = c.args.request in
    start_given (asked q) (leasts_lent q) (mosts_lent q) c.fresh.result c.in_ok-check_start.ensures c.fresh.ensures
