-- The first refusal is handed on; past it nothing is refused, and the sums are what the budgets earn.
use Rattle.std.proofs.Common.{rules, ◌≡◌, Err}
use Rattle.grader.proofs.Meaning as law
use Rattle.grader.proofs.grade.Goals as goal

pub returns-in_err-check_frames : goal.returns-in_err-check_frames
returns-in_err-check_frames c =
    let e = c.in_err-check_frames.field-0.0 in
    let handed_on : c.from_residual.result ≡ Err e = search rules in
    rw handed_on (law.refused c.args.budgets.now e c.in_err-check_frames.ensures)

pub returns : goal.returns
returns c = law.graded c.args.budgets.now c.sums_of.result c.in_ok-check_frames.ensures c.sums_of.ensures
