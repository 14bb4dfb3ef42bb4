-- The part lies one entry on for each recorded frame where it is given, else at the beginning: the indices told.
use Rattle.energy.proofs.Part.{part_given, part_refused}
use Rattle.energy.proofs.shifts.energy_shift_rest_part.Goals as goal

pub returns-in-Ok : goal.returns-in-Ok
returns-in-Ok c =
    let a = c.args in
    part_given a.shift a.budgets.now a.budgets.ref_ptr c.in-Ok.part c.in-Ok.ensures c.default.result c.default.ensures

pub returns-in-Err : goal.returns-in-Err
returns-in-Err c =
    let a = c.args in
    part_refused a.shift a.budgets.now a.budgets.ref_ptr c.in-Err.refusal c.in-Err.ensures c.into.result c.into.ensures
