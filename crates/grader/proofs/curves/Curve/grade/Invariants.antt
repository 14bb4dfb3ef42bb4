-- The sum so far and the grade of what is left stay the whole, and few budgets are worth less than 2^64.
use Rattle.std.proofs.Common.{◌≡◌, ◌+◌, ◌*◌, ◌≤◌, ◌^◌, drop}
use Rattle.model.specs.Curves.{grade}
use Rattle.grader.specs.Curves.{curve_of}
use Rattle.grader.proofs.curves.Curve.grade.Given as goal

abbrev pub invariant-loop-budget : goal.invariant-loop-budget
invariant-loop-budget l =
    (l.sum ≤ 24 * 2 ^ 32 * l.budget-index)
    × (l.sum + grade (curve_of l.self) (drop l.budget-index l.budgets) ≡ grade (curve_of l.self) l.budgets)
