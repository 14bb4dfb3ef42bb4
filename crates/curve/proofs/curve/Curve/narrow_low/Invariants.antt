-- The knots stay as they are.
use Rattle.std.proofs.Common.{◌≡◌, ◌≤◌}
use Rattle.curve.proofs.curve.Curve.narrow_low.Given as goal

abbrev pub invariant-loop-i : goal.invariant-loop-i
invariant-loop-i l = (l.self.knots.end ≡ l.i-end) × (l.self.knots.first ≤ l.i) × (l.i ≤ l.i-end)
