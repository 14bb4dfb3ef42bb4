-- The knots stay as they are.
use Rattle.std.proofs.Common.{◌≡◌, ◌≤◌}
use Rattle.curve.proofs.curve.Curve.narrow_high.Given as goal

abbrev pub invariant-loop-i : goal.invariant-loop-i
invariant-loop-i l = (l.self.knots.first ≡ l.i-start) × (l.i-start ≤ l.i) × (l.i ≤ l.self.knots.end)
