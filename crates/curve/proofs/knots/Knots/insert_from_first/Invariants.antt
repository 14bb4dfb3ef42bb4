-- The free place is just below the first knot or further up, and each knot is passed once.
use Rattle.std.proofs.Common.{◌≡◌, ◌+◌, ◌-◌, ◌<◌, ◌≤◌}
use Rattle.curve.proofs.knots.Knots.insert_from_first.Given as goal

abbrev pub invariant-loop-gap : goal.invariant-loop-gap
invariant-loop-gap l = (0 < l.self.first) × (l.self.first ≤ l.gap + 1) × (l.gap < l.self.end)

abbrev pub decreases-loop-gap : goal.decreases-loop-gap
decreases-loop-gap l = l.self.end - l.gap

abbrev pub invariant-loop-i : goal.invariant-loop-i
invariant-loop-i l = (0 < l.self.first) × (l.self.first ≤ l.gap + 1) × (l.gap + 1 ≡ l.i) × (l.self.end ≡ l.i-end) ×
    (l.i ≤ l.self.end)
