-- The free place is just above the last knot or further down, and each knot is passed once.
use Rattle.std.proofs.Common.{◌≡◌, ◌<◌, ◌≤◌, length}
use Rattle.curve.proofs.knots.Knots.insert_from_end.Given as goal

abbrev pub invariant-loop-self : goal.invariant-loop-self
invariant-loop-self l = (l.self.first ≤ l.gap) × (l.gap ≤ l.self.end) × (l.self.end < length l.self.list.now)

abbrev pub decreases-loop-self : goal.decreases-loop-self
decreases-loop-self l = l.gap

abbrev pub invariant-loop-i : goal.invariant-loop-i
invariant-loop-i l = (l.self.first ≤ l.gap) × (l.gap ≤ l.self.end) × (l.self.end < length l.self.list.now) × (l.gap ≡ l.i) ×
    (l.self.first ≡ l.i-start)
