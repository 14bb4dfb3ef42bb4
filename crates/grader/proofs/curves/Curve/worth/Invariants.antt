-- What is earned so far and the bands that are left stay the worth, which is a sum over bands (`worth_bands`); there is
-- one gain more than edges.
use Rattle.std.proofs.Common.{◌≡◌, ◌+◌, length, get_or}
use Rattle.model.specs.Curves.{worth}
use Rattle.model.proofs.Curves.{bands}
use Rattle.grader.specs.Curves.{curve_of}
use Rattle.grader.proofs.curves.Curve.worth.Given as goal

abbrev pub invariant-loop-to : goal.invariant-loop-to
invariant-loop-to l =
    let es = l.to-iterator.a.rest.now in
    let gs = l.to-iterator.b.rest.now in
    (goal.iterator-loop-to).can_next l.to-iterator
    × (goal.iterator-loop-to).is_finite l.to-iterator
    × (length gs ≡ length es + 1)
    × (get_or gs (length es) 0 ≡ get_or l.self.gains 4 0)
    × (l.sum + bands l.budget l.from es gs ≡ worth (curve_of l.self) l.budget)
