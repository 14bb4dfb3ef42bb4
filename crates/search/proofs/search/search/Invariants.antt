-- The range holds the budget and grows smaller, so where it is one number, that is the budget.
use Rattle.std.proofs.Common.{◌-◌}
use Rattle.search.specs.Search.{BetweenAt}
use Rattle.search.proofs.search.search.Given as goal

abbrev pub invariant-loop-at : goal.invariant-loop-at
invariant-loop-at l = BetweenAt l.place l.at

abbrev pub decreases-loop-at : goal.decreases-loop-at
decreases-loop-at l = l.at.top - l.at.good
