-- The third table is house curve 2.
use Rattle.std.proofs.Common.{refl}
use Rattle.grader.proofs.sums_of.Goals as goal

pub grade-requires-3-clause-house : goal.grade-requires-3-clause-house
grade-requires-3-clause-house c = (2, refl)
