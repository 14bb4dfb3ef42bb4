-- A frame that takes its level carries the question on to the next (`Walk`); a full store, a dry frame or the end
-- answers it.
use Rattle.certifier.specs.Says.{frames_in}
use Rattle.search.proofs.Walk as law
use Rattle.search.proofs.scan.scan.Given as goal

abbrev pub invariant-loop-k : goal.invariant-loop-k
invariant-loop-k l = law.Walk l.frames.rule.end (frames_in l.frames) l.from l.charge l.level l.k l.y
