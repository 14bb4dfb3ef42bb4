-- Before each frame the pass holds the exact reserves of its level and of one more (`Holds`), so the tests of one
-- frame more are that frame's certificate (`weighed_on`).
use Rattle.certifier.specs.Course.{CourseFrom}
use Rattle.certifier.specs.Says.{frames_in}
use Rattle.certifier.proofs.Weights as law
use Rattle.certifier.proofs.backward.certify.Given as goal

abbrev pub invariant-loop-k : goal.invariant-loop-k
invariant-loop-k l =
    law.Holds l.frames.rule.end (frames_in l.frames) l.k l.levels l.w.level l.w.low l.w.high l.w.gap
    × CourseFrom l.frames.rule.end (frames_in l.frames) l.k l.levels l.after
