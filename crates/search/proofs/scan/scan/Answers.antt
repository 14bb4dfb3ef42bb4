-- A full store, a dry frame or the end answers what was asked at the start.
use Rattle.std.proofs.Common.{arith}
use lib.Dec.{leb}
use borrow.Author.Tests.{leb-true, leb-false}
use Rattle.certifier.proofs.Reading.{frames_past}
use Rattle.search.proofs.Walk as law
use Rattle.search.proofs.scan.scan.Goals as goal

pub returns-then-f-a : goal.returns-then-f-a
returns-then-f-a c = law.full c.loop-k.invariant c.at-f.ensures c.if-f-a.true

pub returns-then-a-need : goal.returns-then-a-need
returns-then-a-need c =
    law.dry c.loop-k.invariant c.at-f.ensures c.draw.result c.draw.ensures c.if-f-a.false c.if-a-need.true

pub loop-k-preserved : goal.loop-k-preserved
loop-k-preserved c =
    law.on c.loop-k.invariant c.at-f.ensures c.draw.result c.draw.ensures c.if-f-a.false c.if-a-need.false

pub returns : goal.returns
returns c =
    let l = c.loop-k in
    let e = c.args.frames.rule.end in
    law.ends l.invariant (leb e l.y) (λ z. leb-true e l.y z) (λ z. leb-false e l.y z)
    (frames_past c.args.frames l.k (omega (arith, c.loop-k-test.false, c.count-k-end.ensures)))
