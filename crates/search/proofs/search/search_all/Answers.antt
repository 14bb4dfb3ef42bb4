-- The budget just caught is a step of the plan.
use Rattle.std.proofs.Common.{◌≤◌, refl, arith}
use Rattle.certifier.specs.Says.{frame_count}
use Rattle.certifier.proofs.Reading.{frames_past}
use Rattle.certifier.proofs.Steps.{allows, stepped, writing_on, writing_done}
use Rattle.search.proofs.search.search_all.Goals as goal

pub has-have-requires : goal.has-have-requires
has-have-requires c =
    let writing = c.loop-i.invariant in
    (writing.charge_fits, (allows c.args.frames.rule.end c.at-frame.ensures writing.able).drains)

pub search-b-requires : goal.search-b-requires
search-b-requires c =
    let a = allows c.args.frames.rule.end c.at-frame.ensures c.loop-i.invariant.able in
    (a.bounds, rw c.has-have.ensures a.reach)

pub loop-i-preserved : goal.loop-i-preserved
loop-i-preserved c =
    writing_on c.loop-i.invariant (omega (arith, c.loop-i-test.true, c.count-i-end.ensures))
    (stepped c.at-frame.ensures c.loop-i.invariant.able c.has-have.ensures c.search-b.ensures refl)
    (omega (arith, c.has-have.ensures, c.at-frame.ensures.plain.ceiling_fits))

pub returns : goal.returns
returns c =
    let l = c.loop-i in
    let left : frame_count c.args.frames ≤ l.i = omega (arith, c.loop-i-test.false, c.count-i-end.ensures) in
    writing_done l.invariant (frames_past c.args.frames l.i left) left
