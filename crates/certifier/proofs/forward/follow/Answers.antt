-- What the frame just spent is the plan's step.
use Rattle.std.proofs.Common.{◌≤◌, arith, refl}
use Rattle.certifier.specs.Says.{frame_count}
use Rattle.certifier.proofs.Reading.{frames_past}
use Rattle.certifier.proofs.Steps.{allows, writing_on, writing_done}
use Rattle.certifier.proofs.Budgets as law
use Rattle.certifier.proofs.forward.follow.Goals as goal

pub has-have-requires : goal.has-have-requires
has-have-requires c =
    let writing = c.loop-i.invariant.0 in
    (writing.charge_fits, (allows c.args.frames.rule.end c.at-f.ensures writing.able).drains)

pub overflow_sub-y : goal.overflow_sub-y
overflow_sub-y c =
    let l = c.loop-i in
    let f = law.follows l.budgets c.args.after.now c.at-f.ensures l.invariant.0.able
    c.has-have.ensures (omega (arith, c.loop-i-test.true, l.invariant.0.same_length))
    (omega (arith, c.loop-i-test.true, c.requires.0.2)) l.invariant.1 refl refl c.spend-b.ensures in
    f.have

pub loop-i-preserved : goal.loop-i-preserved
loop-i-preserved c =
    let l = c.loop-i in
    let f = law.follows l.budgets c.args.after.now c.at-f.ensures l.invariant.0.able
    c.has-have.ensures (omega (arith, c.loop-i-test.true, l.invariant.0.same_length))
    (omega (arith, c.loop-i-test.true, c.requires.0.2)) l.invariant.1 refl refl c.spend-b.ensures in
    (writing_on l.invariant.0 (omega (arith, c.loop-i-test.true, c.count-i-end.ensures)) f.step f.charge_fits, f.certified)

pub returns : goal.returns
returns c =
    let l = c.loop-i in
    let left : frame_count c.args.frames ≤ l.i = omega (arith, c.loop-i-test.false, c.count-i-end.ensures) in
    writing_done l.invariant.0 (frames_past c.args.frames l.i left) left
