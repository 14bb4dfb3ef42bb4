-- A frame more has its words more, three at most; behind the last frame all are counted.
use Rattle.std.proofs.Common.{length, sym, refl, ap, None, arith}
use Rattle.std.proofs.lemmas.Iterator.{empty_from_Zip}
use Rattle.model.specs.Request.{bounds}
use Rattle.wordfile.proofs.Put as law
use Rattle.wordfile.proofs.writer.frames_size.Goals as goal

pub loop-least-preserved : goal.loop-least-preserved
loop-least-preserved c =
    let v = c.loop-least.invariant in
    let s = c.in-Some.ensures.steps in
    let w = bounds c.in-Some.least.now c.in-Some.most.now in
    let e = law.bounds_size_more s.0 s.1 in
    record {
      can = (tt, tt);
      ends = tt;
      lengths = omega (arith, ap length s.0, ap length s.1, v.lengths);
      small = omega (arith, ap length s.0, c.frame_size-size.ensures, law.frame_most 0 w, v.small);
      counted = omega (arith, e, c.frame_size-size.ensures, v.counted);
    }

pub returns-clause-is : goal.returns-clause-is
returns-clause-is c =
    let v = c.loop-least.invariant in
    let lists = c.args.whole.request.lists in
    let none = empty_from_Zip c.loop-least.least-iterator c.next.new.self None refl c.in-None.ensures.steps (sym v.lengths) in
    let all = law.bounds_size_is lists.harvest.now lists.least.now lists.most.now c.args.whole.one_each in
    omega (arith, v.counted, all, law.no_bounds c.loop-least.least-iterator.b.rest.now none.0)
