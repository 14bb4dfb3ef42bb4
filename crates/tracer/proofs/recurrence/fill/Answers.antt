-- One more frame: both lists grow by what it ends with, which stays within the bounds.
use Rattle.std.proofs.Common.{arith, ap, ◌≡◌, ◌∙◌, get_or, length-set}
use Rattle.model.specs.Trace.{traced_end}
use Rattle.model.specs.declared.frame.TracedEnd.{TracedEnd}
use lib.Signed.{mag}
use Rattle.model.proofs.Integers.{up}
use Rattle.model.proofs.Machine as one
use Rattle.model.proofs.Losses.{part_within_capacity, lost_within_harvest}
use Rattle.tracer.proofs.Frames as law
use Rattle.tracer.proofs.recurrence.fill.Goals as goal

pub loop-i-preserved : goal.loop-i-preserved
loop-i-preserved c =
    let l = c.loop-i in
    let a = c.args in
    let i = l.i in
    let k = a.figures.capacity in
    let hs = a.harvest.now in
    let bs = a.budgets.now in
    let x = l.end.charge in
    let e = c.frame_end-end.result in
    let fh = c.type_inv.harvest i in
    let fb = c.type_inv.budgets i in
    let ended : e ≡ traced_end k x (get_or hs i 0) (get_or bs i 0) =
    rw (one.back x (omega arith)) at c.frame_end-end.ensures in
    let moved = one.after_small k x (get_or hs i 0) (get_or bs i 0) (omega arith) (omega arith) (omega arith) in
    let within = part_within_capacity k x (get_or hs i 0) (get_or bs i 0) in
    let lost = lost_within_harvest k x (get_or hs i 0) (get_or bs i 0) l.invariant.held in
    let is_lost = ap (λ (t : TracedEnd). t.lost) ended in
    let size = ap (λ (t : TracedEnd). mag t.charge) ended in
    let part = ap (λ (t : TracedEnd). up t.charge) ended in
    rw (one.back e.charge (omega arith)) (record {
      charges_long = length-set l.charges i _ ∙ l.invariant.charges_long;
      losses_long = length-set l.losses i _ ∙ l.invariant.losses_long;
      small = omega arith;
      held = omega arith;
      lost_small = omega arith;
      charges_so_far = law.step (λ (t : TracedEnd). t.charge) k x i hs bs l.charges e (omega arith) (omega arith)
          (omega arith) ended ∙ l.invariant.charges_so_far;
      losses_so_far = law.step (λ (t : TracedEnd). t.lost) k x i hs bs l.losses e (omega arith) (omega arith)
          (omega arith) ended ∙ l.invariant.losses_so_far;
    })
