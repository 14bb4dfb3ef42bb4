-- One frame more, by the laws of the backward pass.
use Rattle.std.proofs.Common.{◌≡◌, ◌+◌, ◌-◌, ◌<◌, arith, refl, slice_index_or}
use Rattle.certifier.specs.Says.{frames_in, frame_count}
use Rattle.certifier.proofs.Reading.{frames_past}
use Rattle.certifier.proofs.Weights as law
use Rattle.certifier.proofs.backward.certify.Goals as goal

pub loop-k-init : goal.loop-k-init
loop-k-init c =
    let a = c.args in
    let fs = frames_in a.frames in
    let n = c.count-k.result in
    let past = frames_past a.frames n (omega (arith, c.count-k.ensures)) in
    let w = c.past-w.ensures in (
      rw (w.0, w.1, w.2, w.3) (law.past a.frames.rule.end fs n a.levels.now past),
      law.past_course a.frames.rule.end fs n a.levels.now a.after.now past,
    )

pub loop-k-preserved : goal.loop-k-preserved
loop-k-preserved c =
    let l = c.loop-k in
    let a = c.args in
    let k : l.k - 1 + 1 ≡ l.k = omega (arith, c.loop-k-test.true) in
    let here : l.k - 1 < frame_count a.frames = omega (arith, c.loop-k-test.true, l.auto.k, c.count-k.ensures) in
    let on =
    law.weighed_on {e = a.frames.rule.end} {fs = frames_in a.frames} {ls = a.levels.now} c.at.result
    (slice_index_or a.levels.now (l.k - 1) 0) l.w c.in-Some.next
    c.at.ensures (rw k l.invariant.0) c.in-Some.ensures (omega arith) refl l.after
    (omega arith) (rw k l.invariant.1)
    in (on.1, on.2)
