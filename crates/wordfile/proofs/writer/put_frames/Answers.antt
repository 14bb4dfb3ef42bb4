-- Each frame is put in front of those left: `left_wrote`.
use Rattle.std.proofs.Common.{length, ap, arith}
use Rattle.wordfile.proofs.Put as law
use Rattle.wordfile.proofs.writer.put_frames.Goals as goal

pub put_frame-requires-clause-fits : goal.put_frame-requires-clause-fits
put_frame-requires-clause-fits c =
    let s = c.in-Some.ensures.steps in
    let f = law.left_fits s.0.0 s.0.1 s.1 c.loop-harvest.invariant.fits in
    (f.0, f.1)

pub put_frame-requires-clause-room : goal.put_frame-requires-clause-room
put_frame-requires-clause-room c =
    let s = c.in-Some.ensures.steps in
    omega (arith, law.left_length s.0.0 s.0.1 s.1, c.loop-harvest.invariant.room)

pub loop-harvest-preserved : goal.loop-harvest-preserved
loop-harvest-preserved c =
    let v = c.loop-harvest.invariant in
    let s = c.in-Some.ensures.steps in
    let p = c.put_frame.ensures in
    record {
      can = ((tt, tt), tt);
      ends = tt;
      leasts = omega (arith, ap length s.0.0, ap length s.0.1, v.leasts);
      mosts = omega (arith, ap length s.0.0, ap length s.1, v.mosts);
      fits = (law.left_fits s.0.0 s.0.1 s.1 v.fits).2;
      room = law.left_room s.0.0 s.0.1 s.1 v.room p;
      rest = λ w q. v.rest w (law.left_wrote s.0.0 s.0.1 s.1 v.room p q);
    }

pub returns : goal.returns
returns c =
    let v = c.loop-harvest.invariant in
    let e = law.zip_ended c.loop-harvest.harvest-iterator c.next.new.self c.in-None.ensures.steps (v.leasts, v.mosts) in
    v.rest c.loop-harvest.writer (law.wrote_none _ e)
