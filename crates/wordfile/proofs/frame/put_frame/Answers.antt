-- The harvest, the least and the most are put one behind the other: `wrote_more`.
use Rattle.std.proofs.Common.{arith}
use Rattle.model.specs.Request.{bounds}
use Rattle.words.proofs.Bytes.{bytes_length, wrote_more, puts_length}
use Rattle.wordfile.specs.File.{least_words}
use Rattle.wordfile.proofs.Put.{frame_length}
use Rattle.wordfile.proofs.frame.put_frame.Goals as goal

pub returns : goal.returns
returns c =
    let a = c.args.frame in
    let p = c.put.ensures in
    let q = c.put_unless.ensures in
    let n = frame_length a.harvest (bounds a.least a.most) in
    let m = bytes_length (least_words a.least) in
    let s = puts_length p.puts (omega (arith, n, c.requires.room)) in
    wrote_more p (omega (arith, n, c.requires.room))
    (wrote_more q (omega (arith, n, m, s, p.puts.behind, c.requires.room)) c.put_unless-2.ensures)
