-- The figures are put one behind the other: `wrote_more`.
use Rattle.std.proofs.Common.{arith}
use Rattle.words.proofs.Bytes.{wrote_more, puts_length}
use Rattle.wordfile.proofs.writer.put_figures.Goals as goal

pub returns : goal.returns
returns c =
    let p = c.put.ensures in
    let q = c.put-2.ensures in
    let s = puts_length p.puts (omega (arith, c.requires.room)) in
    wrote_more p (omega (arith, c.requires.room))
    (wrote_more q (omega (arith, s, p.puts.behind, c.requires.room)) c.put-3.ensures)
