-- The figures, the frames and the end word are put one behind the other, and have room since the whole file has; the
-- place behind the end word is the length of their bytes.
use Rattle.std.proofs.Common.{sym, ◌∙◌, arith}
use Rattle.model.specs.Answer.{asked}
use Rattle.words.proofs.Bytes.{bytes_length, puts_length}
use Rattle.wordfile.specs.File.{words_of_frames}
use Rattle.wordfile.proofs.Put as law
use Rattle.wordfile.proofs.writer.put_file.Goals as goal

pub put_frames-requires-clause-room : goal.put_frames-requires-clause-room
put_frames-requires-clause-room c =
    let n = law.file_length (asked c.args.whole.request) in
    let p = c.put_figures.ensures.puts in
    omega (arith, n, p.behind, puts_length p (omega (arith, n, c.requires.room)), c.requires.room)

pub put-requires-clause-room : goal.put-requires-clause-room
put-requires-clause-room c =
    let q = asked c.args.whole.request in
    let n = law.file_length q in
    let m = bytes_length (words_of_frames q.harvest q.bounds) in
    let p = c.put_figures.ensures.puts in
    let r = c.put_frames.ensures.puts in
    let k = puts_length p (omega (arith, n, c.requires.room)) in
    let j = puts_length r (omega (arith, n, m, k, p.behind, c.requires.room)) in
    omega (arith, n, m, k, j, p.behind, r.behind, c.requires.room)

pub returns-clause-list : goal.returns-clause-list
returns-clause-list c =
    let q = asked c.args.whole.request in
    let list = (law.puts_file q c.requires.room c.put_figures.ensures.puts c.put_frames.ensures.puts c.put.ensures.puts).0 in
    let name = sym (c.put.ensures.same ∙ (c.put_frames.ensures.same ∙ c.put_figures.ensures.same)) in
    grind arith

pub returns-clause-behind : goal.returns-clause-behind
returns-clause-behind c =
    let q = asked c.args.whole.request in
    (law.puts_file q c.requires.room c.put_figures.ensures.puts c.put_frames.ensures.puts c.put.ensures.puts).1
