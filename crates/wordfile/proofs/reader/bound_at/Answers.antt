-- Behind the last word there is no bound; else the word there has the mark, or another.
use Rattle.std.proofs.Common.{◌<◌, length, sym, arith, ◌∙◌}
use lib.Dec.{eqb}
use Rattle.words.specs.Words.{words_of, mark_of, amount_in}
use Rattle.words.proofs.Bytes.{words_length}
use Rattle.wordfile.proofs.Found as law
use Rattle.wordfile.proofs.reader.bound_at.Goals as goal

pub returns-then-i-file : goal.returns-then-i-file
returns-then-i-file c =
    let s = c.args.file.now in
    sym (law.beyond c.args.mark (words_of s) c.args.i (omega (arith, c.if-i-file.true, words_length s)))

pub returns : goal.returns
returns c =
    let s = c.args.file.now in
    let ws = words_of s in
    let i = c.args.i in
    let inside : i < length ws = omega (arith, c.if-i-file.false, words_length s) in
    let w = c.nth-bits.result in
    rw (law.front ws i inside c.nth-bits.ensures)
    (c.then_some.ensures
    ∙ rw (c.tag.ensures, c.rest.ensures) (law.then_in (eqb (mark_of w) c.args.mark) (amount_in w)))
