-- Behind the last word there is no bound.
use Rattle.std.proofs.Common.{arith}
use Rattle.words.specs.Words.{words_of}
use Rattle.words.proofs.Bytes.{words_length}
use Rattle.wordfile.proofs.Found as law
use Rattle.wordfile.proofs.reader.is_bound.Goals as goal

pub returns-else-i-file : goal.returns-else-i-file
returns-else-i-file c =
    let s = c.args.file.now in
    λ z m e. law.beyond m (words_of s) c.args.i (omega (arith, c.if-i-file.false, words_length s))
