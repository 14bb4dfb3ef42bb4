-- A word is four bytes: `file_length`.
use Rattle.std.proofs.Common.{arith}
use Rattle.model.specs.Answer.{asked}
use Rattle.wordfile.proofs.Put.{file_length}
use Rattle.wordfile.proofs.writer.file_size.Goals as goal

pub returns : goal.returns
returns c = omega (arith, file_length (asked c.args.whole.request), c.frames_size.ensures.is)
