-- Word number i begins at byte 4 * i, and its bytes are the lowest first.
use Rattle.std.proofs.Common.{◌/◌, length, arith}
use Rattle.words.proofs.Bytes.{words_at}
use Rattle.words.proofs.word.nth.Goals as goal

pub returns : goal.returns
returns c =
    let s = c.args.bytes.now in
    omega (arith, words_at (length s / 4) s c.args.i c.requires, c.from_le_bytes.ensures)
