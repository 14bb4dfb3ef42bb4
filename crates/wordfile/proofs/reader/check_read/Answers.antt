-- The machine names no place beyond the words of the file.
use Rattle.std.proofs.Common.{arith}
use Rattle.words.specs.Words.{words_of}
use Rattle.words.proofs.Bytes.{words_length}
use Rattle.wordfile.specs.Form.{opening, form_of}
use Rattle.wordfile.proofs.Machine.{place_within, closed_within}
use Rattle.wordfile.proofs.reader.check_read.Goals as goal

pub overflow_mul-closed : goal.overflow_mul-closed
overflow_mul-closed c =
    let s = c.args.file.now in
    omega (
      arith,
      closed_within (form_of (words_of s)) c.in_ok-closed.ensures,
      place_within opening 0 (words_of s),
      words_length s,
    )
