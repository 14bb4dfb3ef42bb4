-- Each round writes the first byte of what is left of the text.
use Rattle.std.proofs.Common.{add-one, arith}
use lib.Seq.{drop-cons}
use lib.ListN.{drop_of_length-le}
use Rattle.text.proofs.Written as law
use Rattle.text.proofs.Page.put.Goals as goal

pub loop-byte-preserved : goal.loop-byte-preserved
loop-byte-preserved c =
    let s = c.args.text.now in
    let l = c.loop-byte in
    law.left_less l.invariant (rw (add-one l.byte-index) (drop-cons s l.byte-index 0 (omega arith))) c.put_byte.ensures

pub returns : goal.returns
returns c =
    let l = c.loop-byte in
    law.left_none l.invariant (drop_of_length-le c.args.text.now {i = l.byte-index} (omega arith))
