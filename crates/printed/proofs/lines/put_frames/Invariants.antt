-- Each round writes the first of the frames' lines that are left.
use Rattle.std.proofs.Common.{length}
use Rattle.text.proofs.Written.{Left}
use Rattle.printed.proofs.FrameLines.{items, items_from}
use Rattle.printed.proofs.lines.put_frames.Given as goal

abbrev pub invariant-loop-i : goal.invariant-loop-i
invariant-loop-i l =
    let xs = items l.budgets l.charges l.losses in
    Left (items_from 0 xs) l.initial.page (items_from (length l.yielded) xs) l.page
