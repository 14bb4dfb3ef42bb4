-- The size so far with that of the frames left is the size of all; three words at most for each.
use Rattle.std.proofs.Common.{length, ◌+◌, ◌*◌, ◌≡◌, ◌≤◌}
use Rattle.wordfile.proofs.Put.{bounds_size}
use Rattle.wordfile.proofs.writer.frames_size.Given as goal

abbrev pub invariant-loop-least : goal.invariant-loop-least
invariant-loop-least l =
    let ls = l.least-iterator.a.rest.now in
    let ms = l.least-iterator.b.rest.now in
    let lists = l.whole.request.lists in record {
      can : (goal.iterator-loop-least).can_next l.least-iterator;
      ends : (goal.iterator-loop-least).is_finite l.least-iterator;
      lengths : length ms ≡ length ls;
      small : l.size + 3 * length ls ≤ 3 * length lists.harvest.now;
      counted : l.size + bounds_size ls ms ≡ bounds_size lists.least.now lists.most.now;
    }
