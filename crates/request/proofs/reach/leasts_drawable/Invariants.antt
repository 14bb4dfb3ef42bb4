-- What is left of the lists is feasible from the charge reached where the whole is from the start.
use Rattle.std.proofs.Common.{length, ◌≡◌}
use Rattle.model.specs.Charge.{drawable}
use Rattle.model.specs.Request.{request}
use Rattle.request.proofs.reach.leasts_drawable.Given as goal

abbrev pub invariant-loop-h : goal.invariant-loop-h
invariant-loop-h l =
    let hs = l.h-iterator.a.rest.now in
    let ls = l.h-iterator.b.rest.now in
    (goal.iterator-loop-h).can_next l.h-iterator
    × (goal.iterator-loop-h).is_finite l.h-iterator
    × (length ls ≡ length hs)
    × (drawable (request (record l.figures { start = l.charge }) hs) ls
    ≡ drawable (request l.figures l.whole.request.lists.harvest.now) l.whole.request.lists.least.now)
