-- What is missing less the harvests that are left stays what is missing in all.
use Rattle.std.proofs.Common.{◌≡◌, ◌-◌, drop}
use Rattle.model.specs.Request.{total}
use Rattle.request.proofs.reach.check_reach.Given as goal

abbrev pub invariant-loop-h : goal.invariant-loop-h
invariant-loop-h l = l.missing - total (drop l.h-index l.whole.request.lists.harvest.now) ≡ l.initial.missing - total l.whole.request.lists.harvest.now
