-- Charges and losses written so far and those of the rest stay the whole trace's; no frame moves the charge by 2^34,
-- and none leaves it above the capacity, so that a loss is at most a harvest.
use Rattle.std.proofs.Common.{◌≡◌, ◌++◌, ◌+◌, ◌*◌, ◌≤◌, ◌<◌, ◌^◌, length, take, drop}
use lib.Signed.{mag}
use Rattle.model.specs.Request.{request, withdrawn}
use Rattle.model.specs.Trace.{trace_from, trace_losses_from}
use Rattle.model.proofs.Integers.{up}
use Rattle.tracer.proofs.recurrence.fill.Given as goal

abbrev pub invariant-loop-i : goal.invariant-loop-i
invariant-loop-i l = record {
  charges_long : length l.charges ≡ length l.initial.charges;
  losses_long : length l.losses ≡ length l.initial.losses;
  small : mag l.end.charge ≤ 2 ^ 34 * (l.i + 1);
  held : up l.end.charge ≤ l.capacity;
  lost_small : l.end.lost < 2 ^ 32;
  charges_so_far : take l.i l.charges
      ++ trace_from l.capacity l.end.charge (drop l.i l.harvest) (drop l.i (withdrawn (request l.fn.figures l.harvest) l.budgets))
      ≡ trace_from l.capacity l.initial.end.charge l.harvest (withdrawn (request l.fn.figures l.harvest) l.budgets);
  losses_so_far : take l.i l.losses
      ++ trace_losses_from l.capacity l.end.charge (drop l.i l.harvest) (drop l.i (withdrawn (request l.fn.figures l.harvest) l.budgets))
      ≡ trace_losses_from l.capacity l.initial.end.charge l.harvest (withdrawn (request l.fn.figures l.harvest) l.budgets);
}
