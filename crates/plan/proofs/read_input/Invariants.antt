-- Each read brings no more than there is room for behind what is there, so the bytes stay within the list.
use Rattle.std.proofs.Common.{◌-◌, ◌≤◌, length}
use Rattle.plan.proofs.read_input.Given as goal

abbrev pub invariant-loop-have : goal.invariant-loop-have
invariant-loop-have l = l.have ≤ length l.file

abbrev pub decreases-loop-have : goal.decreases-loop-have
decreases-loop-have l = length l.file - l.have
