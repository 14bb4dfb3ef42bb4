-- Every call keeps what is asked of its kind.
use Rattle.shiftbook.specs.Calls.{Call, records, plans, kind}
use Rattle.shiftbook.proofs.Keeps.{Keeps}
use Rattle.shiftbook.proofs.Steps.{recording_keeps, planning_keeps}

pub keeps : (c : Call) → Keeps (kind c)
keeps (records t) = recording_keeps t
keeps (plans p b) = planning_keeps p b
