-- Every case of the table holds, by computing the definitions.
use mathlib.Core.Path.{refl}
use Rattle.model.specs.Frames.{reserve, largest, budget, plan, requirement}
use Rattle.model.specs.Plan.{frames_of, plan_of, open_plan, peak, needed_of}
use Rattle.text.specs.Decimal.{decimal}
use Rattle.text.specs.Line.{line_of}
use Rattle.cases.specs.Cases.{AllHold, cases}

pub worked_cases : AllHold cases
unfolding decimal line_of plan_of open_plan needed_of frames_of plan budget largest reserve requirement peak
worked_cases = assumption refl
