-- Where something is feasible, the plan can be drawn.
use Prim.Native.Nat.{ℕ}
use Rattle.model.specs.declared.Request.{Request as Asked}
use Rattle.model.specs.Answer.{asked}
use Rattle.model.specs.Plan.{frames_with}
use Rattle.model.proofs.Plan.{plan_best}
use Rattle.certifier.specs.Steps.{Able}
use Rattle.certifier.specs.Says.{Startable}
use Rattle.leveller.specs.Plan.{Ready, rule_of}

pub startable : (a : Asked) (c : ℕ) → Ready a c →
    Startable (rule_of (asked a) c) a.lists.harvest.now a.lists.least.now a.lists.most.now a.figures.start
unfolding Able
startable a c r =
    record {
      readable = record {
        small = r.small;
        leasts_long = r.leasts_long;
        mosts_long = r.mosts_long;
      };
      start_fits = r.start_fits;
      able = (plan_best a.figures.end a.figures.start 0 (frames_with (asked a) c) r.able.0 r.able.1).0;
    }
