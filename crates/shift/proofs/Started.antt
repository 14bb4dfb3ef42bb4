-- Start's promise: what is handed over passes 22 and has a plan; with refusal 9 or 11 nothing is feasible.
use mathlib.Core.Path.{◌≡◌, sym, ap, ◌∙◌}
use mathlib.Core.Bool.{true, false}
use Prim.Native.Nat.{ℕ}
use native.Mathlib.Omega.{arith}
use Rattle.std.specs.Prelude.{Ok, Err}
use Rattle.model.specs.declared.refusal.Refusal.{Refusal as Given}
use Rattle.model.specs.Refusals.{Refusal}
use Rattle.model.specs.Choice.{pick}
use Rattle.model.specs.Request.{Request}
use Rattle.model.specs.Refusals.{none, is_none, start_refusal}
use Rattle.model.specs.Answer.{told}
use Rattle.model.specs.Reward.{IsPlan}
use Rattle.model.specs.Plan.{plan_of}
use Rattle.model.proofs.Answer.{told_some}
use Rattle.model.proofs.Choice.{pick_by}
use Rattle.model.proofs.Requests.{plan_is}
use Rattle.model.proofs.Reach.{none_feasible}
use Rattle.model.proofs.Refusals.{start_unreachable}
use Rattle.request.proofs.Within.{start_within}
use Rattle.shift.specs.declared.Shift.{Shift}
use Rattle.shift.specs.Shift.{started, no_shift, is_shift}
use Rattle.shift.specs.Says.{StartSays, started_as}
use Rattle.shift.proofs.Record.{is_sound}

-- the started shift passes 22
pub started_is : (q : Request) (l m : ℕ) → is_none (start_refusal q l m) ≡ true → is_shift (started q) ≡ true
started_is q l m e =
    let w = start_within q l m e in
    is_sound (started q)
    (record {
      terms =
          record {
            some = w.lent.frames.some;
            few = w.lent.frames.few;
            capacity_low = w.served.figures.capacity_small;
            start_low = w.served.figures.start_fits;
            end_low = w.served.figures.end_fits;
          };
      now =
          record {
            within = omega arith;
            charge_low = w.served.figures.start_fits;
            harvest_low = omega arith;
            balanced = omega arith;
          };
    })

-- and its request has a plan
pub started_plan : (q : Request) (l m : ℕ) → is_none (start_refusal q l m) ≡ true → IsPlan q (plan_of q)
started_plan q l m e =
    let w = start_within q l m e in
    plan_is q w.served.figures.start_fits w.served.figures.end_fits w.served.reach

-- start's promise of any shift that is the one due
pub start_says :
    (q : Request) (l m : ℕ) (f : Refusal) (s : Shift) → f ≡ start_refusal q l m →
    s ≡ pick (is_none f) (started q) no_shift → StartSays q l m (record { refusal = f; shift = s })
start_says q l m f s e d =
    record {
      refusal = e;
      shift = d ∙ ap (λ (g : Refusal). pick (is_none g) (started q) no_shift) e;
      is_shift = started_is q l m;
      reachable = started_plan q l m;
      unreachable = λ n. none_feasible q (start_unreachable q l m n);
    }

-- start's promise: of the shift due, and of a refusal
pub start_given :
    (q : Request) (l m : ℕ) (s : Shift) → none ≡ start_refusal q l m → s ≡ started q →
    StartSays q l m (started_as (Ok s))
start_given q l m s e d = start_says q l m none s e d

pub start_refused :
    (q : Request) (l m : ℕ) (e : Given) → told e ≡ start_refusal q l m → StartSays q l m (started_as (Err e))
start_refused q l m e p =
    start_says q l m (told e) no_shift p (sym (pick_by (is_none (told e)) false (started q) no_shift (told_some e)))
