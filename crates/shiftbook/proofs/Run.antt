-- Demand 3: by induction over the calls, with one invariant. The state is the logbook's image, and the logbook is
-- sound. Of the calls only `keeps` is used.
use mathlib.Core.Path.{◌≡◌, refl, sym, ap, subst, ◌∙◌}
use mathlib.Core.Bool.{Bool, true, false, ◌||◌}
use mathlib.Core.List.{List, [], ◌∷◌}
use Prim.Native.Nat.{ℕ, zero, suc}
use native.Mathlib.Omega.{arith}
use lib.ListN.{take}
use Rattle.model.specs.Request.{Request}
use Rattle.model.specs.Refusals.{is_none, start_refusal}
use Rattle.model.proofs.Choice.{pick_by}
use Rattle.shift.specs.declared.Totals.{Totals}
use Rattle.shift.specs.Shift.{started, no_shift, is_shift}
use Rattle.shift.specs.Says.{ShiftAnswer}
use Rattle.shift.proofs.Record.{sound_of}
use Rattle.shiftbook.specs.Logbook.{Logbook, opened, State, with_shift, shift_of, state_of}
use Rattle.shiftbook.specs.Calls.{Call, kind}
use Rattle.shiftbook.specs.Logbook.{sums}
use Rattle.shiftbook.specs.Run.{Turn, calls, left, Run, state_after, all_told, log_after, all_due, AllMean, comes_up}
use Rattle.shiftbook.specs.Run.{Moment, Demand3, begun, ShiftDemand, EveryListRuns}
use Rattle.shiftbook.proofs.Keeps.{Sound, opened_sound}
use Rattle.shiftbook.proofs.Calls.{keeps}

-- a run from the logbook's own state, and what it comes to
pub record Follows (q : Request) (l : Logbook) (ts : List Turn) : Type 0 where
  pub tells_due : all_told ts ≡ all_due l (calls ts)
  pub means : AllMean l ts
  pub state_is : state_after (state_of l) ts ≡ state_of (log_after l (calls ts))
  pub sound : Sound q (log_after l (calls ts))

pub follows : (q : Request) (l : Logbook) → Sound q l → (ts : List Turn) → Run (state_of l) ts → Follows q l ts
follows q l i [] r = record { tells_due = refl; means = tt; state_is = refl; sound = i }
follows q l i (t ∷ ts) r =
    let p = (keeps t.call).step q l i t.answer r.0 in
    let m = (kind t.call).logged l in
    let f = follows q m p.sound ts (subst (λ (x : State). Run x ts) p.leaves_it r.1) in
    record {
      tells_due = cc (p.tells_due, f.tells_due);
      means = (p.means, f.means);
      state_is = ap (λ (x : State). state_after x ts) p.leaves_it ∙ f.state_is;
      sound = f.sound;
    }

-- 22 is never due
all_without : (l : Logbook) (cs : List Call) → comes_up 22 (all_due l cs) ≡ false
all_without l [] = refl
all_without l (c ∷ cs) =
    let m = (kind c).logged l in
    ap (λ (t : Bool). t || comes_up 22 (all_due m cs)) ((keeps c).without_22 l) ∙ all_without m cs

-- the moment after a run: the balance is the one that 22 asks for, with the sums for the totals
moment :
    (q : Request) (ts : List Turn) → Follows q (opened q) ts →
    Moment q (calls ts) (state_after (state_of (opened q)) ts)
moment q ts f =
    let l = log_after (opened q) (calls ts) in
    let t : l.page.now.totals ≡ sums l.page.history = f.sound.totals_are in
    let b = (sound_of (shift_of l) f.sound.is_shift).now.balanced in
    let s = ap (λ (r : Request). r.figures.start) f.sound.of_is in
    let h = ap (λ (e : Totals). e.harvested) t in
    let u = ap (λ (e : Totals). e.used) t in
    let w = ap (λ (e : Totals). e.lost) t in
    let x = ap (λ (y : State). y.shift.now.charge) f.state_is in
    record {
      state_is = f.state_is;
      is_shift = ap (λ (y : State). is_shift y.shift) f.state_is ∙ f.sound.is_shift;
      totals_are = ap (λ (y : State). y.shift.now.totals) f.state_is ∙ t;
      balance = omega arith;
    }

-- the first calls of a run are a run
run_take : (x : State) (n : ℕ) (ts : List Turn) → Run x ts → Run x (take n ts)
run_take x zero ts r = tt
run_take x (suc n) [] r = tt
run_take x (suc n) (t ∷ ts) r = (r.0, run_take (left x t) n ts r.1)

calls_take : (n : ℕ) (ts : List Turn) → calls (take n ts) ≡ take n (calls ts)
calls_take zero ts = refl
calls_take (suc n) [] = refl
calls_take (suc n) (t ∷ ts) = ap (λ (cs : List Call). t.call ∷ cs) (calls_take n ts)

-- demand 3 of a shift that passes 22 at its start
from_start :
    (q : Request) → is_shift (started q) ≡ true → (ts : List Turn) → Run (state_of (opened q)) ts →
    Demand3 q (state_of (opened q)) ts
from_start q i ts r =
    let s = opened_sound q i in
    let f = follows q (opened q) s ts r in
    record {
      tells_due = f.tells_due;
      never_22 = ap (comes_up 22) f.tells_due ∙ all_without (opened q) (calls ts);
      plans_best = f.means;
      afterwards = moment q ts f;
      moments =
          λ n.
          subst
          (λ (cs : List Call). Moment q cs (state_after (state_of (opened q)) (take n ts)))
          (calls_take n ts)
          (moment q (take n ts) (follows q (opened q) s (take n ts) (run_take (state_of (opened q)) n ts r)));
    }

-- the list begins with the shift that start handed over
pub begins_handed : (q : Request) (a : ShiftAnswer) → (begun q a).shift ≡ a.shift
begins_handed q a = refl

-- demand 3: what start handed over is the logbook's first state
pub shift_demand : ShiftDemand
shift_demand q l m a p n ts r =
    let ok : is_none (start_refusal q l m) ≡ true = ap is_none (sym p.refusal) ∙ n in
    let e : begun q a ≡ state_of (opened q) =
    ap (with_shift (state_of (opened q))) (p.shift
    ∙ pick_by (is_none (start_refusal q l m)) true (started q) no_shift ok) in
    subst
    (λ (x : State). Demand3 q x ts)
    (sym e)
    (from_start q (p.is_shift ok) ts (subst (λ (x : State). Run x ts) e r))

-- every list of calls has a run
pub every_list_runs : EveryListRuns
every_list_runs x [] = ([], refl, tt)
every_list_runs x (c ∷ cs) =
    let a = (keeps c).possible x in
    let r = every_list_runs ((kind c).leaves x a.0) cs in
    (record { call = c; answer = a.0 } ∷ r.0, ap (λ (ds : List Call). c ∷ ds) r.1, (a.1, r.2))
