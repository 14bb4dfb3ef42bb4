-- What the entries of a shift promise: the answer and every lent list by an equation, then what the answer means.
use Rattle.std.specs.Prelude.{◌≡◌, true, false, List, ℕ, Result, Ok, Err}
use Rattle.model.specs.declared.refusal.Refusal.{Refusal as Given}
use Rattle.model.specs.Choice.{pick}
use Rattle.model.specs.Request.{Request}
use Rattle.model.specs.Refusals.{Refusal, none, Outcome, outcome, is_none, start_refusal, is_unreachable}
use Rattle.model.specs.Answer.{told}
use Rattle.model.specs.Charge.{feasible}
use Rattle.model.specs.Reward.{IsPlan}
use Rattle.model.specs.Plan.{plan_of}
use Rattle.shift.specs.declared.Typed.{Typed}
use Rattle.shift.specs.declared.Shift.{Shift}
use Rattle.shift.specs.Shift.{started, no_shift, is_shift, record_refusal, recorded_by}

-- an answer with a shift: the refusal, none if there is none, and the shift
pub record ShiftAnswer : Type 0 where
  pub refusal : Refusal
  pub shift : Shift

-- what starting answers, as one of these: beside a refusal zeros
abbrev pub started_as : Result Shift Given → ShiftAnswer
started_as (Ok t) = record { refusal = none; shift = t }
started_as (Err e) = record { refusal = told e; shift = no_shift }

-- what recording of shift s answers: beside a refusal the shift as it was
abbrev pub recorded_as : Shift → Result Shift Given → ShiftAnswer
recorded_as s (Ok t) = record { refusal = none; shift = t }
recorded_as s (Err e) = record { refusal = told e; shift = s }

-- what an answer with a shift says in document 01's terms: the shift, or the refusal
abbrev pub shift_said : ShiftAnswer → Outcome Shift
shift_said a = outcome a.refusal a.shift

-- starting a shift from request q, with lists of l leasts and m mosts
pub record StartSays (q : Request) (l m : ℕ) (a : ShiftAnswer) : Type 0 where
  pub refusal : a.refusal ≡ start_refusal q l m
  -- the started shift; beside a refusal zeros
  pub shift : a.shift ≡ pick (is_none (start_refusal q l m)) (started q) no_shift
  -- a shift that is handed over is one, and its frames can be served
  pub is_shift : is_none (start_refusal q l m) ≡ true → is_shift (started q) ≡ true
  pub reachable : is_none (start_refusal q l m) ≡ true → IsPlan q (plan_of q)
  -- with refusal 9 or 11 no assignment is feasible
  pub unreachable : is_unreachable (start_refusal q l m) ≡ true → (bs : List ℕ) → feasible q bs ≡ false

-- a call of shift s that f may refuse, and that leaves the shift next if f is none
pub record HandingSays (s next : Shift) (f : Refusal) (a : ShiftAnswer) : Type 0 where
  pub refusal : a.refusal ≡ f
  -- the next shift; after a refusal the same shift
  pub shift : a.shift ≡ pick (is_none f) next s
  -- a shift stays one
  pub stays : is_shift s ≡ true → is_shift a.shift ≡ true

-- recording what is typed for the next frame: the shift after it
abbrev pub RecordSays : Shift → Typed → ShiftAnswer → Type 0
RecordSays s t a = HandingSays s (recorded_by s t) (record_refusal s t) a
