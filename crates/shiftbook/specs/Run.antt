-- Demand 3 over lists of calls: what a run of a shift is, what the logbook gives for it, and the statement about the
-- list as a whole.
use Rattle.std.specs.Prelude.{◌≡◌, Bool, true, false, ◌||◌, List, [], ◌∷◌, map, ℕ, ◌+◌, take}
use Rattle.model.specs.Request.{Request}
use Rattle.model.specs.Refusals.{is_none}
use Rattle.shift.specs.Shift.{is_shift}
use Rattle.shift.specs.Says.{ShiftAnswer, StartSays}
use Rattle.shiftbook.specs.Logbook.{Logbook, sums, opened, State, with_shift, state_of}
use Rattle.shiftbook.specs.Kind.{Told, is_number}
use Rattle.shiftbook.specs.Calls.{Call, kind}

-- a turn: a call and what came back
pub record Turn : Type 0 where
  pub call : Call
  pub answer : (kind call).Answer

abbrev pub calls : List Turn → List Call
calls ts = map (λ (t : Turn). t.call) ts

-- what the caller holds after a turn
abbrev pub left : State → Turn → State
left x t = (kind t.call).leaves x t.answer

-- a run: every call keeps its promise, and gets the shift as the last one left it
abbrev pub Run : State → List Turn → Type 0
Run x [] = Unit {0}
Run x (t ∷ ts) = (kind t.call).Says x t.answer × Run (left x t) ts

-- what the caller holds after a run
abbrev pub state_after : State → List Turn → State
state_after x [] = x
state_after x (t ∷ ts) = state_after (left x t) ts

-- what all calls of a run told
abbrev pub all_told : List Turn → List Told
all_told ts = map (λ (t : Turn). (kind t.call).told t.answer) ts

-- the logbook after a list of calls
abbrev pub log_after : Logbook → List Call → Logbook
log_after l [] = l
log_after l (c ∷ cs) = log_after ((kind c).logged l) cs

-- what the logbook gives for a list of calls, one by one
abbrev pub all_due : Logbook → List Call → List Told
all_due l [] = []
all_due l (c ∷ cs) = (kind c).due l ∷ all_due ((kind c).logged l) cs

-- what every call of a run means, each by the logbook as the calls before it left it
abbrev pub AllMean : Logbook → List Turn → Type 0
AllMean l [] = Unit {0}
AllMean l (t ∷ ts) = (kind t.call).Means l t.answer × AllMean ((kind t.call).logged l) ts

-- whether refusal n is among what was told
abbrev pub comes_up : ℕ → List Told → Bool
comes_up n [] = false
comes_up n (t ∷ ts) = is_number n t.answer || comes_up n ts

-- state x at a moment of a shift started from q, after calls cs
pub record Moment (q : Request) (cs : List Call) (x : State) : Type 0 where
  -- the whole record is the logbook's
  pub state_is : x ≡ state_of (log_after (opened q) cs)
  -- and it is one that 22 lets pass
  pub is_shift : is_shift x.shift ≡ true
  -- the totals are the sums over the history
  pub totals_are : x.shift.now.totals ≡ sums (log_after (opened q) cs).page.history
  -- start plus the history's harvests equals the charge plus its uses plus its losses
  pub balance :
      let s = sums (log_after (opened q) cs).page.history in
      q.figures.start + s.harvested ≡ x.shift.now.charge + s.used + s.lost

-- demand 3 of a run ts that begins with state x, of a shift started from request q
pub record Demand3 (q : Request) (x : State) (ts : List Turn) : Type 0 where
  -- every refusal with its P, every short with its amount, 0 included, the shift after every recording and every
  -- budget list afterwards is the one that the logbook gives for the call's own figures and lists, bounds included; and
  -- none that it gives is left out
  pub tells_due : all_told ts ≡ all_due (opened q) (calls ts)
  -- 22 never comes up
  pub never_22 : comes_up 22 (all_told ts) ≡ false
  -- every plan is the plan of the logbook's open frames and charge within the bounds lent, best for every qualifying
  -- table; where a planning is short nothing within them is feasible; recorded frames keep their budgets
  pub plans_best : AllMean (opened q) ts
  -- after the list, and at every moment of it
  pub afterwards : Moment q (calls ts) (state_after x ts)
  pub moments : (n : ℕ) → Moment q (take n (calls ts)) (state_after x (take n ts))

-- the state at the start: the logbook's, with the shift as its start handed it over (proofs/Run.antt)
abbrev pub begun : Request → ShiftAnswer → State
begun q a = with_shift (state_of (opened q)) a.shift

-- demand 3: it holds of every run of every shift that start handed over, lent l leasts and m mosts
abbrev pub ShiftDemand : Type 0
ShiftDemand =
    (q : Request) (l m : ℕ) (a : ShiftAnswer) → StartSays q l m a → is_none a.refusal ≡ true →
    (ts : List Turn) → Run (begun q a) ts → Demand3 q (begun q a) ts

-- it speaks of every list of calls: each has a run, whatever the shift
abbrev pub EveryListRuns : Type 0
EveryListRuns = (x : State) (cs : List Call) → (ts : List Turn) × (calls ts ≡ cs) × Run x ts
