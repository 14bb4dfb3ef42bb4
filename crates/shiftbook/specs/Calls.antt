-- The calls of a shift, one block for each kind.
use Rattle.std.specs.Prelude.{List, [], ◌∷◌, ℕ, length, Result}
use Rattle.model.specs.declared.refusal.Refusal.{Refusal as Given}
use Rattle.model.specs.Choice.{pick}
use Rattle.model.specs.Refusals.{Refusal, outcome, is_none}
use Rattle.shift.specs.declared.Typed.{Typed}
use Rattle.shift.specs.declared.Shift.{Shift}
use Rattle.rest.specs.declared.Rest.{Rest}
use Rattle.rest.specs.Rest.{Outlook, ending_of, rest_budgets, written_from, RestMeans}
use Rattle.shift.specs.Says.{ShiftAnswer, shift_said, RecordSays}
use Rattle.rest.specs.Says.{rest_said, RestSays}
use Rattle.shiftbook.specs.Logbook.{Logbook, note_refusal, noted, planning_refusal, open_request, shift_of}
use Rattle.shiftbook.specs.Logbook.{with_shift}
use Rattle.shiftbook.specs.Value.{shift, ending}
use Rattle.shiftbook.specs.Kind.{Told, tells, Kind}

-- a call that hands a shift over, with what it promises; by the logbook f refuses it and the logbook stays, or
-- it becomes m
abbrev pub handing : (Shift → ShiftAnswer → Type 0) → (Logbook → Refusal) → (Logbook → Logbook) → Kind
handing says f m =
    record {
      Answer = ShiftAnswer;
      Says = λ x a. says x.shift a;
      leaves = λ x a. with_shift x a.shift;
      told = λ a. tells shift (shift_said a) [];
      due = λ l. tells shift (outcome (f l) (shift_of (m l))) [];
      logged = λ l. pick (is_none (f l)) (m l) l;
      Means = λ l a. Unit {0};
    }

-- recording what is typed for the next frame
abbrev pub recording : Typed → Kind
recording t = handing (λ s a. RecordSays s t a) (λ l. note_refusal l t) (λ l. noted l t)

-- what comes back from planning: the answer, and the budgets as they are afterwards
pub record Planning : Type 0 where
  pub answer : Result Rest Given
  pub budgets : List ℕ

-- the budgets that the logbook gives for an outlook and budgets b
abbrev pub due_budgets : Logbook → Outlook → List ℕ → List ℕ
due_budgets l p b =
    pick
    (is_none (planning_refusal l p (length b ∷ [])))
    (written_from l.page.now.recorded b (rest_budgets (open_request l p)))
    b

-- what the logbook gives for a planning, and what the budgets b' it makes of b mean
abbrev pub due_planning : Logbook → Outlook → List ℕ → Told
due_planning l p b =
    tells ending (outcome (planning_refusal l p (length b ∷ [])) (ending_of (open_request l p)))
    (due_budgets l p b ∷ [])

abbrev pub PlanningMeans : Logbook → Outlook → List ℕ → List ℕ → Type 0
PlanningMeans l p b b' = RestMeans (planning_refusal l p (length b ∷ [])) l.page.now.recorded (open_request l p) b b'

-- planning the rest by an outlook into budgets b; whatever its answer, it leaves shift and logbook alone
abbrev pub planning : Outlook → List ℕ → Kind
planning p b =
    record {
      Answer = Planning;
      Says = λ x a. RestSays x.shift p b a.budgets a.answer;
      leaves = λ x a. x;
      told = λ a. tells ending (rest_said a.answer) (a.budgets ∷ []);
      due = λ l. due_planning l p b;
      logged = λ l. l;
      Means = λ l a. PlanningMeans l p b a.budgets;
    }

-- a call with its own figures and lists
pub data Call : Type 0 where
  records : Typed → Call
  plans : Outlook → List ℕ → Call

abbrev pub kind : Call → Kind
kind (records t) = recording t
kind (plans p b) = planning p b
