-- Each entry's answer made flat: the refusal, none where a value is given, and the value, zeros where it is refused.
use Rattle.std.specs.Prelude.{ℕ, Result}
use Rattle.model.specs.declared.refusal.Refusal.{Refusal as Given}
use Rattle.model.specs.Refusals.{Refusal}
use Rattle.model.specs.Choice.{pick}
use Rattle.model.specs.Request.{figures}
use Rattle.model.specs.Refusals.{Outcome, gives, refuses, none}
use Rattle.model.specs.Answer.{said}
use Rattle.model.specs.Trace.{Verdict, below_zero, end_too_low, is_feasible}
use Rattle.tracer.specs.declared.Verdict.{Verdict as Judged}
use Rattle.tracer.specs.Says as tracer
use Rattle.grader.specs.declared.Sums.{Sums}
use Rattle.shift.specs.Says.{ShiftAnswer}
use Rattle.rest.specs.declared.Rest.{Rest}
use Rattle.rest.specs.Rest.{not_short}
use Rattle.rest.specs.Says.{rest_said}
use Rattle.wordfile.specs.declared.reader.Header.{Header}
use Rattle.answers.specs.Refusal.{refusal_flat, refusal_told}
use Rattle.answers.specs.declared.plan.EnergyPlanAnswer.{EnergyPlanAnswer}
use Rattle.answers.specs.declared.needed.EnergyNeededAnswer.{EnergyNeededAnswer}
use Rattle.answers.specs.declared.trace.EnergyTraceAnswer.{EnergyTraceAnswer}
use Rattle.answers.specs.declared.grade.EnergyGradeAnswer.{EnergyGradeAnswer}
use Rattle.answers.specs.declared.rests.EnergyRestAnswer.{EnergyRestAnswer}
use Rattle.answers.specs.declared.shifts.EnergyShiftAnswer.{EnergyShiftAnswer}
use Rattle.answers.specs.declared.files.EnergyReadAnswer.{EnergyReadAnswer}
use Rattle.answers.specs.declared.files.EnergyWriteAnswer.{EnergyWriteAnswer}

-- the refusal of an outcome; none where there is a value
abbrev pub refusal_of : {A : Type 0} → Outcome A → Refusal
refusal_of (gives v) = none
refusal_of (refuses f) = f

-- the value of an outcome; the other where there is a refusal
abbrev pub value_or : {A : Type 0} → A → Outcome A → A
value_or other (gives v) = v
value_or other (refuses f) = other

abbrev pub plan_flat : Result (Unit {0}) Given → EnergyPlanAnswer
plan_flat a = record { refusal = refusal_flat (refusal_of (said a)) }

abbrev pub needed_flat : Result ℕ Given → EnergyNeededAnswer
needed_flat a = record { refusal = refusal_flat (refusal_of (said a)); capacity = value_or 0 (said a) }

-- the number of a verdict
abbrev pub verdict_number : Verdict → ℕ
verdict_number is_feasible = 0
verdict_number end_too_low = 1
verdict_number (below_zero n) = 2

-- the frame that a verdict names; 0 for none
abbrev pub verdict_frame : Verdict → ℕ
verdict_frame is_feasible = 0
verdict_frame end_too_low = 0
verdict_frame (below_zero n) = n

abbrev pub trace_flat : Result Judged Given → EnergyTraceAnswer
trace_flat a =
    let v = value_or is_feasible (tracer.said a) in
    record { refusal = refusal_flat (refusal_of (tracer.said a)); verdict = verdict_number v; frame = verdict_frame v }

abbrev pub no_sums : Sums
no_sums = record { curve0 = 0; curve1 = 0; curve2 = 0 }

abbrev pub grade_flat : Result Sums Given → EnergyGradeAnswer
grade_flat a = record { refusal = refusal_flat (refusal_of (said a)); sums = value_or no_sums (said a) }

abbrev pub rest_flat : Result Rest Given → EnergyRestAnswer
rest_flat a =
    let e = value_or not_short (rest_said a) in
    record { refusal = refusal_flat (refusal_of (rest_said a)); is_short = pick e.short 1 0; missing = e.missing }

abbrev pub no_header : Header
no_header = record { figures = figures 0 0 0; frames = 0 }

abbrev pub read_flat : Result Header Given → EnergyReadAnswer
read_flat a = record { refusal = refusal_flat (refusal_of (said a)); header = value_or no_header (said a) }

abbrev pub write_flat : Result ℕ Given → EnergyWriteAnswer
write_flat a = record { refusal = refusal_flat (refusal_of (said a)); bytes = value_or 0 (said a) }

-- an answer with a shift, as C gets it
abbrev pub shift_flat : ShiftAnswer → EnergyShiftAnswer
shift_flat a = record { refusal = refusal_flat a.refusal; shift = a.shift }

-- the answer with a shift that C got
abbrev pub shift_told : EnergyShiftAnswer → ShiftAnswer
shift_told a = record { refusal = refusal_told a.refusal; shift = a.shift }
