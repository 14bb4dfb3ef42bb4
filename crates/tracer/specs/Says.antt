-- What the tracer promises: its answer is document 01's verdict or refusal, and the lent charges and losses are those
-- of the trace or stay as they were.
use Rattle.std.specs.Prelude.{◌≡◌, ◌↔◌, true, false, List, map, ℕ, suc, ◌<◌, leb, ℤ, pos, length, get_or, Result, Ok, Err}
use Rattle.std.specs.Int.Signed.{le_z, non_neg}
use Rattle.model.specs.Choice.{pick}
use Rattle.model.specs.declared.Figures.{Figures}
use Rattle.model.specs.Request.{Request}
use Rattle.model.specs.Charge as C
use Rattle.model.specs.Refusals.{Outcome, gives, refuses, outcome, is_none, trace_refusal}
use Rattle.model.specs.Trace.{Verdict, below_zero, end_too_low, is_feasible, below_from, last_from, trace, verdict}
use Rattle.model.specs.Trace.{EarliestBelow, trace_losses, Accounted}
use Rattle.model.specs.declared.refusal.Refusal.{Refusal as Given}
use Rattle.model.specs.Answer.{told}
use Rattle.tracer.specs.declared.Verdict.{Verdict as Answered}
use Rattle.tracer.specs.declared.Verdict.TheVariants.{Feasible, EndTooLow, BelowZero}

-- document 01's verdict for each of the code's
abbrev pub verdict_said : Answered → Verdict
verdict_said Feasible = is_feasible
verdict_said EndTooLow = end_too_low
verdict_said (BelowZero n) = below_zero n

-- document 01's verdict or refusal for each case of the answer
abbrev pub said : Result Answered Given → Outcome Verdict
said (Ok v) = gives (verdict_said v)
said (Err e) = refuses (told e)

-- the verdict that charges earn where nothing is refused, between these figures' start and end
abbrev pub judged : Figures → List ℤ → Answered
judged f zs =
    let k = below_from 1 zs in
    pick (leb 1 k) (BelowZero k) (pick (le_z (pos f.end) (last_from (pos f.start) zs)) Feasible EndTooLow)

-- q the request, bs the budgets, xs the charges lent and ys the charges handed back, ls the losses lent and ms the
-- losses handed back, r the answer
pub record TraceSays (q : Request) (bs : List ℕ) (xs ys : List ℤ) (ls ms : List ℕ) (r : Result Answered Given) : Type 0 where
  pub answer : said r ≡ outcome (trace_refusal q (length bs) (length xs) (length ls)) (verdict q bs)
  pub charges : ys ≡ pick (is_none (trace_refusal q (length bs) (length xs) (length ls))) (trace q bs) xs
  pub losses : ms ≡ pick (is_none (trace_refusal q (length bs) (length xs) (length ls))) (trace_losses q bs) ls
  -- "feasible" is Definition 1, whatever the bounds, and then the charges and losses written are those of the frame
  -- rule
  pub feasible : is_none (trace_refusal q (length bs) (length xs) (length ls)) ≡ true →
      (r ≡ Ok Feasible) ↔ (C.drawable q bs ≡ true)
  pub feasible_charges : r ≡ Ok Feasible → ys ≡ map pos (C.charges q bs)
  pub feasible_losses : r ≡ Ok Feasible → ms ≡ C.losses q bs
  -- whatever the budgets, charges and losses account for every unit
  pub accounted : is_none (trace_refusal q (length bs) (length xs) (length ls)) ≡ true → Accounted q bs ys ms
  -- a frame named is the earliest below zero
  pub earliest : (n : ℕ) → r ≡ Ok (BelowZero n) → (i : ℕ) × (n ≡ suc i) × EarliestBelow i ys
  -- "end too low": none but the last is below zero, and the last is below the end charge
  pub too_low : r ≡ Ok EndTooLow →
      ((j : ℕ) → suc j < length ys → non_neg (get_or ys j (pos 0)) ≡ true) ×
      (le_z (pos q.figures.end) (last_from (pos q.figures.start) ys) ≡ false)
