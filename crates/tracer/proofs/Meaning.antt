-- The promise of the tracer, refused and not: from the equations to what the verdict means.
use mathlib.Core.Path.{◌≡◌, refl, sym, ap, subst, ◌∙◌}
use mathlib.Core.Bool.{Bool, true, false, false≢true}
use mathlib.Core.List.{List}
use Prim.Native.Nat.{ℕ, suc, ◌<◌}
use native.Mathlib.Omega.{arith}
use lib.Dec.{leb}
use lib.IntN.{ℤ, pos}
use lib.Signed.{le_z, non_neg}
use lib.ListN.{length, get_or}
use borrow.Author.Tests.{leb-false}
use Rattle.model.specs.Choice.{pick}
use Rattle.model.specs.Request.{Request}
use Rattle.model.specs.Refusals.{gives, refuses, is_none, trace_refusal}
use Rattle.model.specs.Trace.{below_zero, end_too_low, is_feasible, below_from, last_from, trace, verdict, EarliestBelow}
use Rattle.model.specs.Trace.{trace_losses}
use Rattle.model.proofs.Trace as model
use Rattle.model.proofs.Losses.{trace_accounted}
use Rattle.model.proofs.Choice.{apart, pick_by}
use Rattle.request.proofs.Within.{trace_within}
use Rattle.std.proofs.Common.{Ok, Err}
use Rattle.model.specs.declared.refusal.Refusal.{Refusal as Given}
use Rattle.model.specs.Answer.{told}
use Rattle.model.proofs.Answer.{told_some}
use Rattle.tracer.specs.declared.Verdict.{Verdict as Answered}
use Rattle.tracer.specs.declared.Verdict.TheVariants.{Feasible, EndTooLow, BelowZero}
use Rattle.tracer.specs.Says.{verdict_said, judged, TraceSays}
use Rattle.tracer.proofs.Search.{none_below}

-- a refusal alters nothing and is answered
pub refused : (q : Request) (bs : List ℕ) (xs : List ℤ) (ls : List ℕ) (e : Given) →
    told e ≡ trace_refusal q (length bs) (length xs) (length ls) → TraceSays q bs xs xs ls ls (Err e)
refused q bs xs ls e p =
    let g = trace_refusal q (length bs) (length xs) (length ls) in
    let n : is_none g ≡ false = sym (ap is_none p) ∙ told_some e in
    record {
      answer = ap refuses p ∙ sym (pick_by (is_none g) false (gives (verdict q bs)) (refuses g) n);
      charges = sym (pick_by (is_none g) false (trace q bs) xs n);
      losses = sym (pick_by (is_none g) false (trace_losses q bs) ls n);
      feasible = λ h. absurd (false≢true (sym n ∙ h));
      feasible_charges = λ h. apart (cc);
      feasible_losses = λ h. apart (cc);
      accounted = λ h. absurd (false≢true (sym n ∙ h));
      earliest = λ k h. apart (cc);
      too_low = λ h. apart (cc);
    }

-- the answer that the charges earn is the verdict that they earn
said_by : (k : ℕ) (s t : Bool) → verdict_said (pick s (BelowZero k) (pick t Feasible EndTooLow)) ≡
    pick s (below_zero k) (pick t is_feasible end_too_low)
said_by k true t = refl
said_by k false true = refl
said_by k false false = refl

said_judged : (q : Request) (bs : List ℕ) → verdict_said (judged q.figures (trace q bs)) ≡ verdict q bs
said_judged q bs =
    let zs = trace q bs in
    let k = below_from 1 zs in
    said_by k (leb 1 k) (le_z (pos q.figures.end) (last_from (pos q.figures.start) zs))

-- only one verdict says "feasible"
said_feasible : (v : Answered) → verdict_said v ≡ is_feasible → v ≡ Feasible
said_feasible Feasible e = refl
said_feasible EndTooLow e = cc
said_feasible (BelowZero n) e = cc

-- a frame that the verdict names is the earliest below zero
earliest_of : (q : Request) (bs : List ℕ) (ys : List ℤ) (k : ℕ) → verdict q bs ≡ below_zero k → ys ≡ trace q bs →
    (i : ℕ) × (k ≡ suc i) × EarliestBelow i ys
earliest_of q bs ys k u p =
    subst (λ (zs : List ℤ). (i : ℕ) × (k ≡ suc i) × EarliestBelow i zs) (sym p) (model.verdict_below q bs k u)

-- the two tests behind "end too low"
low_by : (k : ℕ) (s t : Bool) → pick s (below_zero k) (pick t is_feasible end_too_low) ≡ end_too_low →
    (s ≡ false) × (t ≡ false)
low_by k true t e = apart (cc)
low_by k false true e = apart (cc)
low_by k false false e = (refl, refl)

-- "end too low" says that none but the last is below zero, and that the last is below the end charge
too_low_of : (q : Request) (bs : List ℕ) (ys : List ℤ) → verdict q bs ≡ end_too_low → ys ≡ trace q bs
    → ((j : ℕ) → suc j < length ys → non_neg (get_or ys j (pos 0)) ≡ true) ×
    (le_z (pos q.figures.end) (last_from (pos q.figures.start) ys) ≡ false)
too_low_of q bs ys u p =
    let zs = trace q bs in
    let k = below_from 1 zs in
    let l = low_by k (leb 1 k) (le_z (pos q.figures.end) (last_from (pos q.figures.start) zs)) u in
    let n : k < 1 = leb-false 1 k l.0 in
    subst
    (λ (xs : List ℤ). ((j : ℕ) → suc j < length xs → non_neg (get_or xs j (pos 0)) ≡ true) ×
    (le_z (pos q.figures.end) (last_from (pos q.figures.start) xs) ≡ false))
    (sym p)
    (none_below 0 zs (omega arith), l.1)

-- where nothing is refused, the charges and losses of the trace and the verdict that the charges earn keep the promise
pub traced : (q : Request) (bs : List ℕ) (xs ys : List ℤ) (ls ms : List ℕ) (v : Answered) →
    is_none (trace_refusal q (length bs) (length xs) (length ls)) ≡ true →
    ys ≡ trace q bs → ms ≡ trace_losses q bs → v ≡ judged q.figures ys → TraceSays q bs xs ys ls ms (Ok v)
traced q bs xs ys ls ms v n p o e =
    let g = trace_refusal q (length bs) (length xs) (length ls) in
    let w = trace_within q (length bs) (length xs) (length ls) n in
    let u : verdict_said v ≡ verdict q bs =
    ap verdict_said e ∙ ap (λ (zs : List ℤ). verdict_said (judged q.figures zs)) p
    ∙ said_judged q bs in
    let m = model.verdict_feasible q bs w.budgets in
    record {
      answer = ap gives u ∙ sym (pick_by (is_none g) true (gives (verdict q bs)) (refuses g) n);
      charges = p ∙ sym (pick_by (is_none g) true (trace q bs) xs n);
      losses = o ∙ sym (pick_by (is_none g) true (trace_losses q bs) ls n);
      feasible = λ h. ((λ a. m.0 (cc)), (λ a. ap Ok (said_feasible v (u ∙ m.1 a))));
      feasible_charges = λ a. p ∙ model.trace_charges q bs (m.0 (cc));
      feasible_losses = λ a. o ∙ model.trace_losses_lem q bs (m.0 (cc));
      accounted = λ h. rw (p, o) (trace_accounted q bs w.budgets);
      earliest = λ k a. earliest_of q bs ys k (cc) p;
      too_low = λ a. too_low_of q bs ys (cc) p;
    }
