-- A refusal of everything is no answer of the tracer, and losses of 0 or left unwritten are no losses.
use mathlib.Core.Path.{◌≡◌, ap, ◌∙◌}
use mathlib.Core.List.{List, [], ◌∷◌}
use Prim.Native.Nat.{ℕ}
use lib.IntN.{ℤ}
use lib.ListN.{length, replicate}
use Rattle.std.proofs.Common.{Result, Err}
use Rattle.model.specs.declared.refusal.Refusal.{Refusal as Given}
use Rattle.model.specs.Answer.{told}
use Rattle.tracer.specs.declared.Verdict.{Verdict as Answered}
use Rattle.model.specs.Choice.{pick}
use Rattle.model.specs.Request.{Request, figures, request}
use Rattle.model.specs.Refusals.{is_none, trace_refusal}
use Rattle.model.specs.Trace.{verdict, trace_losses}
use Rattle.model.proofs.Outcome.{no_refusal}
use Rattle.tracer.specs.Says.{TraceSays}

-- document 01's request that it traces with budgets 4, 4, 4, 4, 2, 2
abbrev pub traced : Request
traced = request (figures 22 2 2) (6 ∷ 4 ∷ 0 ∷ 0 ∷ 5 ∷ 5 ∷ [])

-- no refusal of it, with any six budgets and any lists of six charges and six losses lent, whatever is handed back
pub not_refused : (bs : List ℕ) (xs ys : List ℤ) (ls ms : List ℕ) (e : Given) →
    length bs ≡ 6 → length xs ≡ 6 → length ls ≡ 6 → TraceSays traced bs xs ys ls ms (Err e) → ⊥
not_refused bs xs ys ls ms e b c l p =
    no_refusal (trace_refusal traced (length bs) (length xs) (length ls)) (verdict traced bs)
    (ap (λ (n : ℕ). is_none (trace_refusal traced n (length xs) (length ls))) b
    ∙ (ap (λ (n : ℕ). is_none (trace_refusal traced 6 n (length ls))) c
    ∙ ap (λ (n : ℕ). is_none (trace_refusal traced 6 6 n)) l)) (told e) p.answer

-- the listing's request, whose six zeros lose 3, 4, 0, 0, 5, 5 by document 02
abbrev pub idle : Request
idle = request (figures 5 2 2) (6 ∷ 4 ∷ 0 ∷ 0 ∷ 5 ∷ 5 ∷ [])

-- no other losses of them, whatever was lent and answered: not zeros, and not the list as it was
pub other_losses_refused : (xs ys : List ℤ) (ls ms : List ℕ) (r : Result Answered Given) → length xs ≡ 6 → length ls ≡ 6 →
    TraceSays idle (replicate 6 0) xs ys ls ms r → ms ≡ 3 ∷ 4 ∷ 0 ∷ 0 ∷ 5 ∷ 5 ∷ []
other_losses_refused xs ys ls ms r c l p =
    p.losses
    ∙ (ap (λ (n : ℕ). pick (is_none (trace_refusal idle 6 n (length ls))) (trace_losses idle (replicate 6 0)) ls) c
    ∙ ap (λ (n : ℕ). pick (is_none (trace_refusal idle 6 6 n)) (trace_losses idle (replicate 6 0)) ls) l)
