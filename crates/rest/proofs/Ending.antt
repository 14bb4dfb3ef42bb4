-- How a planning ends, by whether the rest can be reached; what zero budgets miss; and the rest has a budget for each
-- frame.
use mathlib.Core.Path.{◌≡◌, refl, sym, ap, ◌∙◌}
use mathlib.Core.Bool.{Bool, true, false, not}
use mathlib.Core.List.{List, [], ◌∷◌}
use Prim.Native.Nat.{ℕ, ◌+◌, ◌-◌, ◌≤◌}
use native.Mathlib.Omega.{arith}
use lib.IntN.{ℤ, pos}
use lib.Dec.{ltb}
use lib.ListN.{length, replicate, length-replicate}
use borrow.Author.Tests.{ltb-false}
use Rattle.model.specs.Choice.{pick}
use Rattle.model.specs.Request.{Request, total, frame_count, leasts, most_energy, due}
use Rattle.model.specs.Refusals.{refusal, none, refuse_if, first_of, out_of_reach, leasts_refused, reachable}
use Rattle.model.specs.Charge.{frame_end, feasible}
use Rattle.model.specs.Trace.{traced_end, trace_from, last_from}
use Rattle.model.specs.declared.frame.TracedEnd.{TracedEnd}
use Rattle.model.specs.Plan.{plan_of}
use Rattle.model.proofs.Choice.{pick_by}
use Rattle.model.proofs.Lengths.{plan_of_length}
use Rattle.model.proofs.Trace.{traced_within}
use Rattle.rest.specs.Rest.{Ending, not_short, zeros, missing_to, missing_with_zeros, ending_of, rest_budgets}

-- the rest's budgets are one for each of its frames
pub rest_length : (q : Request) → length (rest_budgets q) ≡ frame_count q
rest_length q = go (ending_of q).short
  where
    go : (t : Bool) → length (pick t (zeros q) (plan_of q)) ≡ frame_count q
    go true = length-replicate (frame_count q) 0
    go false = plan_of_length q

-- ---- what zero budgets miss

-- a store that was full ends full, and the end charge is within the capacity
zeros_miss : (c e x : ℕ) (hs : List ℕ) → x ≤ c → e ≤ c →
    missing_to e (last_from (pos x) (trace_from c (pos x) hs (replicate (length hs) 0))) ≡ e - (x + total hs)
zeros_miss c e x [] p q = omega arith
zeros_miss c e x (h ∷ hs) p q =
    let y = (frame_end c x h 0).charge in
    let z : (traced_end c (pos x) h 0).charge ≡ pos y =
    ap (λ (r : TracedEnd). r.charge) (traced_within c x h 0 (omega arith)) in
    ap (λ (w : ℤ). missing_to e (last_from w (trace_from c w hs (replicate (length hs) 0)))) z
    ∙ (zeros_miss c e y hs (omega arith) q ∙ same c e x h (total hs) q)
  where
    same : (c e x h t : ℕ) → e ≤ c → e - ((frame_end c x h 0).charge + t) ≡ e - (x + (h + t))
    same c e x h t q = omega arith

-- P of the refusal by which nothing is feasible is what they miss
unreachable_p : (q : Request) (t : Bool) →
    (first_of (out_of_reach q ∷ refuse_if t 11 ∷ [])).p ≡ due q - most_energy q
unreachable_p q t = go (ltb (most_energy q) (due q)) refl t
  where
    p : ℕ
    p = due q - most_energy q

    go : (u : Bool) → ltb (most_energy q) (due q) ≡ u → (t : Bool) →
        (first_of (pick u (refusal 9 p) none ∷ refuse_if t 11 ∷ [])).p ≡ p
    go true e t = refl
    go false e true = let l = ltb-false (most_energy q) (due q) e in omega arith
    go false e false = let l = ltb-false (most_energy q) (due q) e in omega arith

pub short_by_lem : (q : Request) → q.figures.start ≤ q.figures.capacity → q.figures.end ≤ q.figures.capacity →
    (first_of (out_of_reach q ∷ leasts_refused q ∷ [])).p ≡ missing_with_zeros q
short_by_lem q s e =
    unreachable_p q (not (feasible q (leasts q)))
    ∙ sym (zeros_miss q.figures.capacity q.figures.end q.figures.start q.harvest s e)

-- ---- the ending

-- two endings of the same parts
same_ending :
    (t u : Bool) (m n : ℕ) → t ≡ u → m ≡ n →
    ◌≡◌ {A = Ending} (record { short = t; missing = m }) (record { short = u; missing = n })
same_ending t u m n e d = cc

-- what cannot be reached is short by that
pub ending_short : (q : Request) (m : ℕ) → reachable q ≡ false → m ≡ missing_with_zeros q →
    record { short = true; missing = m } ≡ ending_of q
ending_short q m e d =
    same_ending true (ending_of q).short m (ending_of q).missing (sym (ap not e))
    (d ∙ sym (pick_by (reachable q) false 0 (missing_with_zeros q) e))

-- what can is not
pub ending_full : (q : Request) → reachable q ≡ true → not_short ≡ ending_of q
ending_full q e =
    same_ending false (ending_of q).short 0 (ending_of q).missing (sym (ap not e))
    (sym (pick_by (reachable q) true 0 (missing_with_zeros q) e))
