-- Every refusal is short: a number of at most two digits, and a P of at most ten.
use mathlib.Core.Path.{◌≡◌, refl}
use mathlib.Core.Bool.{Bool, true, false, not}
use mathlib.Core.List.{List, [], ◌∷◌}
use Prim.Native.Nat.{ℕ, suc, ◌+◌, ◌-◌, ◌^◌, ◌≤◌, ◌<◌}
use native.Mathlib.Omega.{arith}
use borrow.Author.Tests.{ltb-false}
use lib.Dec.{eqb, ltb}
use lib.ListN.{length}
use Rattle.model.specs.Refusals.{Refusal}
use Rattle.model.specs.Choice.{pick}
use Rattle.model.specs.Limits.{max_frames, max_harvest, max_capacity}
use Rattle.model.specs.Request.{Bounds, Request, frame_count, leasts, most_energy}
use Rattle.model.specs.Charge.{feasible}
use Rattle.model.specs.Refusals.{refusal, none, is_none, refuse_if, first_of, served_refusals, plan_refusals}
use Rattle.model.specs.Refusals.{whole_plan_refusal}
use Rattle.model.specs.Refusals.{harvest_over_limit, bad_bounds, bounds_refused, out_of_reach}
use Rattle.request.proofs.Within.{test_failed}
use Rattle.wordfile.specs.File.{read_refusal}
use Rattle.wordfile.proofs.Refused.{read_small}

-- a refusal of so few digits
pub record Short (f : Refusal) : Type 0 where
  pub short_number : f.number < 10 ^ 2
  pub short_p : f.p < 10 ^ 10

none_short : Short none
none_short = record { short_number = omega arith; short_p = omega arith }

-- each refusal of a list is short where those before it are none
abbrev InTurn : List Refusal → Type 0
InTurn [] = Unit {0}
InTurn (f ∷ fs) = Short f × (is_none f ≡ true → InTurn fs)

-- so the first is short
first_short : (fs : List Refusal) → InTurn fs → Short (first_of fs)
first_short [] h = none_short
first_short (f ∷ fs) h = go (is_none f) refl (first_short fs)
  where
    go : (t : Bool) → is_none f ≡ t → (InTurn fs → Short (first_of fs)) → Short (pick t (first_of fs) f)
    go true e ih = ih (h.1 e)
    go false e ih = h.0

-- a refusal made by a test
test_short : (t : Bool) (n : ℕ) → n < 100 → Short (refuse_if t n)
test_short true n h = record { short_number = omega arith; short_p = omega arith }
test_short false n h = none_short

-- refusal 6 names a frame
harvest_short : (k : ℕ) (hs : List ℕ) → k + length hs < 10 ^ 10 → Short (harvest_over_limit k hs)
harvest_short k [] h = none_short
harvest_short k (x ∷ hs) h = go (ltb max_harvest x) (harvest_short (suc k) hs (omega arith))
  where
    go : (t : Bool) → Short (harvest_over_limit (suc k) hs) →
        Short (elim t as (λ _. Refusal) [ true ↦ refusal 6 k | false ↦ harvest_over_limit (suc k) hs ])
    go true i = record { short_number = omega arith; short_p = omega arith }
    go false i = i

-- so does refusal 10
bounds_short : (k : ℕ) (ws : List Bounds) → k + length ws < 10 ^ 10 → Short (bounds_refused k ws)
bounds_short k [] h = none_short
bounds_short k (w ∷ ws) h = go (bad_bounds w) (bounds_short (suc k) ws (omega arith))
  where
    go : (t : Bool) → Short (bounds_refused (suc k) ws) →
        Short (elim t as (λ _. Refusal) [ true ↦ refusal 10 k | false ↦ bounds_refused (suc k) ws ])
    go true i = record { short_number = omega arith; short_p = omega arith }
    go false i = i

-- refusal 9 names an amount of at most the end charge
reach_short : (r : Request) → r.figures.end < 10 ^ 10 → Short (out_of_reach r)
reach_short r h = go (ltb (most_energy r) r.figures.end)
  where
    go : (t : Bool) → Short (pick t (refusal 9 (r.figures.end - most_energy r)) none)
    go true = record { short_number = omega arith; short_p = omega arith }
    go false = none_short

-- what planning refuses of a request with lists of its own length
pub plan_short : (r : Request) → length r.bounds ≤ frame_count r → Short (whole_plan_refusal r)
plan_short r many =
    let k = frame_count r in
    let f = r.figures in
    first_short (plan_refusals r k k (k ∷ [])) (
      test_short (eqb k 0) 1 (omega arith),
      λ some. (
        test_short (ltb max_frames k) 2 (omega arith),
        λ few.
            let n = ltb-false max_frames k (test_failed (ltb max_frames k) 1 few) in (
              test_short (not (eqb k k)) 7 (omega arith),
              λ leasts. (
                test_short (not (eqb k k)) 7 (omega arith),
                λ mosts. (
                  test_short (not (eqb k k)) 7 (omega arith),
                  λ budgets. served r (omega arith) (omega arith),
                ),
              ),
            ),
      ),
    )
  where
    -- past the lengths: figures, bounds and reach
    served : (r : Request) → frame_count r ≤ max_frames → length r.bounds ≤ max_frames → InTurn (served_refusals r)
    served r few many =
        let f = r.figures in (
          test_short (ltb max_capacity f.capacity) 3 (omega arith),
          λ small. (
            test_short (ltb f.capacity f.start) 4 (omega arith),
            λ start. (
              test_short (ltb f.capacity f.end) 5 (omega arith),
              λ end. (
                harvest_short 1 r.harvest (omega arith),
                λ harvest. (
                  bounds_short 1 r.bounds (omega arith),
                  λ bounds. (
                    reach_short r
                        (omega (
                          arith,
                          ltb-false max_capacity f.capacity (test_failed (ltb max_capacity f.capacity) 2 small),
                          ltb-false f.capacity f.end (test_failed (ltb f.capacity f.end) 4 end),
                        )),
                    λ reach. (test_short (not (feasible r (leasts r))) 11 (omega arith), λ drawn. tt),
                  ),
                ),
              ),
            ),
          ),
        )

-- what the reader refuses
pub read_short : (s : List ℕ) → Short (read_refusal s max_frames max_frames max_frames)
read_short s =
    let r = read_small s max_frames max_frames max_frames in
    record { short_number = omega (arith, r.0); short_p = omega (arith, r.1) }
