-- Refusal 6 of a list one frame at a time, what its absence says of every harvest, and the sum of a list.
use mathlib.Core.Path.{◌≡◌, refl, ap, ◌∙◌}
use mathlib.Core.Bool.{Bool, true, false, false≢true}
use mathlib.Core.List.{List, [], ◌∷◌}
use Prim.Native.Nat.{ℕ, zero, suc, ◌+◌, ◌-◌, ◌*◌, ◌≤◌, ◌<◌}
use native.Mathlib.Nat.{mul-le-mul_left}
use native.Mathlib.Omega.{arith}
use lib.Dec.{leb, ltb}
use lib.ListN.{length, get_or}
use borrow.Author.Tests.{leb-true, le-ltb, ltb-false}
use Rattle.std.proofs.Common.{Option}
use Rattle.std.specs.List.{position_from, fold, sum}
use Rattle.model.specs.Refusals.{Refusal}
use Rattle.model.specs.Limits.{max_frames, max_harvest}
use Rattle.model.specs.Choice.{pick}
use Rattle.model.specs.Request.{Request, total, most_energy, due}
use Rattle.model.specs.Refusals.{refusal, none, is_none, harvest_over_limit, out_of_reach}
use Rattle.request.proofs.Place.{at_place, by_place}
use Rattle.request.proofs.Look.{look, by_look}

-- the first frame decides by its test
by_test : (k h : ℕ) (hs : List ℕ) (t : Bool) → ltb max_harvest h ≡ t
    → harvest_over_limit k
    (h ∷ hs) ≡ elim t as (λ _. Refusal) [ true ↦ refusal 6 k | false ↦ harvest_over_limit (suc k) hs ]
by_test k h hs t e =
    ap (λ (u : Bool). elim u as (λ _. Refusal) [ true ↦ refusal 6 k | false ↦ harvest_over_limit (suc k) hs ]) e

-- the refusal is that of the place found
pub over_place : (k : ℕ) (hs : List ℕ) {r s : Option ℕ} → r ≡ s → r ≡ position_from (ltb max_harvest) 0 hs →
    at_place 6 k s ≡ harvest_over_limit k hs
over_place =
    by_place 6 (ltb max_harvest) harvest_over_limit (λ k. refl) (λ k h hs e. by_test k h hs true e)
    (λ k h hs e. by_test k h hs false e)

-- a look at all shows that there is none
pub over_looked : (hs : List ℕ) → fold (look (λ h. leb h max_harvest)) true hs ≡ true → (k : ℕ) →
    harvest_over_limit k hs ≡ none
over_looked =
    by_look (λ h. leb h max_harvest) harvest_over_limit (λ k. refl)
    (λ k h hs e. by_test k h hs false (le-ltb max_harvest h (leb-true h max_harvest e))) true

-- where refusal 6 does not hold, every harvest is within the limit
pub harvest_small : (k : ℕ) (hs : List ℕ) → is_none (harvest_over_limit k hs) ≡ true → (i : ℕ) → get_or hs i 0 ≤ max_harvest
harvest_small k [] e i = omega arith
harvest_small k (h ∷ hs) e i = go (ltb max_harvest h) refl e (harvest_small (suc k) hs) i
  where
    go : (t : Bool) → ltb max_harvest h ≡ t
        → is_none (elim t as (λ _. Refusal) [ true ↦ refusal 6 k | false ↦ harvest_over_limit (suc k) hs ]) ≡ true
        → (is_none (harvest_over_limit (suc k) hs) ≡ true → (j : ℕ) → get_or hs j 0 ≤ max_harvest)
        → (j : ℕ) → get_or (h ∷ hs) j 0 ≤ max_harvest
    go true q f ih j = absurd (false≢true f)
    go false q f ih zero = ltb-false max_harvest h q
    go false q f ih (suc j) = ih f j

-- the sum of harvests within the limit
pub total_small : (m : ℕ) (hs : List ℕ) → ((i : ℕ) → get_or hs i 0 ≤ m) → total hs ≤ m * length hs
total_small m [] h = omega arith
total_small m (x ∷ hs) h = let r = total_small m hs (λ i. h (suc i)) in omega (arith, h 0)

-- the sum of all harvests that a request may have
pub total_fits : (hs : List ℕ) → ((i : ℕ) → get_or hs i 0 ≤ max_harvest) → length hs ≤ max_frames →
    total hs ≤ max_harvest * max_frames
total_fits hs h k = omega (arith, total_small max_harvest hs h, mul-le-mul_left max_harvest k)

-- the sum as the library has it
pub added_up : (a : ℕ) (xs : List ℕ) → fold ◌+◌ a xs ≡ a + total xs
added_up a [] = omega arith
added_up a (x ∷ xs) = let i = added_up (a + x) xs in i ∙ omega arith

pub total_is_sum : (xs : List ℕ) → sum xs ≡ total xs
total_is_sum xs = let i = added_up 0 xs in i ∙ omega arith

-- numbers below a bound add up below its product with how many they are
pub total_below : (m : ℕ) (xs : List ℕ) → ((i : ℕ) → get_or xs i 0 < m) → total xs ≤ m * length xs
total_below m xs h = total_small m xs (λ i. let l = h i in omega arith)

-- where refusal 9 does not hold, what is due is not above all there is
pub reach_within : (r : Request) → is_none (out_of_reach r) ≡ true → due r ≤ most_energy r
reach_within r e = go (ltb (most_energy r) (due r)) refl e
  where
    m : ℕ
    m = most_energy r

    p : ℕ
    p = due r - m

    go : (t : Bool) → ltb m (due r) ≡ t → is_none (pick t (refusal 9 p) none) ≡ true → due r ≤ m
    go true q f = absurd (false≢true f)
    go false q f = ltb-false m (due r) q
