-- Refusal 10 of two lists one frame at a time, and what its absence says of every least and most.
use mathlib.Core.Path.{◌≡◌, refl, sym, ap, ◌∙◌}
use mathlib.Core.Bool.{Bool, true, false, false≢true, not, ◌&&◌, ◌||◌}
use mathlib.Core.List.{List, [], ◌∷◌}
use Prim.Native.Nat.{ℕ, zero, suc, ◌≤◌}
use native.Mathlib.Omega.{arith}
use lib.Dec.{ltb, eqb}
use lib.ListN.{length, get_or}
use borrow.Author.Tests.{ltb-false, eqb-true, not-true}
use Rattle.std.proofs.Common.{Option, map}
use Rattle.std.specs.List.{fold, position_from, zip}
use Rattle.model.specs.Refusals.{Refusal}
use Rattle.model.specs.Limits.{max_bound, no_upper_end}
use Rattle.model.specs.Request.{Bounds, absent, bounds, bounds_of}
use Rattle.model.specs.Refusals.{refusal, none, is_none, bad_bounds, bounds_refused}
use Rattle.request.proofs.Place.{at_place, by_place}
use Rattle.request.proofs.Look.{look, by_look}

-- a frame's bounds that are not bad
pub record BoundsFit (l m : ℕ) : Type 0 where
  pub ordered : l ≤ m
  pub least_small : l ≤ max_bound
  pub most_small : (m ≡ no_upper_end → ⊥) → m ≤ max_bound

pub bounds_fit : (l m : ℕ) → bad_bounds (bounds l m) ≡ false → BoundsFit l m
bounds_fit l m e =
    go (ltb m l) refl (ltb max_bound l) refl (ltb max_bound m) refl (eqb m no_upper_end) refl e
  where
    fit : ltb m l ≡ false → ltb max_bound l ≡ false → ((m ≡ no_upper_end → ⊥) → m ≤ max_bound) → BoundsFit l m
    fit p q r = record { ordered = ltb-false m l p; least_small = ltb-false max_bound l q; most_small = r }

    go : (t : Bool) → ltb m l ≡ t → (u : Bool) → ltb max_bound l ≡ u → (v : Bool) → ltb max_bound m ≡ v → (x : Bool) →
        eqb m no_upper_end ≡ x → t || (u || (v && not x)) ≡ false → BoundsFit l m
    go true p u q v r x s h = absurd (false≢true (sym h))
    go false p true q v r x s h = absurd (false≢true (sym h))
    go false p false q true r true s h = fit p q (λ n. absurd (n (eqb-true m no_upper_end s)))
    go false p false q true r false s h = absurd (false≢true (sym h))
    go false p false q false r x s h = fit p q (λ n. ltb-false max_bound m r)

-- ---- the bounds of every frame

-- a pair of a least and a most
abbrev pub bounds_pair : ℕ × ℕ → Bounds
bounds_pair p = bounds p.0 p.1

-- whether they are bad
abbrev pub bad_pair : ℕ × ℕ → Bool
bad_pair p = bad_bounds (bounds_pair p)

-- as many as there are leasts and mosts
pub bounds_length : (ls ms : List ℕ) → length ls ≡ length ms → length (bounds_of ls ms) ≡ length ls
bounds_length [] ms e = refl
bounds_length (l ∷ ls) [] e = absurd (omega arith)
bounds_length (l ∷ ls) (m ∷ ms) e = ap suc (bounds_length ls ms (omega arith))

-- the first frame decides by its test
by_test : (k : ℕ) (w : Bounds) (ws : List Bounds) (t : Bool) → t ≡ bad_bounds w
    → bounds_refused k (w ∷ ws) ≡ elim t as (λ _. Refusal) [ true ↦ refusal 10 k | false ↦ bounds_refused (suc k) ws ]
by_test k w ws t e =
    ap (λ (u : Bool). elim u as (λ _. Refusal) [ true ↦ refusal 10 k | false ↦ bounds_refused (suc k) ws ]) (sym e)

-- leasts and mosts as pairs
pub bounds_zip : (ls ms : List ℕ) → map bounds_pair (zip ls ms) ≡ bounds_of ls ms
bounds_zip [] ms = refl
bounds_zip (l ∷ ls) [] = refl
bounds_zip (l ∷ ls) (m ∷ ms) = ap (λ (ws : List Bounds). bounds l m ∷ ws) (bounds_zip ls ms)

-- the refusal is that of the place found
pub bad_place : (k : ℕ) (ls ms : List ℕ) {r s : Option ℕ} → r ≡ s →
    r ≡ position_from bad_pair 0 (zip ls ms) →
    at_place 10 k s ≡ bounds_refused k (bounds_of ls ms)
bad_place k ls ms p q =
    by_place 10 bad_pair (λ (j : ℕ) (ps : List (ℕ × ℕ)). bounds_refused j (map bounds_pair ps))
    (λ j. refl)
    (λ j x xs e. by_test j (bounds_pair x) (map bounds_pair xs) true (sym e))
    (λ j x xs e. by_test j (bounds_pair x) (map bounds_pair xs) false (sym e))
    k (zip ls ms) p q
    ∙ ap (bounds_refused k) (bounds_zip ls ms)

-- a look at all shows that there is none
pub bad_looked : (ls ms : List ℕ) → fold (look (λ p. not (bad_pair p))) true (zip ls ms) ≡ true → (k : ℕ) →
    bounds_refused k (bounds_of ls ms) ≡ none
bad_looked ls ms e k =
    ap (bounds_refused k) (sym (bounds_zip ls ms))
    ∙ by_look (λ p. not (bad_pair p)) (λ (j : ℕ) (ps : List (ℕ × ℕ)). bounds_refused j (map bounds_pair ps)) (λ j. refl)
    (λ j x xs g. by_test j (bounds_pair x) (map bounds_pair xs) false (sym (not-true (bad_pair x) g))) true (zip ls ms) e k

-- where refusal 10 does not hold, it is none
pub bounds_none : (k : ℕ) (ws : List Bounds) → is_none (bounds_refused k ws) ≡ true → bounds_refused k ws ≡ none
bounds_none k [] e = refl
bounds_none k (w ∷ ws) e = go (bad_bounds w) e (bounds_none (suc k) ws)
  where
    go : (t : Bool)
        → is_none (elim t as (λ _. Refusal) [ true ↦ refusal 10 k | false ↦ bounds_refused (suc k) ws ]) ≡ true
        → (is_none (bounds_refused (suc k) ws) ≡ true → bounds_refused (suc k) ws ≡ none)
        → elim t as (λ _. Refusal) [ true ↦ refusal 10 k | false ↦ bounds_refused (suc k) ws ] ≡ none
    go true q ih = absurd (false≢true q)
    go false q ih = ih q

-- where refusal 10 does not hold, the bounds of every frame fit, absent ones too
pub bounds_each :
    (k : ℕ) (ws : List Bounds) → is_none (bounds_refused k ws) ≡ true → (i : ℕ) →
    let w = get_or ws i absent in BoundsFit w.least w.most
bounds_each k [] e i = record { ordered = omega arith; least_small = omega arith; most_small = λ n. absurd (n refl) }
bounds_each k (w ∷ ws) e i = go (bad_bounds w) refl e (bounds_each (suc k) ws) i
  where
    go : (t : Bool) → bad_bounds w ≡ t
        → is_none (elim t as (λ _. Refusal) [ true ↦ refusal 10 k | false ↦ bounds_refused (suc k) ws ]) ≡ true
        → (is_none (bounds_refused (suc k) ws) ≡ true → (j : ℕ) → let v = get_or ws j absent in
        BoundsFit v.least v.most)
        → (j : ℕ) → let v = get_or (w ∷ ws) j absent in BoundsFit v.least v.most
    go true q f ih j = absurd (false≢true f)
    go false q f ih zero = bounds_fit w.least w.most q
    go false q f ih (suc j) = ih f j
