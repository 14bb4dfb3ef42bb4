-- The verdict found by going through the charges: the earliest below zero, and the last.
use mathlib.Core.Path.{◌≡◌, refl, sym, ap, ◌∙◌}
use mathlib.Core.Bool.{Bool, true, false}
use mathlib.Core.List.{List, [], ◌∷◌}
use Prim.Native.Nat.{ℕ, zero, suc, ◌+◌, ◌≤◌, ◌<◌, ◌^◌}
use native.Mathlib.Omega.{arith}
use native.Mathlib.Numerals.{add-one}
use lib.IntN.{ℤ, pos}
use lib.Dec.{leb}
use lib.Signed.{mag, le_z, non_neg}
use lib.ListN.{length, get_or, take, drop}
use lib.Seq.{drop-cons}
use mir.Syntax.{w64}
use mir.Val.{to_z, of_z}
use borrow.Author.Tests.{le-leb, lt-leb}
use Rattle.model.specs.Choice.{pick}
use Rattle.model.specs.declared.Figures.{Figures}
use Rattle.model.specs.Trace.{below_from, last_from}
use Rattle.model.proofs.Choice.{pick_by}
use Rattle.tracer.specs.Says.{judged}
use Rattle.std.proofs.Common.{Option, Some, None, not, cond}
use Rattle.std.specs.List.{position_from}
use Rattle.tracer.specs.declared.Verdict.TheVariants.{Feasible, EndTooLow, BelowZero}
use Rattle.model.proofs.Machine.{widen, back}

-- whether a charge is below zero
abbrev pub is_below : ℤ → Bool
is_below z = not (non_neg z)

-- a place, from 0, as a frame, the first being frame k; 0 for none
abbrev pub frame_at : ℕ → Option ℕ → ℕ
frame_at k None = 0
frame_at k (Some i) = k + i

-- the earliest frame below zero by the place of the first such charge before the last
below_place_from : (k i n : ℕ) (zs : List ℤ) → length zs ≡ suc n →
    frame_at k (position_from is_below i (take n zs)) ≡ below_from (k + i) zs
below_place_from k i n [] e = let b : ⊥ = omega arith in absurd b
below_place_from k i zero (z ∷ []) e = refl
below_place_from k i (suc n) (z ∷ []) e = let b : ⊥ = omega arith in absurd b
below_place_from k i zero (z ∷ (y ∷ zs)) e = let b : ⊥ = omega arith in absurd b
below_place_from k i (suc n) (z ∷ (y ∷ zs)) e =
    let s : k + (i + 1) ≡ suc (k + i) = omega arith in
    go (non_neg z) (below_place_from k (i + 1) n (y ∷ zs) (omega arith) ∙ ap (λ (m : ℕ). below_from m (y ∷ zs)) s)
  where
    go : (t : Bool) → frame_at k (position_from is_below (i + 1) (take n (y ∷ zs))) ≡ below_from (suc (k + i)) (y ∷ zs)
        → frame_at k (cond (not t) (Some i) (position_from is_below (i + 1) (take n (y ∷ zs))))
        ≡ elim t as (λ _. ℕ) [ true ↦ below_from (suc (k + i)) (y ∷ zs) | false ↦ k + i ]
    go true h = h
    go false h = refl

pub below_place : (n : ℕ) (zs : List ℤ) {r s : Option ℕ} → length zs ≡ suc n → r ≡ s →
    r ≡ position_from is_below 0 (take n zs) → frame_at 1 s ≡ below_from 1 zs
below_place n zs e p q = ap (frame_at 1) (sym p ∙ q) ∙ below_place_from 1 0 n zs e

-- two charges that are left
two : (i : ℕ) (zs : List ℤ) → i + 1 < length zs → drop i zs ≡ get_or zs i (pos 0)
    ∷ (get_or zs (suc i) (pos 0) ∷ drop (suc (suc i)) zs)
two i zs l =
    drop-cons zs i (pos 0) (omega arith)
    ∙ ap (λ (ys : List ℤ). get_or zs i (pos 0) ∷ ys) (drop-cons zs (suc i) (pos 0) (omega arith))

-- the first of two charges decides by its sign
by_sign : (k : ℕ) (z y : ℤ) (zs : List ℤ) (t : Bool) → non_neg z ≡ t
    → below_from k (z ∷ (y ∷ zs)) ≡ elim t as (λ _. ℕ) [ true ↦ below_from (suc k) (y ∷ zs) | false ↦ k ]
by_sign k z y zs t e = ap (λ (u : Bool). elim u as (λ _. ℕ) [ true ↦ below_from (suc k) (y ∷ zs) | false ↦ k ]) e

-- a charge below zero that is not the last is the one found
pub found : (k i : ℕ) (zs : List ℤ) → i + 1 < length zs → non_neg (get_or zs i (pos 0)) ≡ false →
    below_from k (drop i zs) ≡ k
found k i zs l e =
    ap (below_from k) (two i zs l)
    ∙ by_sign k (get_or zs i (pos 0)) (get_or zs (suc i) (pos 0)) (drop (suc (suc i)) zs) false e

-- any other is passed over
pub passed : (i : ℕ) (zs : List ℤ) → i + 1 < length zs → non_neg (get_or zs i (pos 0)) ≡ true
    → below_from (i + 1 + 1) (drop (i + 1) zs) ≡ below_from (i + 1) (drop i zs)
passed i zs l e =
    let k : i + 1 + 1 ≡ suc (i + 1) = omega arith in
    rw (k, add-one i)
    (ap (below_from (suc (suc i))) (drop-cons zs (suc i) (pos 0) (omega arith))
    ∙ sym (ap (below_from (suc i)) (two i zs l)
    ∙ by_sign (suc i) (get_or zs i (pos 0)) (get_or zs (suc i) (pos 0)) (drop (suc (suc i)) zs) true e))

-- the last charge by its place
pub last_is : (x : ℤ) (n : ℕ) (zs : List ℤ) → length zs ≡ suc n → last_from x zs ≡ get_or zs n (pos 0)
last_is x n [] e = let b : ⊥ = omega arith in absurd b
last_is x zero (z ∷ []) e = refl
last_is x (suc n) (z ∷ []) e = let b : ⊥ = omega arith in absurd b
last_is x zero (z ∷ (y ∷ zs)) e = let b : ⊥ = omega arith in absurd b
last_is x (suc n) (z ∷ (y ∷ zs)) e = last_is z n (y ∷ zs) (omega arith)

-- the answer where a frame is below zero
pub judged_below : (f : Figures) (zs : List ℤ) (k : ℕ) → k ≡ below_from 1 zs → 1 ≤ k → BelowZero k ≡ judged f zs
judged_below f zs k p l =
    ap BelowZero p
    ∙ sym (pick_by (leb 1 (below_from 1 zs)) true (BelowZero (below_from 1 zs))
    (pick (le_z (pos f.end) (last_from (pos f.start) zs)) Feasible EndTooLow)
    (le-leb 1 (below_from 1 zs) (omega arith)))

-- the answer where none is: the machine's test of the last charge decides
pub judged_end : (f : Figures) (n : ℕ) (zs : List ℤ) → below_from 1 zs < 1 → length zs ≡ suc n → f.end < 2 ^ 32 →
    mag (get_or zs n (pos 0)) < 2 ^ 63
    → (t : Bool) → le_z (to_z w64 f.end) (to_z w64 (of_z w64 (get_or zs n (pos 0)))) ≡ t →
    pick t Feasible EndTooLow ≡ judged f zs
judged_end f n zs l m fe fz t q =
    let u : le_z (pos f.end) (get_or zs n (pos 0)) ≡ t = rw (widen f.end fe, back (get_or zs n (pos 0)) fz) at q in
    let last : le_z (pos f.end) (last_from (pos f.start) zs) ≡ t = rw (last_is (pos f.start) n zs m) u in
    sym
    (pick_by (leb 1 (below_from 1 zs)) false (BelowZero (below_from 1 zs))
    (pick (le_z (pos f.end) (last_from (pos f.start) zs)) Feasible EndTooLow)
    (lt-leb 1 (below_from 1 zs) l)
    ∙ pick_by (le_z (pos f.end) (last_from (pos f.start) zs)) t Feasible EndTooLow last)

-- where no frame is found, none but the last is below zero
pub none_below : (k : ℕ) (zs : List ℤ) → below_from (suc k) zs ≡ 0 → (j : ℕ) → suc j < length zs →
    non_neg (get_or zs j (pos 0)) ≡ true
none_below k [] e j l = let b : ⊥ = omega arith in absurd b
none_below k (z ∷ []) e j l = let b : ⊥ = omega arith in absurd b
none_below k (z ∷ (y ∷ zs)) e j l = go (non_neg z) refl e (none_below (suc k) (y ∷ zs)) j l
  where
    go : (t : Bool) → non_neg z ≡ t →
        ◌≡◌ {A = ℕ} (elim t as (λ _. ℕ) [ true ↦ below_from (suc (suc k)) (y ∷ zs) | false ↦ suc k ]) 0
        → (below_from (suc (suc k)) (y ∷ zs) ≡ 0 → (i : ℕ) → suc i < length (y ∷ zs) →
        non_neg (get_or (y ∷ zs) i (pos 0)) ≡ true)
        → (i : ℕ) → suc i < length (z ∷ (y ∷ zs)) → non_neg (get_or (z ∷ (y ∷ zs)) i (pos 0)) ≡ true
    go true q h ih zero m = q
    go true q h ih (suc i) m = ih h i (omega arith)
    go false q h ih i m = let b : ⊥ = omega arith in absurd b
