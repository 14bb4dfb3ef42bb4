-- The logbook's refusals and those of shift and rest are two wordings of the same: the first that holds is the same.
use mathlib.Core.Path.{◌≡◌, refl, sym, ap, ◌∙◌}
use mathlib.Core.Bool.{Bool, true, false, not, ◌&&◌, ◌||◌}
use mathlib.Core.List.{List, [], ◌∷◌, ◌++◌, map}
use Prim.Native.Nat.{ℕ, zero, suc, ◌+◌, ◌-◌, ◌<◌}
use native.Mathlib.Numerals.{add-one}
use native.Mathlib.Omega.{arith}
use lib.Dec.{eqb, ltb}
use lib.ListN.{length, get_or, drop, length-drop}
use lib.Seq.{get_or-drop}
use borrow.Author.Tests.{lt-ltb, le-ltb}
use Rattle.std.specs.List.{range_with_len}
use Rattle.model.specs.Choice.{pick}
use Rattle.model.specs.Limits.{max_harvest, max_bound, no_upper_end}
use Rattle.model.specs.Request.{bounds, bounds_of, frame_count}
use Rattle.model.specs.Refusals.{Refusal, refusal, none, is_none, first_of, wrong_length, harvest_over_limit}
use Rattle.model.specs.Refusals.{bad_bounds, bounds_refused}
use Rattle.model.proofs.Choice.{pick_by}
use Rattle.model.proofs.First.{behind}
use Rattle.request.proofs.Within.{length_within}
use Rattle.shift.specs.declared.Typed.{Typed}
use Rattle.shift.specs.Shift as shift
use Rattle.rest.specs.Rest as rest
use Rattle.rest.specs.Rest.{Outlook}
use Rattle.shiftbook.specs.Logbook.{Logbook, terms, all_noted, over_limit, note_excess, note_refusals, entry}
use Rattle.shiftbook.specs.Logbook.{not_of_k, length_refusals, open_over_limit, unfit, open_unfit, planning_refusal}

-- 6, which the shift words with a list of one harvest
over_limit_agrees : (i h : ℕ) → over_limit i h ≡ harvest_over_limit i (h ∷ [])
over_limit_agrees i h = go (ltb max_harvest h)
  where
    go : (b : Bool) → pick b (refusal 6 i) none ≡ elim b as (λ _. Refusal) [ true ↦ refusal 6 i | false ↦ none ]
    go true = refl
    go false = refl

-- the lists of a recording are the same
pub note_agrees :
    (l : Logbook) (t : Typed) → note_refusals l t ≡ shift.recording_refusals (terms l) l.page.now t
note_agrees l t =
    let n = l.page.now.recorded in
    ap (λ (f : Refusal). all_noted l ∷ f ∷ note_excess l t ∷ [])
    (over_limit_agrees (n + 1) t.harvest ∙ ap (λ (i : ℕ). harvest_over_limit i (t.harvest ∷ [])) (add-one n))

-- a 7 in both wordings
length_agrees : (k n : ℕ) → pick (eqb n k) none (refusal 7 0) ≡ wrong_length k n
length_agrees k n = go (eqb n k)
  where
    go : (t : Bool) → pick t none (refusal 7 0) ≡ pick (not t) (refusal 7 0) none
    go true = refl
    go false = refl

-- the lists of 7s of a planning are the same
pub lengths_agree :
    (l : Logbook) (p : Outlook) (ns : List ℕ) → length_refusals l p ns ≡ rest.length_refusals (frame_count l.of) p ns
lengths_agree l p ns = all_agree (rest.lengths_of p ++ ns)
  where
    all_agree : (ms : List ℕ) → map (not_of_k l) ms ≡ map (wrong_length (frame_count l.of)) ms
    all_agree [] = refl
    all_agree (m ∷ ms) = cc (length_agrees (frame_count l.of) m, all_agree ms)

-- the first refusal r among k frames from i on, that of a frame behind frame n of which test t holds
module _ (n r : ℕ) (t : ℕ → Bool) where
  abbrev of_frame : Bool → ℕ → Refusal
  of_frame b i = pick b (refusal r i) none

  abbrev first_from : ℕ → ℕ → Refusal
  first_from i k = first_of (map (λ (j : ℕ). of_frame (ltb n j && t j) j) (range_with_len i k))

  -- the frames up to n are passed over
  passed_over : (d i k : ℕ) → i + d ≡ suc n → first_from i k ≡ first_from (suc n) (k - d)
  passed_over zero i k e =
      let a : i ≡ suc n = omega arith in
      let b : k ≡ k - 0 = omega arith in
      ap (λ (j : ℕ). first_from j k) a ∙ ap (first_from (suc n)) b
  passed_over (suc d) i zero e = let b : 0 ≡ 0 - suc d = omega arith in ap (first_from (suc n)) b
  passed_over (suc d) i (suc k) e =
      let b : k - d ≡ suc k - suc d = omega arith in
      let f = λ (s : Bool). of_frame (s && t i) i in
      ap (λ (s : Bool). pick (is_none (f s)) (first_from (i + 1) k) (f s)) (le-ltb n i (omega arith))
      ∙ passed_over d (i + 1) k (omega arith)
      ∙ ap (first_from (suc n)) b

  -- of a frame behind them the test decides
  decided :
      (i : ℕ) (s : Bool) (f g : Refusal) → eqb r 0 ≡ false → n < i → t i ≡ s → f ≡ g →
      pick (is_none (of_frame (ltb n i && t i) i)) f (of_frame (ltb n i && t i) i)
      ≡ elim s as (λ _. Refusal) [ true ↦ refusal r i | false ↦ g ]
  decided i s f g z l e d =
      ap (λ (b : Bool). pick (is_none (of_frame b i)) f (of_frame b i)) (ap (λ (b : Bool). b && t i) (lt-ltb n i l) ∙ e)
      ∙ go s
    where
      go :
          (b : Bool) → pick (is_none (of_frame b i)) f (of_frame b i)
          ≡ elim b as (λ _. Refusal) [ true ↦ refusal r i | false ↦ g ]
      go true = pick_by (eqb r 0) false f (refusal r i) z
      go false = d

-- a frame counted from the next one
onward : (i j : ℕ) → i + 1 + j ≡ i + suc j
onward i j = omega arith

-- frames that are all behind n: 6 counted along their harvests
over_limit_along :
    (n : ℕ) (t : ℕ → Bool) (i : ℕ) (hs : List ℕ) → n < i →
    ((j : ℕ) → t (i + j) ≡ ltb max_harvest (get_or hs j 0)) →
    first_from n 6 t i (length hs) ≡ harvest_over_limit i hs
over_limit_along n t i [] l e = refl
over_limit_along n t i (h ∷ hs) l e =
    let a : i ≡ i + 0 = omega arith in
    decided n 6 t i (ltb max_harvest h) (first_from n 6 t (i + 1) (length hs))
    (harvest_over_limit (suc i) hs) refl l (ap t a ∙ e 0)
    (over_limit_along n t (i + 1) hs (omega arith) (λ j. ap t (onward i j) ∙ e (suc j))
    ∙ ap (λ (k : ℕ). harvest_over_limit k hs) (add-one i))

-- the tests of 10
unfit_agrees : (least most : ℕ) → unfit least most ≡ bad_bounds (bounds least most)
unfit_agrees least most = go (ltb most least) (ltb max_bound least) (eqb most no_upper_end) (ltb max_bound most)
  where
    go : (a b c d : Bool) → a || b || (not c && d) ≡ a || (b || (d && not c))
    go true b c d = refl
    go false true c d = refl
    go false false true true = refl
    go false false true false = refl
    go false false false true = refl
    go false false false false = refl

-- and 10 counted along their bounds
unfit_along :
    (n : ℕ) (t : ℕ → Bool) (i : ℕ) (ls ms : List ℕ) → length ls ≡ length ms → n < i →
    ((j : ℕ) → t (i + j) ≡ unfit (get_or ls j 0) (get_or ms j 0)) →
    first_from n 10 t i (length ls) ≡ bounds_refused i (bounds_of ls ms)
unfit_along n t i [] ms d l e = refl
unfit_along n t i (x ∷ ls) [] d l e = absurd (omega arith)
unfit_along n t i (x ∷ ls) (y ∷ ms) d l e =
    let a : i ≡ i + 0 = omega arith in
    decided n 10 t i (bad_bounds (bounds x y)) (first_from n 10 t (i + 1) (length ls))
    (bounds_refused (suc i) (bounds_of ls ms)) refl l (ap t a ∙ e 0 ∙ unfit_agrees x y)
    (unfit_along n t (i + 1) ls ms (omega arith) (omega arith) (λ j. ap t (onward i j) ∙ e (suc j))
    ∙ ap (λ (k : ℕ). bounds_refused k (bounds_of ls ms)) (add-one i))

-- 6 and 10 of a planning
module _ (l : Logbook) (p : Outlook) where
  abbrev n : ℕ
  n = l.page.now.recorded

  -- what a list has for the frames not recorded yet
  entry_open : (j : ℕ) (xs : List ℕ) → entry xs (suc n + j) ≡ get_or (drop n xs) j 0
  entry_open j xs =
      let a : suc n + j - 1 ≡ n + j = omega arith in
      ap (λ (k : ℕ). get_or xs k 0) a ∙ sym (get_or-drop n xs j 0)

  -- and for how many
  open_length : (xs : List ℕ) → length xs ≡ frame_count l.of → frame_count l.of - n ≡ length (drop n xs)
  open_length xs e = ap (λ (k : ℕ). k - n) (sym e) ∙ sym (length-drop n xs)

  open_over_limit_agrees :
      length p.harvest ≡ frame_count l.of → open_over_limit l p ≡ rest.rest_over_limit l.page.now p.harvest
  open_over_limit_agrees e =
      let t = λ (i : ℕ). ltb max_harvest (entry p.harvest i) in
      passed_over n 6 t n 1 (frame_count l.of) (omega arith)
      ∙ ap (first_from n 6 t (suc n)) (open_length p.harvest e)
      ∙ over_limit_along n t (suc n) (drop n p.harvest) (omega arith)
      (λ j. ap (ltb max_harvest) (entry_open j p.harvest))

  open_unfit_agrees :
      length p.wanted.least ≡ frame_count l.of → length p.wanted.most ≡ frame_count l.of →
      open_unfit l p ≡ rest.rest_bounds l.page.now p.wanted
  open_unfit_agrees e d =
      let w = p.wanted in
      let t = λ (i : ℕ). unfit (entry w.least i) (entry w.most i) in
      passed_over n 10 t n 1 (frame_count l.of) (omega arith)
      ∙ ap (first_from n 10 t (suc n)) (open_length w.least e)
      ∙ unfit_along n t (suc n) (drop n w.least) (drop n w.most)
      (sym (open_length w.least e) ∙ open_length w.most d) (omega arith)
      (λ j. cc (entry_open j w.least, entry_open j w.most))

-- of the lists of a planning, the first refusals are the same
pub planning_agrees :
    (l : Logbook) (p : Outlook) (ns : List ℕ) →
    planning_refusal l p ns ≡ first_of (rest.planning_refusals (terms l) l.page.now p ns)
planning_agrees l p ns =
    let k = frame_count l.of in
    let fs = all_noted l ∷ open_over_limit l p ∷ open_unfit l p ∷ [] in
    let h = rest.rest_over_limit l.page.now p.harvest in
    let w = rest.rest_bounds l.page.now p.wanted in
    ap (λ (gs : List Refusal). first_of (gs ++ fs)) (lengths_agree l p ns)
    ∙ behind (rest.length_refusals k p ns) fs (all_noted l ∷ h ∷ w ∷ [])
    (λ e.
    let x = length_within k (length p.harvest) e.0 in
    let y = length_within k (length p.wanted.least) e.1.0 in
    let z = length_within k (length p.wanted.most) e.1.1.0 in
    let s : fs ≡ all_noted l ∷ h ∷ w ∷ [] = cc (open_over_limit_agrees l p x, open_unfit_agrees l p y z) in
    ap first_of s)
