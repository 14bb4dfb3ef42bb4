-- The numbers that refusals have: a test of numbers that no refusal of a list passes is not passed by the first, and
-- which refusals pass none but a test of their own number.
use mathlib.Core.Path.{◌≡◌}
use mathlib.Core.Bool.{Bool, true, false, not}
use mathlib.Core.List.{List, [], ◌∷◌, ◌++◌, map}
use Prim.Native.Nat.{ℕ, suc}
use lib.Dec.{eqb, ltb}
use Rattle.model.specs.Choice.{pick}
use Rattle.model.specs.Limits.{max_frames, max_harvest, max_capacity}
use Rattle.model.specs.Request.{Bounds, Request}
use Rattle.model.specs.Refusals.{Refusal, refusal, none, is_none, refuse_if, first_of, wrong_length}
use Rattle.model.specs.Refusals.{over_capacity_limit, frames_refusals, lent_refusals, figure_refusals, open_limits, harvest_over_limit}
use Rattle.model.specs.Refusals.{bad_bounds, bounds_refused}

module _ (t : ℕ → Bool) where
  -- a refusal whose number does not pass the test, and a list of such
  abbrev pub Clear : Refusal → Type 0
  Clear f = t f.number ≡ false

  abbrev pub AllClear : List Refusal → Type 0
  AllClear [] = Unit {0}
  AllClear (f ∷ fs) = Clear f × AllClear fs

  pub both_clear : (fs gs : List Refusal) → AllClear fs → AllClear gs → AllClear (fs ++ gs)
  both_clear [] gs a b = b
  both_clear (f ∷ fs) gs a b = (a.0, both_clear fs gs a.1 b)

  -- where no refusal, number 0, does not pass it either
  module _ (zero_clear : t 0 ≡ false) where
    pub first_clear : (fs : List Refusal) → AllClear fs → Clear (first_of fs)
    first_clear [] a = zero_clear
    first_clear (f ∷ fs) a = go (is_none f) (first_clear fs a.1)
      where
        go : (u : Bool) → Clear (first_of fs) → Clear (pick u (first_of fs) f)
        go true i = i
        go false i = a.0

    -- by a test
    pub test_clear : (u : Bool) (f : Refusal) → Clear f → Clear (pick u f none)
    test_clear true f h = h
    test_clear false f h = zero_clear

    -- 7, of one length and of many, 6 and 10
    pub length_clear : (k n : ℕ) → t 7 ≡ false → Clear (wrong_length k n)
    length_clear k n h = test_clear (not (eqb n k)) (refusal 7 0) h

    pub lengths_clear : (k : ℕ) (ns : List ℕ) → t 7 ≡ false → AllClear (map (wrong_length k) ns)
    lengths_clear k [] h = tt
    lengths_clear k (n ∷ ns) h = (length_clear k n h, lengths_clear k ns h)

    pub harvest_clear : (k : ℕ) (hs : List ℕ) → t 6 ≡ false → Clear (harvest_over_limit k hs)
    harvest_clear k [] h = zero_clear
    harvest_clear k (x ∷ hs) h = go (ltb max_harvest x) (harvest_clear (suc k) hs h)
      where
        go : (u : Bool) → Clear (harvest_over_limit (suc k) hs) →
            Clear (elim u as (λ _. Refusal) [ true ↦ refusal 6 k | false ↦ harvest_over_limit (suc k) hs ])
        go true i = h
        go false i = i

    pub bounds_clear : (k : ℕ) (ws : List Bounds) → t 10 ≡ false → Clear (bounds_refused k ws)
    bounds_clear k [] h = zero_clear
    bounds_clear k (w ∷ ws) h = go (bad_bounds w) (bounds_clear (suc k) ws h)
      where
        go : (u : Bool) → Clear (bounds_refused (suc k) ws) →
            Clear (elim u as (λ _. Refusal) [ true ↦ refusal 10 k | false ↦ bounds_refused (suc k) ws ])
        go true i = h
        go false i = i

-- a test that passes none of the numbers of frames, lengths, figures, harvests and bounds
pub record Spares (t : ℕ → Bool) : Type 0 where
  pub none : t 0 ≡ false
  pub frames : (t 1 ≡ false) × (t 2 ≡ false)
  pub lengths : t 7 ≡ false
  pub figures : (t 3 ≡ false) × (t 4 ≡ false) × (t 5 ≡ false)
  pub harvests : t 6 ≡ false
  pub bounds : t 10 ≡ false

-- so none of their refusals
module _ (t : ℕ → Bool) (s : Spares t) where
  if_clear : (u : Bool) (n : ℕ) → t n ≡ false → Clear t (refuse_if u n)
  if_clear u n h = test_clear t s.none u (refusal n 0) h

  limit_clear : (c : ℕ) → Clear t (over_capacity_limit c)
  limit_clear c = if_clear (ltb max_capacity c) 3 s.figures.0

  frames_clear : (k : ℕ) → AllClear t (frames_refusals k)
  frames_clear k = (if_clear (eqb k 0) 1 s.frames.0, (if_clear (ltb max_frames k) 2 s.frames.1, tt))

  pub lent_clear : (k l m : ℕ) → AllClear t (lent_refusals k l m)
  lent_clear k l m =
      both_clear t (frames_refusals k) (wrong_length k l ∷ wrong_length k m ∷ []) (frames_clear k)
      (length_clear t s.none k l s.lengths, (length_clear t s.none k m s.lengths, tt))

  pub figures_clear : (r : Request) → AllClear t (figure_refusals r)
  figures_clear r = (
    limit_clear r.figures.capacity,
    (
      if_clear (ltb r.figures.capacity r.figures.start) 4 s.figures.1,
      (
        if_clear (ltb r.figures.capacity r.figures.end) 5 s.figures.2,
        (harvest_clear t s.none 1 r.harvest s.harvests, tt),
      ),
    ),
  )

  pub open_clear : (r : Request) → AllClear t (open_limits r)
  open_clear r =
      (limit_clear r.figures.start, (limit_clear r.figures.end, (harvest_clear t s.none 1 r.harvest s.harvests, tt)))
