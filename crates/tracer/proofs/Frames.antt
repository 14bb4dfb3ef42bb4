-- The frames one after another: what is written so far and the trace of the rest are the whole trace.
use mathlib.Core.Path.{◌≡◌, ap, ◌∙◌}
use mathlib.Core.List.{List, ◌∷◌, ◌++◌, map, append_assoc, append-nil}
use Prim.Native.Nat.{ℕ, suc, ◌+◌, ◌≤◌, ◌<◌}
use native.Mathlib.Numerals.{add-one}
use lib.IntN.{ℤ}
use lib.ListN.{length, get_or, take, drop, set, drop_of_length-le}
use lib.Seq.{drop-cons, take-suc-set, take_all}
use Rattle.model.specs.Trace.{traced_end, traced_from, trace_from}
use Rattle.model.proofs.Losses.{accounted_from}
use Rattle.model.specs.declared.frame.TracedEnd.{TracedEnd}

-- a column of what the frames end with: their charges, or their losses
module _ {A : Type 0} (column : TracedEnd → A) (c : ℕ) (x : ℤ) (i : ℕ) (hs bs : List ℕ) (written : List A) where
  -- one more frame written
  pub step : (e : TracedEnd) → i < length hs → i < length bs → i < length written →
      e ≡ traced_end c x (get_or hs i 0) (get_or bs i 0) →
      take (i + 1) (set written i (column e))
      ++ map column (traced_from c e.charge (drop (i + 1) hs) (drop (i + 1) bs)) ≡ take i written
      ++ map column (traced_from c x (drop i hs) (drop i bs))
  step e lh lb lw p =
      rw (add-one i, take-suc-set written i (column e) lw, append_assoc, drop-cons hs i 0 lh, drop-cons bs i 0 lb)
      (ap (λ (w : TracedEnd). take i written
      ++ (column w ∷ map column (traced_from c w.charge (drop (suc i) hs) (drop (suc i) bs)))) p)

  -- every frame written
  pub done : length hs ≤ i → length written ≤ i →
      take i written ++ map column (traced_from c x (drop i hs) (drop i bs)) ≡ written
  done lh lw =
      ap (λ (l : List ℕ). take i written ++ map column (traced_from c x l (drop i bs)))
      (drop_of_length-le hs {i = i} lh)
      ∙ append-nil (take i written)
      ∙ take_all i written lw

-- charges written as a trace has them are one for each frame
pub written_length : (c : ℕ) (x : ℤ) (hs bs : List ℕ) (ys : List ℤ) → ys ≡ trace_from c x hs bs →
    length bs ≡ length hs → length ys ≡ length hs
written_length c x hs bs ys p e = ap length p ∙ (accounted_from c x hs bs e).charges_long
