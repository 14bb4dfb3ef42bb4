-- Feasibility of a request is feasibility over its frames, and unlimited storage is every capacity from some point on.
use mathlib.Core.Path.{◌≡◌, refl, sym, ap, ap₂, ◌∙◌}
use mathlib.Core.Bool.{Bool, true, false, ◌&&◌, ◌||◌, false≢true}
use mathlib.Core.List.{List, [], ◌∷◌}
use Prim.Native.Nat.{ℕ, ◌+◌, ◌-◌, ◌≤◌, min}
use native.Mathlib.Omega.{arith}
use lib.Dec.{leb, eqb}
use borrow.Author.Tests.{le-leb, leb-true}
use lib.ListN.{length}
use Rattle.model.specs.declared.Store.{Store}
use Rattle.model.specs.Choice.{pick}
use Rattle.model.specs.Limits.{no_upper_end}
use Rattle.model.specs.Request.{Bounds, Request, frame_count, withdrawn, first_bounds, later_bounds, total}
use Rattle.model.specs.Charge.{at_hand, frame_end, feasible_from, within_bounds, all_within, charges_from}
use Rattle.model.specs.Charge.{feasible_unlimited_from}
use Rattle.model.specs.Frames.{Frame, left, Feasible}
use Rattle.model.specs.Plan.{most_of, store_of, frame_of, frames_of, frames_with}
use Rattle.model.proofs.Tests.{both}
use Rattle.model.proofs.Lowest.{carried, AtMost}

-- ---- the bounds of one frame

-- the bounds of the first frame apart from those of the others
pub within_first : (ws : List Bounds) (b : ℕ) (bs : List ℕ) →
    all_within ws (b ∷ bs) ≡ (within_bounds (first_bounds ws) b && all_within (later_bounds ws) bs)
within_first [] b bs = rw (le-leb 0 b (omega arith)) refl
within_first (w ∷ ws) b bs = refl

-- bounds are within any list that ends with them
within_none : (ws : List Bounds) → all_within ws [] ≡ true
within_none [] = refl
within_none (w ∷ ws) = refl

-- a budget between the least and the most of a frame is within its bounds
frame_within : (m b : ℕ) (w : Bounds) → w.least ≤ b → b ≤ most_of m w → within_bounds w b ≡ true
frame_within m b w p q = rw (le-leb w.least b p) (go (eqb w.most no_upper_end) q)
  where
    go : (t : Bool) → b ≤ pick t m w.most → (t || leb b w.most) ≡ true
    go true q = refl
    go false q = le-leb b w.most q

-- and the other way, where it is not above what no budget reaches
within_frame : (m b : ℕ) (w : Bounds) → b ≤ m → within_bounds w b ≡ true → (w.least ≤ b) × (b ≤ most_of m w)
within_frame m b w p k =
    let t = both (leb w.least b) (eqb w.most no_upper_end || leb b w.most) k in
    (leb-true w.least b t.0, go (eqb w.most no_upper_end) t.1)
  where
    go : (t : Bool) → (t || leb b w.most) ≡ true → b ≤ pick t m w.most
    go true q = p
    go false q = leb-true b w.most q

-- ---- all frames

-- what frames take out of the store with budgets: each its drain and its budget
abbrev pub taken : List Frame → List ℕ → List ℕ
taken [] bs = bs
taken (f ∷ fs) [] = []
taken (f ∷ fs) (b ∷ bs) = (f.drain + b) ∷ taken fs bs

-- of a request's frames that is what is withdrawn
pub taken_withdrawn : (r : Request) (c : ℕ) (bs : List ℕ) → length bs ≡ frame_count r →
    taken (frames_with r c) bs ≡ withdrawn r bs
unfolding frames_of
taken_withdrawn r c bs l = go r.harvest r.bounds bs l
  where
    go : (hs : List ℕ) (ws : List Bounds) (bs : List ℕ) → length bs ≡ length hs →
        taken (frames_of (store_of r c) hs ws) bs ≡ withdrawn r bs
    go [] ws [] l = refl
    go [] ws (b ∷ bs) l = absurd (omega arith)
    go (h ∷ hs) ws [] l = refl
    go (h ∷ hs) ws (b ∷ bs) l =
        let z : 0 + b ≡ b = omega arith in
        rw (z, go hs (later_bounds ws) bs (omega arith)) refl

-- document 01 reports min c y where the frames carry y, before a frame and after it
same_charge : (s : Store) (w : Bounds) (x y h b : ℕ) → x ≡ min s.capacity y →
    (frame_end s.capacity x h ((frame_of s h w).drain + b)).charge ≡ min s.capacity (left (frame_of s h w) y b)
same_charge s w x y h b p = omega arith

module _ (s : Store) (e : ℕ) (within : e ≤ s.capacity) where
  pub frames_feasible : (x y : ℕ) (hs : List ℕ) (ws : List Bounds) (bs : List ℕ) → x ≡ min s.capacity y →
      Feasible e y (frames_of s hs ws) bs → feasible_from s.capacity e x hs (taken (frames_of s hs ws) bs) ≡ true
  unfolding frames_of
  frames_feasible x y [] ws [] p k = le-leb e x (omega (arith, within))
  frames_feasible x y [] ws (b ∷ bs) p k = absurd k
  frames_feasible x y (h ∷ hs) ws [] p k = absurd k
  frames_feasible x y (h ∷ hs) ws (b ∷ bs) p k =
      let c = s.capacity in
      let w = first_bounds ws in
      let f = frame_of s h w in
      let i = frames_feasible (frame_end c x h (f.drain + b)).charge (left f y b) hs (later_bounds ws) bs
      (same_charge s w x y h b p) k.1 in
      rw (le-leb (f.drain + b) (at_hand c x h) (omega (arith, k.0.have))) i

  pub feasible_frames : (x y : ℕ) (hs : List ℕ) (ws : List Bounds) (bs : List ℕ) → x ≡ min s.capacity y →
      x + total hs ≤ s.energy → all_within ws bs ≡ true → feasible_from s.capacity e x hs (taken (frames_of s hs ws) bs) ≡ true →
      Feasible e y (frames_of s hs ws) bs
  unfolding frames_of
  feasible_frames x y [] ws [] p q a k = omega (arith, leb-true e x k)
  feasible_frames x y [] ws (b ∷ bs) p q a k = absurd (false≢true k)
  feasible_frames x y (h ∷ hs) ws [] p q a k = absurd (false≢true k)
  feasible_frames x y (h ∷ hs) ws (b ∷ bs) p q a k =
      let c = s.capacity in
      let w = first_bounds ws in
      let f = frame_of s h w in
      let t = both (leb (f.drain + b) (at_hand c x h)) (feasible_from c e (frame_end c x h (f.drain + b)).charge hs (taken (frames_of s hs (later_bounds ws)) bs)) k in
      let l = leb-true (f.drain + b) (at_hand c x h) t.0 in
      let u = both (within_bounds w b) (all_within (later_bounds ws) bs) (sym (within_first ws b bs) ∙ a) in
      let v = within_frame s.energy b w (omega arith) u.0 in (
        record { low = v.0; high = v.1; have = omega arith },
        feasible_frames (frame_end c x h (f.drain + b)).charge (left f y b) hs (later_bounds ws) bs
            (same_charge s w x y h b p) (omega arith) u.1 t.1,
      )

-- what is feasible over the frames is within the bounds
pub frames_within : (s : Store) (e y : ℕ) (hs : List ℕ) (ws : List Bounds) (bs : List ℕ) →
    Feasible e y (frames_of s hs ws) bs → all_within ws bs ≡ true
unfolding frames_of
frames_within s e y [] ws [] k = within_none ws
frames_within s e y [] ws (b ∷ bs) k = absurd k
frames_within s e y (h ∷ hs) ws [] k = absurd k
frames_within s e y (h ∷ hs) ws (b ∷ bs) k =
    within_first ws b bs
    ∙ rw (
      frame_within s.energy b (first_bounds ws) k.0.low k.0.high,
      frames_within s e (left (frame_of s h (first_bounds ws)) y b) hs (later_bounds ws) bs k.1,
    ) refl

-- lower carried charges are lower reported charges
pub charges_at_most : (s : Store) (x x' y y' : ℕ) (hs : List ℕ) (ws : List Bounds) (bs ds : List ℕ) →
    x ≡ min s.capacity y → x' ≡ min s.capacity y' →
    AtMost (carried y (frames_of s hs ws) bs) (carried y' (frames_of s hs ws) ds) →
    AtMost (charges_from s.capacity x hs (taken (frames_of s hs ws) bs))
    (charges_from s.capacity x' hs (taken (frames_of s hs ws) ds))
unfolding frames_of carried
charges_at_most s x x' y y' [] ws bs ds p q k = tt
charges_at_most s x x' y y' (h ∷ hs) ws [] ds p q k = tt
charges_at_most s x x' y y' (h ∷ hs) ws (b ∷ bs) [] p q k = absurd k
charges_at_most s x x' y y' (h ∷ hs) ws (b ∷ bs) (d ∷ ds) p q k =
    let c = s.capacity in
    let w = first_bounds ws in
    let f = frame_of s h w in
    let z = (frame_end c x h (f.drain + b)).charge in
    let z' = (frame_end c x' h (f.drain + d)).charge in
    let u = same_charge s w x y h b p in
    let u' = same_charge s w x' y' h d q in (
      lower c z z' (left f y b) (left f y' d) u u' k.0,
      charges_at_most s z z' (left f y b) (left f y' d) hs (later_bounds ws) bs ds u u' k.1,
    )
  where
    lower : (c z z' w w' : ℕ) → z ≡ min c w → z' ≡ min c w' → w ≤ w' → z ≤ z'
    lower c z z' w w' p q k = omega arith

-- a capacity that no charge can exceed changes nothing
pub unlimited_from : (c e x : ℕ) (hs bs : List ℕ) → x + total hs ≤ c →
    feasible_from c e x hs bs ≡ feasible_unlimited_from e x hs bs
unlimited_from c e x [] [] p = refl
unlimited_from c e x [] (b ∷ bs) p = refl
unlimited_from c e x (h ∷ hs) [] p = refl
unlimited_from c e x (h ∷ hs) (b ∷ bs) p =
    let a : at_hand c x h ≡ x + h = omega arith in
    let u : (frame_end c x h b).charge ≡ x + h - b = omega arith in
    ap₂ (λ (n y : ℕ). leb b n && feasible_from c e y hs bs) a u
    ∙ ap (λ (t : Bool). leb b (x + h) && t) (unlimited_from c e (x + h - b) hs bs (omega arith))

-- what is feasible with a capacity is feasible without limit
pub feasible_unlimited_lem : (c e x z : ℕ) (hs bs : List ℕ) → x ≤ z → feasible_from c e x hs bs ≡ true →
    feasible_unlimited_from e z hs bs ≡ true
feasible_unlimited_lem c e x z [] [] p k = le-leb e z (omega (arith, leb-true e x k))
feasible_unlimited_lem c e x z [] (b ∷ bs) p k = absurd (false≢true k)
feasible_unlimited_lem c e x z (h ∷ hs) [] p k = absurd (false≢true k)
feasible_unlimited_lem c e x z (h ∷ hs) (b ∷ bs) p k =
    let t = both (leb b (at_hand c x h)) (feasible_from c e (frame_end c x h b).charge hs bs) k in
    rw (le-leb b (z + h) (omega (arith, leb-true b (at_hand c x h) t.0)))
    (feasible_unlimited_lem c e (frame_end c x h b).charge (z + h - b) hs bs (omega arith) t.1)
