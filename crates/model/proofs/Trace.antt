-- The tracer's verdict is Definition 1, the frame it names is the earliest below zero, and the traced charges and
-- losses of a feasible list are those of the frame rule.
use mathlib.Core.Path.{◌≡◌, refl, ap, sym, ◌∙◌}
use mathlib.Core.Logic.{◌↔◌}
use mathlib.Core.Bool.{Bool, true, false, ◌&&◌, not, false≢true}
use mathlib.Core.List.{List, [], ◌∷◌, map, map-map}
use Prim.Native.Nat.{ℕ, zero, suc, ◌+◌, ◌-◌, ◌≤◌, ◌<◌, min}
use native.Mathlib.Omega.{arith}
use lib.ListN.{length, get_or}
use lib.IntN.{ℤ, pos, negsuc}
use lib.Signed.{le_z, non_neg}
use lib.Dec.{leb}
use borrow.Author.Tests.{leb-true, leb-false, le-leb}
use Rattle.model.specs.Choice.{pick}
use Rattle.model.specs.Request.{Request, frame_count, withdrawn}
use Rattle.model.specs.Charge.{FrameEnd, at_hand, frame_end, feasible_from, drawable, ends_from, charges, losses}
use Rattle.model.specs.Charge.{all_within, feasible}
use Rattle.model.specs.Trace.{min_z, excess, traced_end, traced_from, trace_from, trace, trace_losses, below_from}
use Rattle.model.specs.Trace.{last_from, below_zero, end_too_low, is_feasible, verdict, EarliestBelow}
use Rattle.model.specs.declared.frame.TracedEnd.{TracedEnd}
use Rattle.model.proofs.Integers as int
use Rattle.model.proofs.Tests.{both}
use Rattle.model.proofs.Withdrawn.{withdrawn_length}

-- the smaller of two natural numbers, by which it is
min_by : (a b : ℕ) (t : Bool) → leb a b ≡ t → pick t (pos a) (pos b) ≡ pos (min a b)
min_by a b true e = let l = leb-true a b e in ap pos (omega arith)
min_by a b false e = let l = leb-false a b e in ap pos (omega arith)

-- the smaller whole number of two natural numbers is the smaller natural number
pub min_pos : (a b : ℕ) → min_z (pos a) (pos b) ≡ pos (min a b)
min_pos a b = min_by a b (leb a b) refl

-- where the budget is at hand, the traced end is the frame rule's
pub traced_within : (c x h b : ℕ) → b ≤ at_hand c x h →
    traced_end c (pos x) h b ≡ record { charge = pos (frame_end c x h b).charge; lost = (frame_end c x h b).lost }
traced_within c x h b l =
    ap (λ (z : ℤ). record { charge = min_z (pos c) z; lost = excess z c }) (int.minus_pos (at_hand c x h) b l)
    ∙ ap (λ (z : ℤ). record { charge = z; lost = (frame_end c x h b).lost }) (min_pos c (at_hand c x h - b))

-- so it leaves the charge of the frame rule
after_within : (c x h b : ℕ) → b ≤ at_hand c x h → (traced_end c (pos x) h b).charge ≡ pos (frame_end c x h b).charge
after_within c x h b l = ap (λ (e : TracedEnd). e.charge) (traced_within c x h b l)

-- a budget above it leaves a charge below zero
after_over : (c x h b : ℕ) → at_hand c x h < b → (traced_end c (pos x) h b).charge ≡ negsuc (b - suc (at_hand c x h))
after_over c x h b l = ap (min_z (pos c)) (int.minus_neg (at_hand c x h) b l)

-- the traced charges are accepted: none but the last is below zero, and the last is at least the end charge e; x is
-- the charge before them
abbrev accepted : ℕ → ℕ → ℤ → List ℤ → Bool
accepted k e x zs = not (leb 1 (below_from k zs)) && le_z (pos e) (last_from x zs)

-- a charge not below zero is passed over
accepted_pos : (k e y : ℕ) (x : ℤ) (zs : List ℤ) → accepted k e x (pos y ∷ zs) ≡ accepted (suc k) e (pos y) zs
accepted_pos k e y x [] = refl
accepted_pos k e y x (z ∷ zs) = refl

-- a charge below zero is not accepted
accepted_neg : (k e n : ℕ) (x : ℤ) (zs : List ℤ) → accepted (suc k) e x (negsuc n ∷ zs) ≡ false
accepted_neg k e n x [] = refl
accepted_neg k e n x (z ∷ zs) = ap (λ t. not t && le_z (pos e) (last_from z zs)) (le-leb 1 (suc k) (omega arith))

-- one frame, by whether its budget is within what is at hand
frame_by : (c e x k h b : ℕ) (hs bs : List ℕ) →
    ((y : ℕ) → feasible_from c e y hs bs ≡ accepted (suc (suc k)) e (pos y) (trace_from c (pos y) hs bs)) →
    (t : Bool) → leb b (at_hand c x h) ≡ t →
    (t && feasible_from c e (frame_end c x h b).charge hs bs) ≡ accepted (suc k) e (pos x)
    (trace_from c (pos x) (h ∷ hs) (b ∷ bs))
frame_by c e x k h b hs bs i true p =
    let y = (frame_end c x h b).charge in
    i y
    ∙ sym (accepted_pos (suc k) e y (pos x) (trace_from c (pos y) hs bs))
    ∙ sym (ap (λ z. accepted (suc k) e (pos x) (z ∷ trace_from c z hs bs))
    (after_within c x h b (leb-true b (at_hand c x h) p)))
frame_by c e x k h b hs bs i false p =
    let n = b - suc (at_hand c x h) in
    sym
    (ap (λ z. accepted (suc k) e (pos x) (z ∷ trace_from c z hs bs)) (after_over c x h b (leb-false b (at_hand c x h) p))
    ∙ accepted_neg k e n (pos x) (trace_from c (negsuc n) hs bs))

-- Definition 1 is the test of the traced charges
feasible_is : (c e x k : ℕ) (hs bs : List ℕ) → length bs ≡ length hs →
    feasible_from c e x hs bs ≡ accepted (suc k) e (pos x) (trace_from c (pos x) hs bs)
feasible_is c e x k [] [] l = refl
feasible_is c e x k [] (b ∷ bs) l = absurd (omega arith)
feasible_is c e x k (h ∷ hs) [] l = absurd (omega arith)
feasible_is c e x k (h ∷ hs) (b ∷ bs) l =
    frame_by c e x k h b hs bs (λ y. feasible_is c e y (suc k) hs bs (omega arith)) (leb b (at_hand c x h)) refl

-- the verdict by its two tests
verdict_by : (k : ℕ) (s t : Bool) →
    (pick s (below_zero k) (pick t is_feasible end_too_low) ≡ is_feasible) ↔ ((not s && t) ≡ true)
verdict_by k true t = (λ e. cc, λ e. absurd (false≢true e))
verdict_by k false true = (λ e. refl, λ e. refl)
verdict_by k false false = (λ e. cc, λ e. absurd (false≢true e))

-- the verdict is "feasible" exactly where Definition 1 allows the budgets, whatever the bounds
pub verdict_feasible : (r : Request) (bs : List ℕ) → length bs ≡ frame_count r →
    (verdict r bs ≡ is_feasible) ↔ (drawable r bs ≡ true)
verdict_feasible r bs l =
    let zs = trace r bs in
    let v = verdict_by (below_from 1 zs) (leb 1 (below_from 1 zs))
    (le_z (pos r.figures.end) (last_from (pos r.figures.start) zs)) in
    let f = feasible_is r.figures.capacity r.figures.end r.figures.start 0 r.harvest (withdrawn r bs)
    (withdrawn_length r bs ∙ l) in
    (λ e. f ∙ v.0 e, λ e. v.1 (sym f ∙ e))

-- what a frame ends with by the frame rule, as the tracer has it
abbrev in_trace : FrameEnd → TracedEnd
in_trace e = record { charge = pos e.charge; lost = e.lost }

-- the traced frames of budgets feasible from charge x end as the frame rule has it
traced_from_lem : (c e x : ℕ) (hs bs : List ℕ) → feasible_from c e x hs bs ≡ true →
    traced_from c (pos x) hs bs ≡ map in_trace (ends_from c x hs bs)
traced_from_lem c e x [] bs f = refl
traced_from_lem c e x (h ∷ hs) [] f = refl
traced_from_lem c e x (h ∷ hs) (b ∷ bs) f =
    let a = frame_end c x h b in
    let p = both (leb b (at_hand c x h)) (feasible_from c e a.charge hs bs) f in
    ap (λ (z : TracedEnd). z ∷ traced_from c z.charge hs bs)
    (traced_within c x h b (leb-true b (at_hand c x h) p.0))
    ∙ ap (λ (zs : List TracedEnd). in_trace a ∷ zs) (traced_from_lem c e a.charge hs bs p.1)

-- what each frame of a request ends with
abbrev pub ends : Request → List ℕ → List FrameEnd
ends r bs = ends_from r.figures.capacity r.figures.start r.harvest (withdrawn r bs)

traced_ends : (r : Request) (bs : List ℕ) → drawable r bs ≡ true →
    traced_from r.figures.capacity (pos r.figures.start) r.harvest (withdrawn r bs) ≡ map in_trace (ends r bs)
traced_ends r bs f =
    traced_from_lem r.figures.capacity r.figures.end r.figures.start r.harvest (withdrawn r bs) f

-- the traced charges of budgets that can be drawn are their charges
pub trace_charges : (r : Request) (bs : List ℕ) → drawable r bs ≡ true → trace r bs ≡ map pos (charges r bs)
trace_charges r bs f =
    ap (map (λ (e : TracedEnd). e.charge)) (traced_ends r bs f)
    ∙ (map-map (λ (e : TracedEnd). e.charge) in_trace (ends r bs)
    ∙ sym (map-map pos (λ (e : FrameEnd). e.charge) (ends r bs)))

-- and their traced losses are their losses
pub trace_losses_lem : (r : Request) (bs : List ℕ) → drawable r bs ≡ true → trace_losses r bs ≡ losses r bs
trace_losses_lem r bs f =
    ap (map (λ (e : TracedEnd). e.lost)) (traced_ends r bs f)
    ∙ map-map (λ (e : TracedEnd). e.lost) in_trace (ends r bs)

-- budgets feasible from charge x are one for each harvest
length_from : (c e x : ℕ) (hs bs : List ℕ) → feasible_from c e x hs bs ≡ true → length bs ≡ length hs
length_from c e x [] [] f = refl
length_from c e x [] (b ∷ bs) f = absurd (false≢true f)
length_from c e x (h ∷ hs) [] f = absurd (false≢true f)
length_from c e x (h ∷ hs) (b ∷ bs) f =
    let y = (frame_end c x h b).charge in
    ap suc (length_from c e y hs bs (both (leb b (at_hand c x h)) (feasible_from c e y hs bs) f).1)

-- feasible budgets are within the bounds and can be drawn
pub feasible_drawable : (r : Request) (bs : List ℕ) → feasible r bs ≡ true → drawable r bs ≡ true
feasible_drawable r bs f = (both (all_within r.bounds bs) (drawable r bs) f).1

pub feasible_within : (r : Request) (bs : List ℕ) → feasible r bs ≡ true → all_within r.bounds bs ≡ true
feasible_within r bs f = (both (all_within r.bounds bs) (drawable r bs) f).0

-- feasible budgets are one for each frame
pub feasible_length : (r : Request) (bs : List ℕ) → feasible r bs ≡ true → length bs ≡ frame_count r
feasible_length r bs f =
    sym (withdrawn_length r bs)
    ∙ length_from r.figures.capacity r.figures.end r.figures.start r.harvest (withdrawn r bs)
    (feasible_drawable r bs f)

-- a charge not below zero in front moves the place by one
earliest_after : (i y : ℕ) (zs : List ℤ) → EarliestBelow i zs → EarliestBelow (suc i) (pos y ∷ zs)
earliest_after i y zs w = record { not_last = omega arith; below = w.below; before = earlier }
  where
    earlier : (j : ℕ) → j < suc i → non_neg (get_or (pos y ∷ zs) j (pos 0)) ≡ true
    earlier zero h = refl
    earlier (suc j) h = w.before j (omega arith)

-- a frame that the scan from frame k finds is at some place i
below_at : (k n : ℕ) (zs : List ℤ) → below_from k zs ≡ suc n → (i : ℕ) × (suc n ≡ k + i) × EarliestBelow i zs
below_at k n [] e = absurd (omega arith)
below_at k n (z ∷ []) e = absurd (omega arith)
below_at k n (negsuc m ∷ (z ∷ zs)) e =
    (0, omega arith, record { not_last = omega arith; below = refl; before = λ j h. absurd (omega arith) })
below_at k n (pos y ∷ (z ∷ zs)) e =
    let w = below_at (suc k) n (z ∷ zs) e in
    (suc w.0, omega (arith, w.1), earliest_after w.0 y (z ∷ zs) w.2)

-- the frame of the verdict, by its two tests
frame_of_lem : (k n : ℕ) (t : Bool) (s : Bool) → leb 1 k ≡ s →
    pick s (below_zero k) (pick t is_feasible end_too_low) ≡ below_zero n → (k ≡ n) × (1 ≤ k)
frame_of_lem k n t true p e = (cc, leb-true 1 k p)
frame_of_lem k n true false p e = absurd (let z : ◌≡◌ {A = ℕ} 0 1 = cc in omega arith)
frame_of_lem k n false false p e = absurd (let z : ◌≡◌ {A = ℕ} 0 1 = cc in omega arith)

-- a verdict that names a frame names the earliest, the last left out, whose charge is below zero
pub verdict_below : (r : Request) (bs : List ℕ) (n : ℕ) → verdict r bs ≡ below_zero n →
    (i : ℕ) × (n ≡ suc i) × EarliestBelow i (trace r bs)
verdict_below r bs n e =
    let zs = trace r bs in
    let k = below_from 1 zs in
    let f = frame_of_lem k n (le_z (pos r.figures.end) (last_from (pos r.figures.start) zs)) (leb 1 k) refl e in
    let p : k ≡ suc (n - 1) = omega arith in
    let w = below_at 1 (n - 1) zs p in
    (w.0, omega (arith, w.1), w.2)
