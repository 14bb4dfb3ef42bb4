-- Something is feasible exactly when the leasts are, and then the end charge is within reach: refusals 9 and 11 say
-- that nothing is.
use mathlib.Core.Path.{◌≡◌, refl, ap, sym, ◌∙◌}
use mathlib.Core.Bool.{Bool, true, false, not, ◌&&◌, ◌||◌, false≢true}
use mathlib.Core.List.{List, [], ◌∷◌}
use Prim.Native.Nat.{ℕ, ◌+◌, ◌-◌, ◌≤◌}
use native.Mathlib.Omega.{arith}
use lib.Dec.{leb, eqb, ltb}
use lib.ListN.{length, replicate}
use borrow.Author.Tests.{le-leb, leb-true, le-ltb}
use Rattle.model.specs.Choice.{pick}
use Rattle.model.specs.Limits.{no_upper_end}
use Rattle.model.specs.Request.{Bounds, Request, request, first_bounds, later_bounds, leasts_from, leasts, total}
use Rattle.model.specs.Request.{most_energy, due, withdrawn, with_capacity}
use Rattle.model.specs.declared.Figures.{Figures}
use Rattle.model.specs.Charge.{at_hand, frame_end, feasible_from, within_bounds, all_within, feasible}
use Rattle.model.specs.Charge.{feasible_unlimited}
use Rattle.model.specs.Refusals.{refusal, none, is_none, refuse_if, first_of, out_of_reach, reachable}
use Rattle.model.specs.Refusals.{reachable_unlimited}
use Rattle.model.proofs.Tests.{both}
use Rattle.model.proofs.Tables.{WithinAll}
use Rattle.model.proofs.Trace.{feasible_drawable, feasible_within, feasible_length}
use Rattle.model.proofs.Withdrawn.{withdrawn_total, Below, withdrawn_below}
use Rattle.model.proofs.Bridge.{within_first, unlimited_from, feasible_unlimited_lem}

-- budgets 0 keep as much as can be kept
pub zeros_feasible : (c e x : ℕ) (hs : List ℕ) → e ≤ c → e ≤ x + total hs →
    feasible_from c e x hs (replicate (length hs) 0) ≡ true
zeros_feasible c e x [] p q = le-leb e x (omega arith)
zeros_feasible c e x (h ∷ hs) p q =
    rw (le-leb 0 (at_hand c x h) (omega arith)) (zeros_feasible c e (frame_end c x h 0).charge hs p (omega arith))

-- what is drawn and what is left at the end was there
pub spent : (c e x : ℕ) (hs bs : List ℕ) → feasible_from c e x hs bs ≡ true → total bs + e ≤ x + total hs
spent c e x [] [] k = omega (arith, leb-true e x k)
spent c e x [] (b ∷ bs) k = absurd (false≢true k)
spent c e x (h ∷ hs) [] k = absurd (false≢true k)
spent c e x (h ∷ hs) (b ∷ bs) k =
    let t = both (leb b (at_hand c x h)) (feasible_from c e (frame_end c x h b).charge hs bs) k in
    let i = spent c e (frame_end c x h b).charge hs bs t.1 in
    omega (arith, leb-true b (at_hand c x h) t.0)

pub feasible_spent : (r : Request) (bs : List ℕ) → feasible r bs ≡ true → total bs + due r ≤ most_energy r
feasible_spent r bs k =
    let s = spent r.figures.capacity r.figures.end r.figures.start r.harvest (withdrawn r bs)
    (feasible_drawable r bs k) in
    omega (arith, s, withdrawn_total r bs (feasible_length r bs k))

-- no number of a list is above its total
pub total_within : (m : ℕ) (bs : List ℕ) → total bs ≤ m → WithinAll m bs
total_within m [] p = tt
total_within m (b ∷ bs) p = (omega arith, total_within m bs (omega arith))

-- ---- the leasts

-- what can be drawn from charge x can, if each number is lowered, be drawn from any charge that is not lower
less_drawn : (c e x z : ℕ) (hs ds bs : List ℕ) → x ≤ z → Below ds bs → feasible_from c e x hs bs ≡ true →
    feasible_from c e z hs ds ≡ true
less_drawn c e x z [] [] [] p a k = le-leb e z (omega (arith, leb-true e x k))
less_drawn c e x z hs [] (b ∷ bs) p a k = absurd a
less_drawn c e x z hs (d ∷ ds) [] p a k = absurd a
less_drawn c e x z [] (d ∷ ds) (b ∷ bs) p a k = absurd (false≢true k)
less_drawn c e x z (h ∷ hs) [] [] p a k = absurd (false≢true k)
less_drawn c e x z (h ∷ hs) (d ∷ ds) (b ∷ bs) p a k =
    let t = both (leb b (at_hand c x h)) (feasible_from c e (frame_end c x h b).charge hs bs) k in
    let n = lower c x z h b d p a.0 (leb-true b (at_hand c x h) t.0) in
    rw (le-leb d (at_hand c z h) n.0)
    (less_drawn c e (frame_end c x h b).charge (frame_end c z h d).charge hs ds bs n.1 a.1 t.1)
  where
    lower : (c x z h b d : ℕ) → x ≤ z → d ≤ b → b ≤ at_hand c x h →
        (d ≤ at_hand c z h) × ((frame_end c x h b).charge ≤ (frame_end c z h d).charge)
    lower c x z h b d p q l = (omega arith, omega arith)

-- the leasts are below whatever is within the bounds
leasts_below : (hs : List ℕ) (ws : List Bounds) (bs : List ℕ) → length bs ≡ length hs → all_within ws bs ≡ true →
    Below (leasts_from hs ws) bs
leasts_below [] ws [] l a = tt
leasts_below [] ws (b ∷ bs) l a = absurd (omega arith)
leasts_below (h ∷ hs) ws [] l a = absurd (omega arith)
leasts_below (h ∷ hs) ws (b ∷ bs) l a =
    let w = first_bounds ws in
    let u = both (within_bounds w b) (all_within (later_bounds ws) bs) (sym (within_first ws b bs) ∙ a) in
    let v = both (leb w.least b) (eqb w.most no_upper_end || leb b w.most) u.0 in
    (leb-true w.least b v.0, leasts_below hs (later_bounds ws) bs (omega arith) u.1)

-- a least is within its bounds if anything is
least_within : (w : Bounds) (b : ℕ) → within_bounds w b ≡ true → within_bounds w w.least ≡ true
least_within w b k =
    let t = both (leb w.least b) (eqb w.most no_upper_end || leb b w.most) k in
    rw (le-leb w.least w.least (omega arith))
    (go (eqb w.most no_upper_end) (leb-true w.least b t.0) t.1)
  where
    go : (t : Bool) → w.least ≤ b → (t || leb b w.most) ≡ true → (t || leb w.least w.most) ≡ true
    go true p q = refl
    go false p q = le-leb w.least w.most (omega (arith, leb-true b w.most q))

leasts_within : (hs : List ℕ) (ws : List Bounds) (bs : List ℕ) → length bs ≡ length hs → all_within ws bs ≡ true →
    all_within ws (leasts_from hs ws) ≡ true
leasts_within [] [] [] l a = refl
leasts_within [] (w ∷ ws) [] l a = refl
leasts_within [] ws (b ∷ bs) l a = absurd (omega arith)
leasts_within (h ∷ hs) ws [] l a = absurd (omega arith)
leasts_within (h ∷ hs) ws (b ∷ bs) l a =
    let w = first_bounds ws in
    let u = both (within_bounds w b) (all_within (later_bounds ws) bs) (sym (within_first ws b bs) ∙ a) in
    within_first ws w.least (leasts_from hs (later_bounds ws))
    ∙ rw (least_within w b u.0, leasts_within hs (later_bounds ws) bs (omega arith) u.1) refl

-- the leasts are feasible if anything is
pub leasts_feasible : (r : Request) (bs : List ℕ) → feasible r bs ≡ true → feasible r (leasts r) ≡ true
leasts_feasible r bs k =
    let s = r.figures.start in
    let a = feasible_within r bs k in
    let l = feasible_length r bs k in
    rw (
      leasts_within r.harvest r.bounds bs l a,
      less_drawn r.figures.capacity r.figures.end s s r.harvest (withdrawn r (leasts r)) (withdrawn r bs) (omega arith)
          (withdrawn_below r (leasts r) bs (leasts_below r.harvest r.bounds bs l a)) (feasible_drawable r bs k),
    ) refl

-- ---- refusals 9 and 11

-- both leave open what a test of the leasts leaves open, if that test gives the end charge
reach_by : (r : Request) (t : Bool) → (t ≡ true → due r ≤ most_energy r) →
    is_none (first_of (out_of_reach r ∷ refuse_if (not t) 11 ∷ [])) ≡ t
reach_by r true h = rw (le-ltb (most_energy r) (due r) (h refl)) refl
reach_by r false h = go (ltb (most_energy r) (due r))
  where
    go : (u : Bool) →
        is_none (first_of (pick u (refusal 9 (due r - most_energy r)) none ∷ refuse_if true 11 ∷ [])) ≡ false
    go true = refl
    go false = refl

-- neither 9 nor 11 holds exactly when the leasts are feasible
pub reachable_is : (r : Request) → reachable r ≡ feasible r (leasts r)
reachable_is r =
    reach_by r (feasible r (leasts r)) (λ k. at_least (total (leasts r)) (due r) (most_energy r)
    (feasible_spent r (leasts r) k))
  where
    at_least : (t e m : ℕ) → t + e ≤ m → e ≤ m
    at_least t e m p = omega arith

-- something feasible means that neither holds
pub feasible_reachable : (r : Request) (bs : List ℕ) → feasible r bs ≡ true → reachable r ≡ true
feasible_reachable r bs k = reachable_is r ∙ leasts_feasible r bs k

-- so that with either nothing is feasible
pub none_feasible : (r : Request) → reachable r ≡ false → (bs : List ℕ) → feasible r bs ≡ false
none_feasible r h bs = go (feasible r bs) refl
  where
    go : (t : Bool) → feasible r bs ≡ t → t ≡ false
    go true q = absurd (false≢true (sym h ∙ feasible_reachable r bs q))
    go false q = refl

-- without bounds 11 never comes: an end charge within capacity and reach is enough
pub absent_reachable : (f : Figures) (hs : List ℕ) → f.end ≤ f.capacity → f.end ≤ f.start + total hs →
    reachable (request f hs) ≡ true
absent_reachable f hs p q =
    feasible_reachable (request f hs) (replicate (length hs) 0) (zeros_feasible f.capacity f.end f.start hs p q)

-- ---- without limit

-- unlimited storage is every capacity that no charge can exceed
pub unlimited_storage : (r : Request) (c : ℕ) → most_energy r ≤ c → (bs : List ℕ) →
    feasible (with_capacity r c) bs ≡ feasible_unlimited r bs
unlimited_storage r c h bs =
    ap (λ (t : Bool). all_within r.bounds bs && t)
    (unlimited_from c r.figures.end r.figures.start r.harvest (withdrawn r bs) h)

-- so what can be reached without limit can be reached with such a capacity
pub reachable_unlimited_is : (r : Request) (c : ℕ) → most_energy r ≤ c →
    reachable_unlimited r ≡ reachable (with_capacity r c)
reachable_unlimited_is r c h =
    ap (λ (t : Bool). is_none (first_of (out_of_reach r ∷ refuse_if (not t) 11 ∷ [])))
    (sym (unlimited_storage r c h (leasts r)))

-- and without limit 11 never comes without bounds either
pub absent_open : (f : Figures) (hs : List ℕ) → f.end ≤ f.start + total hs → reachable_unlimited (request f hs) ≡ true
absent_open f hs p =
    let r = request f hs in
    reachable_unlimited_is r (most_energy r) (omega arith)
    ∙ absent_reachable (record f { capacity = most_energy r }) hs p p

-- neither 9 nor 11 without limit holds exactly when the leasts are feasible without limit
pub reachable_open : (r : Request) → reachable_unlimited r ≡ feasible_unlimited r (leasts r)
reachable_open r =
    let c = most_energy r in
    reachable_unlimited_is r c (omega arith)
    ∙ (reachable_is (with_capacity r c) ∙ unlimited_storage r c (omega arith) (leasts r))

-- what is feasible with any capacity is feasible without limit
pub feasible_open : (r : Request) (c : ℕ) (bs : List ℕ) → feasible (with_capacity r c) bs ≡ true →
    feasible_unlimited r bs ≡ true
feasible_open r c bs k =
    rw (
      feasible_within (with_capacity r c) bs k,
      feasible_unlimited_lem c r.figures.end r.figures.start r.figures.start r.harvest (withdrawn r bs) (omega arith)
          (feasible_drawable (with_capacity r c) bs k),
    ) refl

-- what cannot be reached without limit cannot be reached at all
pub none_open : (r : Request) → reachable_unlimited r ≡ false → (bs : List ℕ) → feasible_unlimited r bs ≡ false
none_open r h bs = go (feasible_unlimited r bs) refl
  where
    big : ℕ
    big = most_energy r

    go : (t : Bool) → feasible_unlimited r bs ≡ t → t ≡ false
    go true q = absurd
        (false≢true (sym h
        ∙ (reachable_unlimited_is r big (omega arith)
        ∙ feasible_reachable (with_capacity r big) bs (unlimited_storage r big (omega arith) bs ∙ q))))
    go false q = refl

-- with any capacity either
pub none_capacity : (r : Request) → reachable_unlimited r ≡ false → (c : ℕ) (bs : List ℕ) →
    feasible (with_capacity r c) bs ≡ false
none_capacity r h c bs = go (feasible (with_capacity r c) bs) refl
  where
    go : (t : Bool) → feasible (with_capacity r c) bs ≡ t → t ≡ false
    go true q = absurd (false≢true (sym (none_open r h bs) ∙ feasible_open r c bs q))
    go false q = refl
