-- Refusal 11 one frame at a time: leasts that refusal 10 lets pass are within the bounds, so that they are feasible where
-- Definition 1 lets them be drawn.
use mathlib.Core.Path.{◌≡◌, refl, sym, ap, ◌∙◌}
use mathlib.Core.Bool.{Bool, true, false, not, ◌&&◌, ◌||◌, false≢true}
use mathlib.Core.List.{List, [], ◌∷◌}
use Prim.Native.Nat.{ℕ, suc, ◌≤◌}
use native.Mathlib.Omega.{arith}
use lib.Dec.{eqb}
use lib.ListN.{length, replicate}
use borrow.Author.Tests.{le-leb}
use Rattle.model.specs.Refusals.{Refusal}
use Rattle.model.specs.declared.Figures.{Figures}
use Rattle.model.specs.Limits.{no_upper_end}
use Rattle.model.specs.Request.{Bounds, Request, bounds, bounds_of, bounded_request, leasts_from, leasts, frame_count, with_capacity}
use Rattle.model.specs.Request.{most_energy}
use Rattle.model.specs.Charge.{within_bounds, all_within, drawable, feasible}
use Rattle.model.specs.Refusals.{refusal, none, is_none, refuse_if, first_of, bad_bounds, bounds_refused, out_of_reach}
use Rattle.model.specs.Refusals.{leasts_refused, leasts_refused_unlimited}
use Rattle.model.proofs.Reach.{unlimited_storage, zeros_feasible}
use Rattle.request.specs.Reach.{unreachable_by}
use Rattle.request.proofs.BadBounds.{BoundsFit, bounds_fit}
use Rattle.request.proofs.Harvest.{reach_within}

-- ---- the leasts within the bounds

least_fits : (l m : ℕ) → BoundsFit l m → within_bounds (bounds l m) l ≡ true
least_fits l m w = rw (le-leb l l (omega arith), le-leb l m w.ordered) (either (eqb m no_upper_end))
  where
    either : (t : Bool) → t || true ≡ true
    either true = refl
    either false = refl

-- the leasts of a request as its list of leasts
pub leasts_are : (hs ls ms : List ℕ) → length ls ≡ length hs → length ms ≡ length hs →
    leasts_from hs (bounds_of ls ms) ≡ ls
leasts_are [] [] ms p q = refl
leasts_are [] (l ∷ ls) ms p q = absurd (omega arith)
leasts_are (h ∷ hs) [] ms p q = absurd (omega arith)
leasts_are (h ∷ hs) (l ∷ ls) [] p q = absurd (omega arith)
leasts_are (h ∷ hs) (l ∷ ls) (m ∷ ms) p q = ap (λ (xs : List ℕ). l ∷ xs) (leasts_are hs ls ms (omega arith) (omega arith))

-- they are within the bounds where refusal 10 does not hold
pub leasts_in_lem : (k : ℕ) (ls ms : List ℕ) → is_none (bounds_refused k (bounds_of ls ms)) ≡ true →
    all_within (bounds_of ls ms) ls ≡ true
leasts_in_lem k [] ms e = refl
leasts_in_lem k (l ∷ ls) [] e = refl
leasts_in_lem k (l ∷ ls) (m ∷ ms) e = go (bad_bounds (bounds l m)) refl e (leasts_in_lem (suc k) ls ms)
  where
    ws : List Bounds
    ws = bounds_of ls ms

    go : (t : Bool) → bad_bounds (bounds l m) ≡ t
        → is_none (elim t as (λ _. Refusal) [ true ↦ refusal 10 k | false ↦ bounds_refused (suc k) ws ]) ≡ true
        → (is_none (bounds_refused (suc k) ws) ≡ true → all_within ws ls ≡ true)
        → (within_bounds (bounds l m) l && all_within ws ls) ≡ true
    go true q f ih = absurd (false≢true f)
    go false q f ih = rw (least_fits l m (bounds_fit l m q), ih f) refl

-- so 11 is whether they can be drawn
pub leasts_drawn : (f : Figures) (hs ls ms : List ℕ) → length ls ≡ length hs → length ms ≡ length hs →
    all_within (bounds_of ls ms) ls ≡ true →
    let r = bounded_request f hs ls ms in
    feasible r (leasts r) ≡ drawable r ls
leasts_drawn f hs ls ms p q a = rw (leasts_are hs ls ms p q, a) refl

pub unreachable_is : (f : Figures) (hs ls ms : List ℕ) → length ls ≡ length hs → length ms ≡ length hs →
    all_within (bounds_of ls ms) ls ≡ true →
    let r = bounded_request f hs ls ms in
    first_of (unreachable_by r ls) ≡ first_of (out_of_reach r ∷ leasts_refused r ∷ [])
unreachable_is f hs ls ms p q a =
    let r = bounded_request f hs ls ms in
    ap (λ (t : Bool). first_of (out_of_reach r ∷ refuse_if (not t) 11 ∷ [])) (sym (leasts_drawn f hs ls ms p q a))

-- which holds of no request without leasts whose end charge is in reach and fits the store
pub no_leasts : (r : Request) (ls : List ℕ) → length ls ≡ frame_count r →
    r.figures.end ≤ r.figures.capacity → ls ≡ replicate (length ls) 0 → is_none (out_of_reach r) ≡ true →
    none ≡ first_of (unreachable_by r ls)
no_leasts r ls p q z e =
    let f = r.figures in
    let zeros : ls ≡ replicate (frame_count r) 0 = z ∙ ap (λ (n : ℕ). replicate n 0) p in
    let feasible : drawable r ls ≡ true =
    ap (drawable r) zeros
    ∙ zeros_feasible f.capacity f.end f.start r.harvest q (reach_within r e) in
    rw (e, feasible) refl

-- and with a store for all there is it is 11 without limit
pub eleven_open : (r : Request) (c : ℕ) → most_energy r ≤ c → leasts_refused (with_capacity r c) ≡ leasts_refused_unlimited r
eleven_open r c h = ap (λ (t : Bool). refuse_if (not t) 11) (unlimited_storage r c h (leasts r))
