-- What charges and losses of a trace mean: no unit is left out, the store never holds more than its capacity, and only
-- a full store loses. No other lists have that meaning, and no frame loses more than its harvest.
use mathlib.Core.Path.{◌≡◌, refl, sym, ap, ◌∙◌}
use mathlib.Core.List.{List, [], ◌∷◌}
use Prim.Native.Nat.{ℕ, zero, suc, ◌+◌, ◌-◌, ◌≤◌, ◌<◌, min}
use native.Mathlib.Omega.{arith}
use lib.ListN.{length, get_or, take, length-map}
use lib.IntN.{ℤ, pos, negsuc, ◌+ℤ◌, ◌-ℤ◌, +ℤ_idr}
use lib.Signed.{◌≤ℤ◌}
use Rattle.model.specs.Request.{Request, total, frame_count, withdrawn}
use Rattle.model.specs.Trace.{min_z, excess, at_hand_z, fullest, traced_end, trace_from, trace, trace_losses_from}
use Rattle.model.specs.Trace.{trace_losses, traced_from, last_from, AccountedFrom, Accounted}
use Rattle.model.specs.declared.frame.TracedEnd.{TracedEnd}
use Rattle.model.proofs.Integers.{up, down, plus_parts, minus_parts, one_side, parts_eq, parts_le}
use Rattle.model.proofs.Integers.{pos_le, le_pos, up_mono}
use Rattle.model.proofs.Machine.{ended}
use Rattle.model.proofs.Trace.{min_pos}
use Rattle.model.proofs.Withdrawn.{withdrawn_length}

-- ---- one frame

-- what is kept of a whole number and what exceeds the capacity make it up
kept_and_lost : (c : ℕ) (z : ℤ) → min_z (pos c) z +ℤ pos (excess z c) ≡ z
kept_and_lost c (pos n) = ap (λ (z : ℤ). z +ℤ pos (n - c)) (min_pos c n) ∙ ap pos (omega arith)
kept_and_lost c (negsuc n) = +ℤ_idr (negsuc n)

-- charge before and harvest are charge after, budget and loss
frame_balance : (c : ℕ) (x : ℤ) (h b : ℕ) →
    let e = traced_end c x h b in x +ℤ pos h ≡ e.charge +ℤ pos (b + e.lost)
frame_balance c x h b =
    let e = traced_end c x h b in
    let z = at_hand_z c x h -ℤ pos b in
    let k = kept_and_lost c z in
    let above : up (e.charge +ℤ pos e.lost) ≡ up z = ap up k in
    let below : down (e.charge +ℤ pos e.lost) ≡ down z = ap down k in
    parts_eq (x +ℤ pos h) (e.charge +ℤ pos (b + e.lost))
    (omega (
      arith,
      minus_parts (x +ℤ pos h) (pos b),
      plus_parts e.charge (pos e.lost),
      plus_parts e.charge (pos (b + e.lost)),
    ))

-- the smaller of the capacity and a whole number is not above it
min_within : (c : ℕ) (z : ℤ) → min_z (pos c) z ≤ℤ pos c
min_within c (pos n) = rw (min_pos c n) (pos_le (min c n) c (omega arith))
min_within c (negsuc n) = parts_le (negsuc n) (pos c) (omega arith)

-- and is the capacity where something exceeds it
min_full : (c : ℕ) (z : ℤ) → 0 < excess z c → min_z (pos c) z ≡ pos c
min_full c (pos n) l = min_pos c n ∙ ap pos (omega arith)
min_full c (negsuc n) l = absurd (omega arith)

-- the store never holds more than its capacity
after_within_capacity : (c : ℕ) (x : ℤ) (h b : ℕ) → fullest (traced_end c x h b).charge b ≤ℤ pos c
after_within_capacity c x h b = min_within c (at_hand_z c x h -ℤ pos b)

-- a store that loses is full
full_after : (c : ℕ) (x : ℤ) (h b : ℕ) → 0 < (traced_end c x h b).lost → fullest (traced_end c x h b).charge b ≡ pos c
full_after c x h b l = min_full c (at_hand_z c x h -ℤ pos b) l

pub part_within_capacity : (c : ℕ) (x : ℤ) (h b : ℕ) → up (traced_end c x h b).charge ≤ c
part_within_capacity c x h b = up_mono (traced_end c x h b).charge (pos c) (after_within_capacity c x h b)

-- and from a charge within the capacity it loses at most its harvest
pub lost_within_harvest : (c : ℕ) (x : ℤ) (h b : ℕ) → up x ≤ c → (traced_end c x h b).lost ≤ h
lost_within_harvest c x h b l =
    let z = at_hand_z c x h -ℤ pos b in
    let s = x +ℤ pos h in
    omega (
      arith,
      excess_is z,
      plus_parts x (pos h),
      minus_parts s (pos b),
      one_side x,
      one_side s,
      one_side z,
    )
  where
    excess_is : (z : ℤ) → excess z c ≡ up z - c
    excess_is (pos n) = refl
    excess_is (negsuc n) = omega arith

-- charge and loss that balance, the store within the capacity and full where something is lost, are the frame's end
frame_only : (c : ℕ) (x : ℤ) (h b : ℕ) (z : ℤ) (l : ℕ) → x +ℤ pos h ≡ z +ℤ pos (b + l) → fullest z b ≤ℤ pos c →
    (0 < l → fullest z b ≡ pos c) → ended z l ≡ traced_end c x h b
frame_only c x h b z l p m f =
    let w = at_hand_z c x h -ℤ pos b in
    let above : up (x +ℤ pos h) ≡ up (z +ℤ pos (b + l)) = ap up p in
    let below : down (x +ℤ pos h) ≡ down (z +ℤ pos (b + l)) = ap down p in
    let rest : z +ℤ pos l ≡ w = parts_eq (z +ℤ pos l) w
    (omega (arith, minus_parts (x +ℤ pos h) (pos b), plus_parts z (pos l), plus_parts z (pos (b + l)))) in
    let k = kept l z m f in
    ap (λ (y : ℤ). ended y l) (sym k.0) ∙ ap (ended (min_z (pos c) (z +ℤ pos l))) (sym k.1)
    ∙ ap (λ (y : ℤ). ended (min_z (pos c) y) (excess y c)) rest
  where
    -- what is kept of them and what exceeds the capacity are they
    kept : (l : ℕ) (z : ℤ) → z ≤ℤ pos c → (0 < l → z ≡ pos c) →
        (min_z (pos c) (z +ℤ pos l) ≡ z) × (excess (z +ℤ pos l) c ≡ l)
    kept zero (pos n) m f =
        let k = le_pos n c m in
        (min_pos c (n + 0) ∙ ap pos (omega arith), omega arith)
    kept zero (negsuc n) m f = rw (+ℤ_idr (negsuc n)) (refl, refl)
    kept (suc l) z m f =
        let e = f (omega arith) in
        rw e (min_pos c (c + suc l) ∙ ap pos (omega arith), omega arith)

-- ---- all frames

-- after one frame that balances, the frames behind it do exactly where all of them do
module _ (x y z : ℤ) (h hs b bs l ls : ℕ) (frame : x +ℤ pos h ≡ y +ℤ pos (b + l)) where
  -- both sides differ by as much behind the frame as from it on
  same_difference :
      up (x +ℤ pos (h + hs)) + down (z +ℤ pos (b + bs + (l + ls))) + (up (z +ℤ pos (bs + ls)) + down (y +ℤ pos hs))
      ≡ down (x +ℤ pos (h + hs)) + up (z +ℤ pos (b + bs + (l + ls))) + (down (z +ℤ pos (bs + ls)) + up (y +ℤ pos hs))
  same_difference =
      let above : up (x +ℤ pos h) ≡ up (y +ℤ pos (b + l)) = ap up frame in
      let below : down (x +ℤ pos h) ≡ down (y +ℤ pos (b + l)) = ap down frame in
      omega (
        arith,
        plus_parts x (pos h),
        plus_parts y (pos (b + l)),
        plus_parts y (pos hs),
        plus_parts z (pos (bs + ls)),
        plus_parts x (pos (h + hs)),
        plus_parts z (pos (b + bs + (l + ls))),
      )

  joined : y +ℤ pos hs ≡ z +ℤ pos (bs + ls) → x +ℤ pos (h + hs) ≡ z +ℤ pos (b + bs + (l + ls))
  joined q =
      parts_eq (x +ℤ pos (h + hs)) (z +ℤ pos (b + bs + (l + ls))) (omega (arith, same_difference, ap up q, ap down q))

  behind : x +ℤ pos (h + hs) ≡ z +ℤ pos (b + bs + (l + ls)) → y +ℤ pos hs ≡ z +ℤ pos (bs + ls)
  behind q = parts_eq (y +ℤ pos hs) (z +ℤ pos (bs + ls)) (omega (arith, same_difference, ap up q, ap down q))

-- a trace leaves no unit out
balanced_from : (c : ℕ) (x : ℤ) (n : ℕ) (hs bs : List ℕ) → length bs ≡ length hs →
    x +ℤ pos (total (take n hs))
    ≡ last_from x (take n (trace_from c x hs bs)) +ℤ pos (total (take n bs) + total (take n (trace_losses_from c x hs bs)))
balanced_from c x zero hs bs l = refl
balanced_from c x (suc n) [] [] l = refl
balanced_from c x (suc n) [] (b ∷ bs) l = absurd (omega arith)
balanced_from c x (suc n) (h ∷ hs) [] l = absurd (omega arith)
balanced_from c x (suc n) (h ∷ hs) (b ∷ bs) l =
    let e = traced_end c x h b in
    joined x e.charge (last_from e.charge (take n (trace_from c e.charge hs bs))) h (total (take n hs)) b
    (total (take n bs)) e.lost (total (take n (trace_losses_from c e.charge hs bs))) (frame_balance c x h b)
    (balanced_from c e.charge n hs bs (omega arith))

-- never holds more than its capacity
within_from : (c : ℕ) (x : ℤ) (hs bs : List ℕ) → length bs ≡ length hs → (i : ℕ) →
    fullest (get_or (trace_from c x hs bs) i (pos 0)) (get_or bs i 0) ≤ℤ pos c
within_from c x [] [] l i = pos_le 0 c (omega arith)
within_from c x [] (b ∷ bs) l i = absurd (omega arith)
within_from c x (h ∷ hs) [] l i = absurd (omega arith)
within_from c x (h ∷ hs) (b ∷ bs) l zero = after_within_capacity c x h b
within_from c x (h ∷ hs) (b ∷ bs) l (suc i) = within_from c (traced_end c x h b).charge hs bs (omega arith) i

-- loses only where the store is full
full_from : (c : ℕ) (x : ℤ) (hs bs : List ℕ) (i : ℕ) → 0 < get_or (trace_losses_from c x hs bs) i 0 →
    fullest (get_or (trace_from c x hs bs) i (pos 0)) (get_or bs i 0) ≡ pos c
full_from c x [] bs i l = absurd (omega arith)
full_from c x (h ∷ hs) [] i l = absurd (omega arith)
full_from c x (h ∷ hs) (b ∷ bs) zero l = full_after c x h b l
full_from c x (h ∷ hs) (b ∷ bs) (suc i) l = full_from c (traced_end c x h b).charge hs bs i l

-- and has an end for each frame
long_from : (c : ℕ) (x : ℤ) (hs bs : List ℕ) → length bs ≡ length hs → length (traced_from c x hs bs) ≡ length hs
long_from c x [] bs l = refl
long_from c x (h ∷ hs) [] l = absurd (omega arith)
long_from c x (h ∷ hs) (b ∷ bs) l = ap suc (long_from c (traced_end c x h b).charge hs bs (omega arith))

-- so it accounts for everything
pub accounted_from : (c : ℕ) (x : ℤ) (hs bs : List ℕ) → length bs ≡ length hs →
    AccountedFrom c x hs bs (trace_from c x hs bs) (trace_losses_from c x hs bs)
accounted_from c x hs bs l =
    let es = traced_from c x hs bs in
    record {
      charges_long = length-map es (λ (e : TracedEnd). e.charge) ∙ long_from c x hs bs l;
      losses_long = length-map es (λ (e : TracedEnd). e.lost) ∙ long_from c x hs bs l;
      balanced = λ n. balanced_from c x n hs bs l;
      within = within_from c x hs bs l;
      full = full_from c x hs bs;
    }

pub trace_accounted : (r : Request) (bs : List ℕ) → length bs ≡ frame_count r →
    Accounted r bs (trace r bs) (trace_losses r bs)
trace_accounted r bs l =
    accounted_from r.figures.capacity (pos r.figures.start) r.harvest (withdrawn r bs) (withdrawn_length r bs ∙ l)

-- and no other lists do
only_from : (c : ℕ) (x : ℤ) (hs bs : List ℕ) (zs : List ℤ) (ls : List ℕ) → length bs ≡ length hs →
    AccountedFrom c x hs bs zs ls → (zs ≡ trace_from c x hs bs) × (ls ≡ trace_losses_from c x hs bs)
only_from c x [] bs [] [] k a = (refl, refl)
only_from c x [] bs (z ∷ zs) ls k a = absurd (omega (arith, a.charges_long))
only_from c x [] bs [] (l ∷ ls) k a = absurd (omega (arith, a.losses_long))
only_from c x (h ∷ hs) [] zs ls k a = absurd (omega arith)
only_from c x (h ∷ hs) (b ∷ bs) [] ls k a = absurd (omega (arith, a.charges_long))
only_from c x (h ∷ hs) (b ∷ bs) (z ∷ zs) [] k a = absurd (omega (arith, a.losses_long))
only_from c x (h ∷ hs) (b ∷ bs) (z ∷ zs) (l ∷ ls) k a =
    let u : h ≡ h + 0 = omega arith in
    let v : b + 0 + (l + 0) ≡ b + l = omega arith in
    let first = ap (λ (j : ℕ). x +ℤ pos j) u ∙ (a.balanced 1 ∙ ap (λ (j : ℕ). z +ℤ pos j) v) in
    let e = frame_only c x h b z l first (a.within 0) (a.full 0) in
    let i = only_from c z hs bs zs ls (omega arith)
    (record {
      charges_long = omega (arith, a.charges_long);
      losses_long = omega (arith, a.losses_long);
      balanced =
          λ j. behind x z (last_from z (take j zs)) h (total (take j hs)) b (total (take j bs)) l
          (total (take j ls)) first (a.balanced (suc j));
      within = λ j. a.within (suc j);
      full = λ j. a.full (suc j);
    }) in (
      ap (λ (t : List ℤ). z ∷ t) i.0 ∙ ap (λ (t : TracedEnd). t.charge ∷ trace_from c t.charge hs bs) e,
      ap (λ (t : List ℕ). l ∷ t) i.1 ∙ ap (λ (t : TracedEnd). t.lost ∷ trace_losses_from c t.charge hs bs) e,
    )

pub accounted_only : (r : Request) (bs : List ℕ) (zs : List ℤ) (ls : List ℕ) → length bs ≡ frame_count r →
    Accounted r bs zs ls → (zs ≡ trace r bs) × (ls ≡ trace_losses r bs)
accounted_only r bs zs ls l a =
    only_from r.figures.capacity (pos r.figures.start) r.harvest (withdrawn r bs) zs ls (withdrawn_length r bs ∙ l) a

-- no frame loses more than its harvest
lost_from : (c : ℕ) (x : ℤ) (hs bs : List ℕ) → up x ≤ c → (i : ℕ) →
    get_or (trace_losses_from c x hs bs) i 0 ≤ get_or hs i 0
lost_from c x [] bs l i = omega arith
lost_from c x (h ∷ hs) [] l i = omega arith
lost_from c x (h ∷ hs) (b ∷ bs) l zero = lost_within_harvest c x h b l
lost_from c x (h ∷ hs) (b ∷ bs) l (suc i) =
    lost_from c (traced_end c x h b).charge hs bs (part_within_capacity c x h b) i

pub losses_within : (r : Request) (bs : List ℕ) → r.figures.start ≤ r.figures.capacity → (i : ℕ) →
    get_or (trace_losses r bs) i 0 ≤ get_or r.harvest i 0
losses_within r bs l = lost_from r.figures.capacity (pos r.figures.start) r.harvest (withdrawn r bs) l
