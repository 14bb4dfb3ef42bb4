-- The tracer: charges of any budgets as whole numbers, below zero included, what each frame loses, and the verdict.
use Rattle.std.specs.Prelude.{◌≡◌, true, false, List, [], ◌∷◌, map, ℤ, pos, negsuc, ◌+ℤ◌, ◌-ℤ◌, ◌≤ℤ◌, ℕ, suc, ◌+◌, ◌-◌, ◌<◌, leb, length, get_or, take}
use Rattle.std.specs.Int.Signed.{le_z, non_neg}
use Rattle.model.specs.Choice.{pick}
use Rattle.model.specs.Request.{Request, total, withdrawn}
use Rattle.model.specs.declared.frame.TracedEnd.{TracedEnd}

-- the smaller of two whole numbers
abbrev pub min_z : ℤ → ℤ → ℤ
min_z a b = pick (le_z a b) a b

-- the amount by which a whole number exceeds a natural one; below zero nothing does
abbrev pub excess : ℤ → ℕ → ℕ
excess (pos n) c = n - c
excess (negsuc n) c = 0

-- what a frame has at hand, its charge before being any whole number
abbrev pub at_hand_z : ℕ → ℤ → ℕ → ℤ
at_hand_z c x h = x +ℤ pos h

-- the frame rule extended below zero: any budget, any charge before. That it is `frame_end` where the budget is at
-- hand is a law (proofs/Trace.antt)
abbrev pub traced_end : ℕ → ℤ → ℕ → ℕ → TracedEnd
traced_end c x h b =
    let left = at_hand_z c x h -ℤ pos b in
    record { charge = min_z (pos c) left; lost = excess left c }

-- what the store holds once it has taken in what it can of the harvest, in a frame that withdraws b and ends with charge
-- z: that charge, whatever b, since what is withdrawn is drawn before
abbrev pub fullest : ℤ → ℕ → ℤ
fullest z b = z

-- what each frame of any budgets ends with
abbrev pub traced_from : ℕ → ℤ → List ℕ → List ℕ → List TracedEnd
traced_from c x [] bs = []
traced_from c x (h ∷ hs) [] = []
traced_from c x (h ∷ hs) (b ∷ bs) = let e = traced_end c x h b in e ∷ traced_from c e.charge hs bs

-- the charge after each frame
abbrev pub trace_from : ℕ → ℤ → List ℕ → List ℕ → List ℤ
trace_from c x hs bs = map (λ (e : TracedEnd). e.charge) (traced_from c x hs bs)

abbrev pub trace : Request → List ℕ → List ℤ
trace r bs = trace_from r.figures.capacity (pos r.figures.start) r.harvest (withdrawn r bs)

-- what each frame loses
abbrev pub trace_losses_from : ℕ → ℤ → List ℕ → List ℕ → List ℕ
trace_losses_from c x hs bs = map (λ (e : TracedEnd). e.lost) (traced_from c x hs bs)

abbrev pub trace_losses : Request → List ℕ → List ℕ
trace_losses r bs = trace_losses_from r.figures.capacity (pos r.figures.start) r.harvest (withdrawn r bs)

-- the earliest frame below zero among all but the last, the first being frame k; 0 for none
abbrev pub below_from : ℕ → List ℤ → ℕ
below_from k [] = 0
below_from k (z ∷ []) = 0
below_from k (z ∷ (y ∷ zs)) = elim (non_neg z) [ true ↦ below_from (suc k) (y ∷ zs) | false ↦ k ]

-- the last charge, or x where there is no frame
abbrev pub last_from : ℤ → List ℤ → ℤ
last_from x [] = x
last_from x (z ∷ zs) = last_from z zs

-- what charges zs and losses ls mean, of a store of capacity c from charge x on, with harvests hs and withdrawals bs.
-- For any withdrawals, one for each frame, the trace has this meaning and nothing else has (proofs/Losses.antt)
pub record AccountedFrom (c : ℕ) (x : ℤ) (hs bs : List ℕ) (zs : List ℤ) (ls : List ℕ) : Type 0 where
  -- a charge and a loss for each frame
  pub charges_long : length zs ≡ length hs
  pub losses_long : length ls ≡ length hs
  -- no unit is left out: after any number n of frames the charge at first plus the harvests so far is the charge plus
  -- the withdrawals so far plus the losses so far
  pub balanced : (n : ℕ) →
      x +ℤ pos (total (take n hs)) ≡ last_from x (take n zs) +ℤ pos (total (take n bs) + total (take n ls))
  -- the store never holds more than its capacity
  pub within : (i : ℕ) → fullest (get_or zs i (pos 0)) (get_or bs i 0) ≤ℤ pos c
  -- only a full store loses, so that below zero nothing is lost
  pub full : (i : ℕ) → 0 < get_or ls i 0 → fullest (get_or zs i (pos 0)) (get_or bs i 0) ≡ pos c

abbrev pub Accounted : Request → List ℕ → List ℤ → List ℕ → Type 0
Accounted r bs zs ls =
    AccountedFrom r.figures.capacity (pos r.figures.start) r.harvest (withdrawn r bs) zs ls

-- document 01's verdict on a supplied list
pub data Verdict : Type 0 where
  below_zero : ℕ → Verdict
  end_too_low : Verdict
  is_feasible : Verdict

abbrev pub verdict : Request → List ℕ → Verdict
verdict r bs =
    let zs = trace r bs in
    let k = below_from 1 zs in
    pick (leb 1 k) (below_zero k)
    (pick (le_z (pos r.figures.end) (last_from (pos r.figures.start) zs)) is_feasible end_too_low)

-- what it is to be the earliest frame below zero: place i, from 0, is not the last, its charge is below zero, and
-- none before it is
pub record EarliestBelow (i : ℕ) (zs : List ℤ) : Type 0 where
  pub not_last : suc i < length zs
  pub below : non_neg (get_or zs i (pos 0)) ≡ false
  pub before : (j : ℕ) → j < i → non_neg (get_or zs j (pos 0)) ≡ true
