-- What a frame ends with, the charge and the loss, and which assignments are feasible: those within the bounds that
-- Definition 1 of the source allows.
use Rattle.std.specs.Prelude.{Bool, true, false, ◌&&◌, ◌||◌, List, [], ◌∷◌, map, ℕ, ◌+◌, ◌-◌, min, leb, eqb}
use Rattle.model.specs.Limits.{no_upper_end}
use Rattle.model.specs.Request.{Bounds, Request, withdrawn}

-- what a frame has at hand: the charge x before it and its harvest h, all of which it can use, whatever the capacity c
abbrev pub at_hand : ℕ → ℕ → ℕ → ℕ
at_hand c x h = x + h

-- what a frame ends with: the charge, and what was lost because the store was full
pub record FrameEnd : Type 0 where
  pub charge : ℕ
  pub lost : ℕ

-- the frame rule: capacity c, charge x before, harvest h, withdrawn b with b ≤ at_hand c x h. The tracer's is its
-- extension below zero
abbrev pub frame_end : ℕ → ℕ → ℕ → ℕ → FrameEnd
frame_end c x h b = record { charge = min c (at_hand c x h - b); lost = at_hand c x h - b - c }

-- Definition 1, from charge x: nothing withdrawn above what is at hand, and the end charge e reached after the last
-- frame
abbrev pub feasible_from : ℕ → ℕ → ℕ → List ℕ → List ℕ → Bool
feasible_from c e x [] [] = leb e x
feasible_from c e x [] (b ∷ bs) = false
feasible_from c e x (h ∷ hs) [] = false
feasible_from c e x (h ∷ hs) (b ∷ bs) = leb b (at_hand c x h) && feasible_from c e (frame_end c x h b).charge hs bs

-- what can be drawn, whatever the bounds
abbrev pub drawable : Request → List ℕ → Bool
drawable r bs =
    feasible_from r.figures.capacity r.figures.end r.figures.start r.harvest (withdrawn r bs)

-- a budget within the bounds of its frame
abbrev pub within_bounds : Bounds → ℕ → Bool
within_bounds w b = leb w.least b && (eqb w.most no_upper_end || leb b w.most)

-- every budget within the bounds of its frame
abbrev pub all_within : List Bounds → List ℕ → Bool
all_within [] bs = true
all_within (w ∷ ws) [] = true
all_within (w ∷ ws) (b ∷ bs) = within_bounds w b && all_within ws bs

abbrev pub feasible : Request → List ℕ → Bool
feasible r bs = all_within r.bounds bs && drawable r bs

-- what each frame of an assignment ends with
abbrev pub ends_from : ℕ → ℕ → List ℕ → List ℕ → List FrameEnd
ends_from c x [] bs = []
ends_from c x (h ∷ hs) [] = []
ends_from c x (h ∷ hs) (b ∷ bs) = let e = frame_end c x h b in e ∷ ends_from c e.charge hs bs

-- the charge after each frame
abbrev pub charges_from : ℕ → ℕ → List ℕ → List ℕ → List ℕ
charges_from c x hs bs = map (λ (e : FrameEnd). e.charge) (ends_from c x hs bs)

abbrev pub charges : Request → List ℕ → List ℕ
charges r bs = charges_from r.figures.capacity r.figures.start r.harvest (withdrawn r bs)

-- what each frame loses
abbrev pub losses_from : ℕ → ℕ → List ℕ → List ℕ → List ℕ
losses_from c x hs bs = map (λ (e : FrameEnd). e.lost) (ends_from c x hs bs)

abbrev pub losses : Request → List ℕ → List ℕ
losses r bs = losses_from r.figures.capacity r.figures.start r.harvest (withdrawn r bs)

-- unlimited storage: the same rule with nothing lost
abbrev pub feasible_unlimited_from : ℕ → ℕ → List ℕ → List ℕ → Bool
feasible_unlimited_from e x [] [] = leb e x
feasible_unlimited_from e x [] (b ∷ bs) = false
feasible_unlimited_from e x (h ∷ hs) [] = false
feasible_unlimited_from e x (h ∷ hs) (b ∷ bs) = leb b (x + h) && feasible_unlimited_from e (x + h - b) hs bs

abbrev pub feasible_unlimited : Request → List ℕ → Bool
feasible_unlimited r bs =
    all_within r.bounds bs
    && feasible_unlimited_from r.figures.end r.figures.start r.harvest (withdrawn r bs)
