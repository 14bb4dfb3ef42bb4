-- The shift's record, its refusals 22, 20 and 21, and what recording a frame makes of it. The rules speak of the
-- terms of a shift and of how it stands now; entries cite them with a shift's figures, 22 in front.
use Rattle.std.specs.Prelude.{Bool, true, ◌&&◌, not, List, [], ◌∷◌, ℕ, suc, ◌+◌, ◌-◌, ◌*◌, eqb, ltb, leb}
use Rattle.model.specs.Refusals.{Refusal}
use Rattle.model.specs.Choice.{pick}
use Rattle.model.specs.Limits.{max_frames, max_harvest, max_capacity}
use Rattle.model.specs.Request.{Request, frame_count}
use Rattle.model.specs.Refusals.{refusal, none, refuse_if, first_of, harvest_over_limit}
use Rattle.model.specs.Charge.{FrameEnd, at_hand, frame_end}
use Rattle.shift.specs.declared.Terms.{Terms}
use Rattle.shift.specs.declared.Typed.{Typed}
use Rattle.shift.specs.declared.Totals.{Totals}
use Rattle.shift.specs.declared.Present.{Present}
use Rattle.shift.specs.declared.Shift.{Shift}

-- the terms that a request sets
abbrev pub terms_of : Request → Terms
terms_of q =
    let f = q.figures in
    record { frames = frame_count q; capacity = f.capacity; start = f.start; end = f.end }

-- the sums over no frames
abbrev pub no_totals : Totals
no_totals = record { harvested = 0; used = 0; lost = 0 }

-- nothing recorded yet, at charge x
abbrev pub unrecorded : ℕ → Present
unrecorded x = record { recorded = 0; charge = x; totals = no_totals }

-- a shift with nothing recorded yet: the charge is the start charge
abbrev pub fresh_shift : Terms → Shift
fresh_shift k = record { terms = k; now = unrecorded k.start }

-- the shift as it is handed over at its start
abbrev pub started : Request → Shift
started q = fresh_shift (terms_of q)

-- terms that are all zeros, and the shift beside a refusal to start, which has them
abbrev pub no_terms : Terms
no_terms = record { frames = 0; capacity = 0; start = 0; end = 0 }

abbrev pub no_shift : Shift
no_shift = fresh_shift no_terms

-- all tests of a list hold
abbrev pub all_of : List Bool → Bool
all_of [] = true
all_of (t ∷ ts) = t && all_of ts

-- terms within their limits
abbrev pub are_terms : Terms → Bool
are_terms k =
    all_of
    (leb 1 k.frames
    ∷ leb k.frames max_frames
    ∷ leb k.capacity max_capacity
    ∷ leb k.start k.capacity
    ∷ leb k.end k.capacity
    ∷ [])

-- start and harvests are charge, uses and losses, the sums being numbers without end
abbrev pub balances : Terms → Present → Bool
balances k n = eqb (k.start + n.totals.harvested) (n.charge + n.totals.used + n.totals.lost)

-- figures that a shift of these terms can stand at
abbrev pub is_present : Terms → Present → Bool
is_present k n =
    all_of
    (leb n.recorded k.frames
    ∷ leb n.charge k.capacity
    ∷ leb n.totals.harvested (max_harvest * n.recorded)
    ∷ balances k n
    ∷ [])

-- a record that refusal 22 lets pass
abbrev pub is_shift : Shift → Bool
is_shift s = are_terms s.terms && is_present s.terms s.now

-- 22: a shift record that isn't one
abbrev pub not_shift : Shift → Refusal
not_shift s = refuse_if (not (is_shift s)) 22

-- no frame is left
abbrev pub is_over : Terms → Present → Bool
is_over k n = eqb n.recorded k.frames

-- 20: every frame is recorded already
abbrev pub all_recorded : Terms → Present → Refusal
all_recorded k n = refuse_if (is_over k n) 20

-- what is typed for a frame with that harvest and that use
abbrev pub typed : ℕ → ℕ → Typed
typed h u = record { harvest = h; used = u }

-- what a recorded frame takes out of the store: its use
abbrev pub drawn : Typed → ℕ
drawn t = t.used

-- 21: more drawn than the frame has at hand; P is the excess
abbrev pub use_too_great : Terms → Present → Typed → Refusal
use_too_great k n t =
    let a = at_hand k.capacity n.charge t.harvest in
    pick (ltb a (drawn t)) (refusal 21 (drawn t - a)) none

-- the refusals of recording what is typed but 22, in their order; P of 6 is the frame being recorded
abbrev pub recording_refusals : Terms → Present → Typed → List Refusal
recording_refusals k n t =
    all_recorded k n ∷ harvest_over_limit (suc n.recorded) (t.harvest ∷ []) ∷ use_too_great k n t ∷ []

abbrev pub record_refusals : Shift → Typed → List Refusal
record_refusals s t = not_shift s ∷ recording_refusals s.terms s.now t

abbrev pub record_refusal : Shift → Typed → Refusal
record_refusal s t = first_of (record_refusals s t)

-- totals, and what one frame adds to them
abbrev pub plus : Totals → Totals → Totals
plus t e =
    record { harvested = t.harvested + e.harvested; used = t.used + e.used; lost = t.lost + e.lost }

-- what a frame of which t is typed ends with: the frame rule with what is drawn as budget
abbrev pub typed_end : Terms → Present → Typed → FrameEnd
typed_end k n t = frame_end k.capacity n.charge t.harvest (drawn t)

-- and what it adds to the totals, with what it loses
abbrev pub added : Typed → ℕ → Totals
added t l = record { harvested = t.harvest; used = t.used; lost = l }

-- how a shift stands after it
abbrev pub after : Terms → Present → Typed → Present
after k n t =
    let e = typed_end k n t in
    record {
      recorded = suc n.recorded;
      charge = e.charge;
      totals = plus n.totals (added t e.lost);
    }

-- the shift after that frame
abbrev pub recorded_by : Shift → Typed → Shift
recorded_by s t = record s { now = after s.terms s.now t }
