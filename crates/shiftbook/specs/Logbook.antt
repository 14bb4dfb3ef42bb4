-- The logbook of demand 3: kept from the calls' typed figures alone, beside the shift. What a recording makes of count,
-- totals and history, and all refusals, are worded here, apart from the record's; the frame rule is the model's.
use Rattle.std.specs.Prelude.{Bool, not, ◌&&◌, ◌||◌, List, [], ◌∷◌, ◌++◌, map, ℕ, suc, ◌+◌, ◌-◌, eqb, ltb}
use Rattle.std.specs.Prelude.{length, get_or, drop}
use Rattle.std.specs.List.{range_with_len}
use Rattle.model.specs.Choice.{pick}
use Rattle.model.specs.Limits.{max_harvest, max_bound, no_upper_end}
use Rattle.model.specs.Request.{Request, total, figures, bounded_request, frame_count}
use Rattle.model.specs.Refusals.{Refusal, refusal, none, refuse_if, first_of}
use Rattle.model.specs.Charge.{FrameEnd, frame_end}
use Rattle.shift.specs.declared.Totals.{Totals}
use Rattle.shift.specs.declared.Present.{Present}
use Rattle.shift.specs.declared.Shift.{Shift}
use Rattle.shift.specs.declared.Terms.{Terms}
use Rattle.shift.specs.declared.Typed.{Typed}
use Rattle.rest.specs.Rest.{Outlook}

-- what changes as frames are recorded: the count, the charge and the totals; and the history, each recording not
-- refused with its harvest, its use and its loss
pub record Page : Type 0 where
  pub now : Present
  pub history : List Totals

-- the request that the shift was started from, and the page
pub record Logbook : Type 0 where
  pub of : Request
  pub page : Page

-- the sums over a history
abbrev pub sums : List Totals → Totals
sums es =
    record {
      harvested = total (map (λ (e : Totals). e.harvested) es);
      used = total (map (λ (e : Totals). e.used) es);
      lost = total (map (λ (e : Totals). e.lost) es);
    }

-- at the start count and totals are 0, the charge is the start charge, and there is no history
abbrev pub opened : Request → Logbook
opened q =
    record {
      of = q;
      page =
          record {
            now =
                record {
                  recorded = 0;
                  charge = q.figures.start;
                  totals = sums [];
                };
            history = [];
          };
    }

-- the terms that its request sets, worded here apart from the record's
abbrev pub terms : Logbook → Terms
terms l =
    let f = l.of.figures in
    record { frames = frame_count l.of; capacity = f.capacity; start = f.start; end = f.end }

-- no frame is left
abbrev pub none_left : Logbook → Bool
none_left l = eqb l.page.now.recorded (frame_count l.of)

-- 20: every frame is recorded already
abbrev pub all_noted : Logbook → Refusal
all_noted l = refuse_if (none_left l) 20

-- 6: harvest h of frame i above its limit; of a recording it is the frame being recorded
abbrev pub over_limit : ℕ → ℕ → Refusal
over_limit i h = pick (ltb max_harvest h) (refusal 6 i) none

abbrev pub note_over_limit : Logbook → Typed → Refusal
note_over_limit l t = over_limit (l.page.now.recorded + 1) t.harvest

-- 21: use greater than charge plus harvest; P is the excess
abbrev pub note_excess : Logbook → Typed → Refusal
note_excess l t = let a = l.page.now.charge + t.harvest in pick (ltb a t.used) (refusal 21 (t.used - a)) none

-- the refusals of a recording, 22 left out, by the logbook's own count and charge, in document 01's order
abbrev pub note_refusals : Logbook → Typed → List Refusal
note_refusals l t = all_noted l ∷ note_over_limit l t ∷ note_excess l t ∷ []

abbrev pub note_refusal : Logbook → Typed → Refusal
note_refusal l t = first_of (note_refusals l t)

-- what the frame of a recording ends with, the use being its budget; and what is noted of it
abbrev pub note_end : Logbook → Typed → FrameEnd
note_end l t = frame_end l.of.figures.capacity l.page.now.charge t.harvest t.used

abbrev pub line_of : Logbook → Typed → Totals
line_of l t = record { harvested = t.harvest; used = t.used; lost = (note_end l t).lost }

-- a recording not refused: the count goes up, the charge follows its rule with the use as budget, figures and loss
-- join their totals and the history
abbrev pub noted : Logbook → Typed → Logbook
noted l t =
    let n = l.page.now in
    let e = note_end l t in
    record l {
      page =
          record {
            now =
                record {
                  recorded = suc n.recorded;
                  charge = e.charge;
                  totals =
                      record {
                        harvested = n.totals.harvested + t.harvest;
                        used = n.totals.used + t.used;
                        lost = n.totals.lost + e.lost;
                      };
                };
            history = l.page.history ++ (line_of l t ∷ []);
          };
    }

-- 7: a lent list whose length n is not K; of a planning, ns are the lengths of the lists that it writes
abbrev pub not_of_k : Logbook → ℕ → Refusal
not_of_k l n = pick (eqb n (frame_count l.of)) none (refusal 7 0)

abbrev pub length_refusals : Logbook → Outlook → List ℕ → List Refusal
length_refusals l p ns = map (not_of_k l) (length p.harvest ∷ length p.wanted.least ∷ length p.wanted.most ∷ ns)

-- what a lent list has for frame i
abbrev pub entry : List ℕ → ℕ → ℕ
entry xs i = get_or xs (i - 1) 0

-- refusal n where test t holds of a frame from 1 to K that is not recorded yet; P is the earliest such frame
abbrev pub open_refusal : Logbook → ℕ → (ℕ → Bool) → Refusal
open_refusal l n t =
    let of_frame = λ (i : ℕ). pick (ltb l.page.now.recorded i && t i) (refusal n i) none in
    first_of (map of_frame (range_with_len 1 (frame_count l.of)))

-- 6 of a planning: such a frame's harvest above its limit
abbrev pub open_over_limit : Logbook → Outlook → Refusal
open_over_limit l p = open_refusal l 6 (λ i. ltb max_harvest (entry p.harvest i))

-- unfit bounds of a frame: a least above its most, a least above its limit, or a most above it that is not "no upper
-- end"
abbrev pub unfit : ℕ → ℕ → Bool
unfit least most =
    ltb most least || ltb max_bound least || (not (eqb most no_upper_end) && ltb max_bound most)

-- 10 of a planning: such a frame's least and most unfit
abbrev pub open_unfit : Logbook → Outlook → Refusal
open_unfit l p = open_refusal l 10 (λ i. unfit (entry p.wanted.least i) (entry p.wanted.most i))

-- the refusals of a planning by that outlook, into lists of lengths ns, 22 left out, in document 01's order
abbrev pub planning_refusals : Logbook → Outlook → List ℕ → List Refusal
planning_refusals l p ns = length_refusals l p ns ++ (all_noted l ∷ open_over_limit l p ∷ open_unfit l p ∷ [])

abbrev pub planning_refusal : Logbook → Outlook → List ℕ → Refusal
planning_refusal l p ns = first_of (planning_refusals l p ns)

-- the rest by the logbook: its charge and the frames it has not counted, with the harvests, leasts and mosts lent
abbrev pub open_request : Logbook → Outlook → Request
open_request l p =
    let f = l.of.figures in
    let n = l.page.now.recorded in
    bounded_request (figures f.capacity l.page.now.charge f.end) (drop n p.harvest)
    (drop n p.wanted.least) (drop n p.wanted.most)

-- the logbook's figures as a shift's record
abbrev pub shift_of : Logbook → Shift
shift_of l = record { terms = terms l; now = l.page.now }

-- what the caller holds between calls
pub record State : Type 0 where
  pub shift : Shift

-- the same with another shift
abbrev pub with_shift : State → Shift → State
with_shift x s = record x { shift = s }

-- what the logbook says the caller holds
abbrev pub state_of : Logbook → State
state_of l = record { shift = shift_of l }
