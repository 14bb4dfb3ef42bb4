-- Cases worked by hand: statements about the definitions that the entries' promises speak of, with the values that
-- documents 01 and 02 want. First what document 01 marks with *, with what document 02 adds to it; then leasts and
-- mosts, the house curves, and entry by entry what it refuses: each number and P, each limit with the next value above
-- it, each lent list of another length alone, and of two refusals that hold at once the first. Most cases are a line.
use Rattle.std.specs.Prelude.{◌≡◌, true, List, [], ◌∷◌, ◌++◌, map, length, replicate, take, drop}
use Rattle.std.specs.Prelude.{ℕ, ◌+◌, ◌*◌, ℤ, pos, negsuc}
use Prim.Native.String.{String}
use Rattle.model.specs.Limits.{no_upper_end}
use Rattle.model.specs.Request.{Request, bounded_request, figures, frame_count}
use Rattle.model.specs.Refusals.{Refusal, refusal, none, plan_refusal, whole_plan_refusal, needed_refusal}
use Rattle.model.specs.Refusals.{trace_refusal, grade_refusal, start_refusal}
use Rattle.model.specs.Charge.{charges, losses}
use Rattle.model.specs.Trace.{trace, trace_losses, Verdict, below_zero, end_too_low, is_feasible, verdict}
use Rattle.model.specs.Curves.{house_curve, unit_gain, grade}
use Rattle.model.specs.Plan.{plan_of, needed_of}
use Rattle.model.specs.Lent.{over}
use Rattle.shift.specs.declared.Terms.{Terms}
use Rattle.shift.specs.declared.Shift.{Shift}
use Rattle.shift.specs.Shift.{started, typed, record_refusal, recorded_by}
use Rattle.rest.specs.Rest.{Outlook, outlook, Ending, not_short, ending_of, rest_request, rest_refusal, rest_budgets}
use Rattle.rest.specs.Rest.{part_refusal, part_of, written_from}
use Rattle.words.specs.Words.{bytes_of}
use Rattle.wordfile.specs.File.{file_words, file_bytes, request_in, read_refusal, write_refusal}
use Rattle.wordfile.specs.Says.{header_of}
use Rattle.printed.specs.Text as text
use Rattle.text.specs.Ascii.{ascii}

-- ---- what a case states

-- a refusal: its number and its P
abbrev pub refuses : Refusal → ℕ → ℕ → Type 0
refuses f n p = f ≡ refusal n p

-- no refusal
abbrev pub passes : Refusal → Type 0
passes f = f ≡ none

-- the refusal of a request with all lent lists of length K: of planning it, of its needed capacity, of tracing it, of a
-- shift's start from it, and of writing it into a list of that room
abbrev pub planning : Request → Refusal
planning r = whole_plan_refusal r

abbrev pub needing : Request → Refusal
needing r = needed_refusal r (frame_count r) (frame_count r)

abbrev pub tracing : Request → Refusal
tracing r = trace_refusal r (frame_count r) (frame_count r) (frame_count r)

abbrev pub starting : Request → Refusal
starting r = start_refusal r (frame_count r) (frame_count r)

abbrev pub writing : Request → ℕ → Refusal
writing r room = write_refusal r (frame_count r) (frame_count r) room

-- the refusal of planning a request with lists of l leasts, m mosts and n budgets
abbrev pub planning_with : Request → ℕ → ℕ → ℕ → Refusal
planning_with r l m n = plan_refusal r l m (n ∷ [])

-- the refusal of planning the rest of a shift by an outlook into n budgets
abbrev pub resting : Shift → Outlook → ℕ → Refusal
resting s p n = rest_refusal s p (n ∷ [])

-- a shift of whose next frame a harvest and a use are typed: the refusal of recording them, and the shift after that
-- frame
abbrev pub recording : Shift → ℕ → ℕ → Refusal
recording s h u = record_refusal s (typed h u)

abbrev pub recorded : Shift → ℕ → ℕ → Shift
recorded s h u = recorded_by s (typed h u)

-- a request and its plan
abbrev pub plans : Request → List ℕ → Type 0
plans r bs = passes (planning r) × (plan_of r ≡ bs)

-- a request, and for each frame of its plan the charge after it and its loss
abbrev pub charged : Request → List ℕ → List ℕ → Type 0
charged r xs ls = (charges r (plan_of r) ≡ xs) × (losses r (plan_of r) ≡ ls)

-- a request and its needed capacity
abbrev pub needs : Request → ℕ → Type 0
needs r c = passes (needing r) × (needed_of r ≡ c)

-- budgets and their worth by the three house curves
abbrev pub worths : List ℕ → ℕ → ℕ → ℕ → Type 0
worths bs x y z =
    (grade (house_curve 0) bs ≡ x) × (grade (house_curve 1) bs ≡ y) × (grade (house_curve 2) bs ≡ z)

-- what units with these numbers earn by a house curve
abbrev pub earns : ℕ → List ℕ → List ℕ → Type 0
earns c ns gs = map (unit_gain (house_curve c)) ns ≡ gs

-- a request, supplied budgets, their charges, their losses and the verdict
abbrev pub traces : Request → List ℕ → List ℤ → List ℕ → Verdict → Type 0
traces r bs zs ls v = (trace r bs ≡ zs) × (trace_losses r bs ≡ ls) × (verdict r bs ≡ v)

-- a shift, a recorded harvest and use, the charge that is left and what is lost
abbrev pub records : Shift → ℕ → ℕ → ℕ → ℕ → Type 0
records s h u x l =
    passes (recording s h u)
    × ((recorded s h u).now.charge ≡ x)
    × ((recorded s h u).now.totals.lost ≡ s.now.totals.lost + l)

-- a shift, the outlook that planning the rest goes by, how it ends, and the budgets that it writes
abbrev pub rests : Shift → Outlook → Ending → List ℕ → Type 0
rests s p e bs =
    let q = rest_request s p in
    passes (resting s p s.terms.frames) × (ending_of q ≡ e) × (rest_budgets q ≡ bs)

-- a request and the words of its file
abbrev pub words : Request → List ℕ → Type 0
words r ws =
    let k = frame_count r in
    (file_words r ≡ ws) × passes (read_refusal (file_bytes r) k k k) × (request_in (file_bytes r) ≡ r)

-- a file, how many bytes it has, the room of the lists that it is read into, and the refusal
abbrev pub reads : List ℕ → ℕ → ℕ → Refusal → Type 0
reads s n room f = (length s ≡ n) × (read_refusal s room room room ≡ f)

-- a request and what the plan program prints of its file
abbrev pub prints : Request → String → Type 0
prints r t = text.listing (file_bytes r) ≡ ascii t

-- ---- what the cases are about

-- a request of that capacity, start, end and harvests, with a least of 0 and no upper end for each frame
abbrev pub asked : ℕ → ℕ → ℕ → List ℕ → Request
asked c s e hs = bounded_request (figures c s e) hs (replicate (length hs) 0) (replicate (length hs) no_upper_end)

-- the same with leasts and mosts
abbrev pub bound : ℕ → ℕ → ℕ → List ℕ → List ℕ → List ℕ → Request
bound c s e hs ls ms = bounded_request (figures c s e) hs ls ms

-- a request of that many frames with a harvest of 1 each, and one with a least and a most of 1 each
abbrev pub evenly : ℕ → Request
evenly k = asked 9 0 0 (replicate k 1)

abbrev pub within : ℕ → Request
within k = bound 9 0 0 (replicate k 1) (replicate k 1) (replicate k 1)

-- lists for planning the rest: harvests, leasts and mosts; harvests with leasts and no upper ends; and harvests alone
abbrev pub lists : List ℕ → List ℕ → List ℕ → Outlook
lists hs ls ms = outlook hs ls ms

abbrev pub at_least : List ℕ → List ℕ → Outlook
at_least hs ls = lists hs ls (replicate (length hs) no_upper_end)

abbrev pub free : List ℕ → Outlook
free hs = at_least hs (replicate (length hs) 0)

-- lists for planning the rest with these lengths, of zeros
abbrev pub blank : ℕ → ℕ → ℕ → Outlook
blank h l m = lists (replicate h 0) (replicate l 0) (replicate m 0)

-- the harvests of the listing
abbrev pub sun : List ℕ
sun = 6 ∷ 4 ∷ 0 ∷ 0 ∷ 5 ∷ 5 ∷ []

-- the request of the listing, with a capacity
abbrev pub listing : ℕ → Request
listing c = asked c 2 2 sun

-- the same with capacity 5 and leasts and mosts
abbrev pub listing_within : List ℕ → List ℕ → Request
listing_within ls ms = bound 5 2 2 sun ls ms

-- six leasts of 0, and six mosts without upper end
abbrev pub no_leasts : List ℕ
no_leasts = replicate 6 0

abbrev pub no_mosts : List ℕ
no_mosts = replicate 6 no_upper_end

-- requests of which two refusals hold that are neighbours in the lists of most entries, and no other before them
abbrev pub both_3_4 : Request
both_3_4 = asked 1000000001 1000000002 0 (1 ∷ [])

abbrev pub both_4_5 : Request
both_4_5 = asked 5 6 7 (1 ∷ [])

abbrev pub both_5_6 : Request
both_5_6 = asked 5 0 6 (400001 ∷ [])

abbrev pub both_6_10 : Request
both_6_10 = bound 9 0 0 (1 ∷ 400001 ∷ []) (3 ∷ 0 ∷ []) (2 ∷ 0 ∷ [])

abbrev pub both_10_9 : Request
both_10_9 = bound 9 0 9 (1 ∷ 1 ∷ []) (0 ∷ 2 ∷ []) (0 ∷ 1 ∷ [])

abbrev pub both_9_11 : Request
both_9_11 = bound 8 3 8 (4 ∷ []) (99 ∷ []) (no_upper_end ∷ [])

-- terms of a shift: frames, capacity, start and end
abbrev pub terms : ℕ → ℕ → ℕ → ℕ → Terms
terms k c s e = record { frames = k; capacity = c; start = s; end = e }

-- a shift of these terms: frames recorded, charge, harvested, used, lost
abbrev pub shift : Terms → ℕ → ℕ → ℕ → ℕ → ℕ → Shift
shift k n x h u l =
    record {
      terms = k;
      now = record { recorded = n; charge = x; totals = record { harvested = h; used = u; lost = l } };
    }

-- a shift of one frame with charge 4 and capacity 5, and the same with its frame recorded: harvest 3, use 7
abbrev pub four : Shift
four = started (asked 5 4 0 (3 ∷ []))

abbrev pub all_done : Shift
all_done = shift (terms 1 5 4 0) 1 0 3 7 0

-- a shift of two frames with one recorded and charge 3: start 4, harvest 2, use 1, loss 2
abbrev pub half_done : Shift
half_done = shift (terms 2 5 4 0) 1 3 2 1 2

-- no shift, since its charge is above its capacity: with a frame to record, and with all recorded
abbrev pub over_full : Shift
over_full = shift (terms 2 5 4 0) 1 6 3 1 0

abbrev pub over_full_done : Shift
over_full_done = shift (terms 1 5 4 0) 1 6 3 1 0

-- the listing's shift with frame 1 recorded: harvest 1, use 3
abbrev pub after_one : Shift
after_one = recorded (started (listing 5)) 1 3

-- short, and by how much
abbrev pub short_by : ℕ → Ending
short_by m = record { short = true; missing = m }

-- ---- the table

-- every statement of a list holds
abbrev pub AllHold : List (Type 0) → Type 0
AllHold [] = Unit {0}
AllHold (c ∷ cs) = c × AllHold cs

abbrev pub cases : List (Type 0)
cases =
    -- document 01's listing, and the room of the longest
    prints (listing 5)
    "frames 6 capacity 5 needed 6\n1 4 4 0\n2 3 5 0\n3 3 2 0\n4 2 0 0\n5 4 1 0\n6 4 2 0\nworth 320 480 100\n"
    ∷ (text.listing_bytes ≡ 49 + 33 * 672 + 42)
    ∷ plans (listing 5) (4 ∷ 3 ∷ 3 ∷ 2 ∷ 4 ∷ 4 ∷ [])
    ∷ charged (listing 5) (4 ∷ 5 ∷ 2 ∷ 0 ∷ 1 ∷ 2 ∷ []) no_leasts
    ∷ needs (listing 5) 6
    ∷ worths (4 ∷ 3 ∷ 3 ∷ 2 ∷ 4 ∷ 4 ∷ []) 320 480 100
    ∷ plans (listing 6) (3 ∷ 3 ∷ 3 ∷ 3 ∷ 4 ∷ 4 ∷ [])
    -- document 01's small requests, and the words of one
    ∷ plans (asked 9 0 0 (1 ∷ 2 ∷ [])) (1 ∷ 2 ∷ [])
    ∷ needs (asked 9 0 0 (1 ∷ 2 ∷ [])) 0
    ∷ words (asked 9 0 0 (1 ∷ 2 ∷ [])) (0x00000009 ∷ 0x00000000 ∷ 0x00000000 ∷ 0x40000001 ∷ 0x40000002 ∷ 0xC0000002
    ∷ [])
    ∷ plans (asked 9 0 0 (2 ∷ 1 ∷ [])) (2 ∷ 1 ∷ [])
    ∷ plans (asked 10 10 0 (0 ∷ [])) (10 ∷ [])
    ∷ needs (asked 10 10 0 (0 ∷ [])) 10
    ∷ plans (asked 8 3 7 (4 ∷ [])) (0 ∷ [])
    ∷ refuses (planning (asked 8 3 8 (4 ∷ []))) 9 1
    ∷ prints (asked 8 3 8 (4 ∷ [])) "refused 9 1\n"
    ∷ plans (asked 0 0 0 (5 ∷ [])) (5 ∷ [])
    -- supplied budgets: below zero, zeros, and a store that overflows after it fell below zero
    ∷ traces (listing 22) (4 ∷ 4 ∷ 4 ∷ 4 ∷ 2 ∷ 2 ∷ []) (pos 4 ∷ pos 4 ∷ pos 0 ∷ negsuc 3 ∷ negsuc 0 ∷ pos 2 ∷ [])
    no_leasts (below_zero 4)
    ∷ traces (listing 5) no_leasts (replicate 6 (pos 5)) (3 ∷ 4 ∷ 0 ∷ 0 ∷ 5 ∷ 5 ∷ []) is_feasible
    ∷ traces (asked 5 0 0 (0 ∷ 10 ∷ [])) (3 ∷ 0 ∷ []) (negsuc 2 ∷ pos 5 ∷ []) (0 ∷ 2 ∷ []) (below_zero 1)
    -- the last charge just high enough, too low, and below zero
    ∷ traces (asked 5 2 2 (0 ∷ [])) (0 ∷ []) (pos 2 ∷ []) (0 ∷ []) is_feasible
    ∷ traces (asked 5 2 3 (0 ∷ [])) (0 ∷ []) (pos 2 ∷ []) (0 ∷ []) end_too_low
    ∷ traces (asked 5 2 0 (0 ∷ [])) (3 ∷ []) (negsuc 0 ∷ []) (0 ∷ []) end_too_low
    -- a shift's start, recordings, and rests, the last of which the capacity binds
    ∷ (started (asked 9 4 5 (1 ∷ 2 ∷ [])) ≡ shift (terms 2 9 4 5) 0 4 0 0 0)
    ∷ records four 3 7 0 0
    ∷ refuses (recording four 3 8) 21 1
    ∷ records four 3 1 5 1
    ∷ (recorded half_done 5 1 ≡ shift (terms 2 5 4 0) 2 5 7 2 4)
    ∷ rests after_one (free sun) not_short (2 ∷ 1 ∷ 1 ∷ 4 ∷ 4 ∷ [])
    ∷ rests (shift (terms 2 9 4 1) 1 5 2 1 0) (free (1 ∷ 2 ∷ [])) not_short (6 ∷ [])
    ∷ rests after_one (free (6 ∷ 9 ∷ 0 ∷ 0 ∷ 5 ∷ 5 ∷ [])) not_short (4 ∷ 3 ∷ 2 ∷ 4 ∷ 4 ∷ [])
    -- lent lists: what was there before the next frame, and behind what is written, is kept
    ∷ (written_from 1 (7 ∷ 8 ∷ 9 ∷ []) (1 ∷ 2 ∷ []) ≡ (7 ∷ 1 ∷ 2 ∷ []))
    ∷ (over (1 ∷ 2 ∷ []) (7 ∷ 8 ∷ 9 ∷ []) ≡ (1 ∷ 2 ∷ 9 ∷ []))
    -- a binding most: energy kept for later frames
    ∷ plans (listing_within no_leasts (3 ∷ drop 1 no_mosts)) (3 ∷ 4 ∷ 3 ∷ 2 ∷ 4 ∷ 4 ∷ [])
    ∷ charged (listing_within no_leasts (3 ∷ drop 1 no_mosts)) (5 ∷ 5 ∷ 2 ∷ 0 ∷ 1 ∷ 2 ∷ []) no_leasts
    ∷ needs (listing_within no_leasts (3 ∷ drop 1 no_mosts)) 6
    -- a binding least, early and late
    ∷ plans (listing_within (0 ∷ 0 ∷ 0 ∷ 3 ∷ 0 ∷ 0 ∷ []) no_mosts) (4 ∷ 3 ∷ 2 ∷ 3 ∷ 4 ∷ 4 ∷ [])
    ∷ charged (listing_within (0 ∷ 0 ∷ 0 ∷ 3 ∷ 0 ∷ 0 ∷ []) no_mosts) (4 ∷ 5 ∷ 3 ∷ 0 ∷ 1 ∷ 2 ∷ []) no_leasts
    ∷ needs (listing_within (0 ∷ 0 ∷ 0 ∷ 3 ∷ 0 ∷ 0 ∷ []) no_mosts) 6
    ∷ plans (listing_within (0 ∷ 0 ∷ 0 ∷ 0 ∷ 6 ∷ 0 ∷ []) no_mosts) (4 ∷ 3 ∷ 2 ∷ 2 ∷ 6 ∷ 3 ∷ [])
    ∷ charged (listing_within (0 ∷ 0 ∷ 0 ∷ 0 ∷ 6 ∷ 0 ∷ []) no_mosts) (4 ∷ 5 ∷ 3 ∷ 1 ∷ 0 ∷ 2 ∷ []) no_leasts
    ∷ needs (listing_within (0 ∷ 0 ∷ 0 ∷ 0 ∷ 6 ∷ 0 ∷ []) no_mosts) 6
    -- energy that must be lost, the end charge exceeded, and a needed capacity below the peak of charges
    ∷ plans (listing_within no_leasts (replicate 6 1)) (replicate 6 1)
    ∷ charged (listing_within no_leasts (replicate 6 1)) (5 ∷ 5 ∷ 4 ∷ 3 ∷ 5 ∷ 5 ∷ []) (2 ∷ 3 ∷ 0 ∷ 0 ∷ 2 ∷ 4 ∷ [])
    ∷ needs (listing_within no_leasts (replicate 6 1)) 2
    ∷ prints (listing_within no_leasts (replicate 6 1))
    "frames 6 capacity 5 needed 2\n1 1 5 2\n2 1 5 3\n3 1 4 0\n4 1 3 0\n5 1 5 2\n6 1 5 4\nworth 96 144 30\n"
    -- least and most the same
    ∷ plans (bound 9 4 5 (5 ∷ []) (1 ∷ []) (1 ∷ [])) (1 ∷ [])
    ∷ charged (bound 9 4 5 (5 ∷ []) (1 ∷ []) (1 ∷ [])) (8 ∷ []) (0 ∷ [])
    ∷ needs (bound 9 4 5 (5 ∷ []) (1 ∷ []) (1 ∷ [])) 5
    -- a needed capacity above the limit of capacities
    ∷ needs (bound 0 1000000000 1000000000 (400000 ∷ 0 ∷ []) (0 ∷ 400000 ∷ []) (0 ∷ 400000 ∷ [])) 1000400000
    -- 11, and 11 of planning alone, the needed capacity having no limit
    ∷ refuses (planning (listing_within (9 ∷ drop 1 no_leasts) no_mosts)) 11 0
    ∷ prints (listing_within (9 ∷ drop 1 no_leasts) no_mosts) "refused 11 0\n"
    ∷ refuses (needing (listing_within (9 ∷ drop 1 no_leasts) no_mosts)) 11 0
    ∷ refuses (planning (bound 2 0 0 (6 ∷ 0 ∷ []) (0 ∷ 5 ∷ []) (replicate 2 no_upper_end))) 11 0
    ∷ needs (bound 2 0 0 (6 ∷ 0 ∷ []) (0 ∷ 5 ∷ []) (replicate 2 no_upper_end)) 5
    -- a rest by the bounds lent: served, short by what zeros miss, and short by nothing
    ∷ rests after_one (at_least sun (0 ∷ 0 ∷ 0 ∷ 3 ∷ 0 ∷ 0 ∷ [])) not_short (1 ∷ 0 ∷ 3 ∷ 4 ∷ 4 ∷ [])
    ∷ rests after_one (lists sun no_leasts (0 ∷ 1 ∷ drop 2 no_mosts)) not_short (1 ∷ 2 ∷ 1 ∷ 4 ∷ 4 ∷ [])
    ∷ rests after_one (lists sun no_leasts (replicate 6 1)) not_short (replicate 5 1)
    ∷ rests after_one (at_least (6 ∷ 0 ∷ 0 ∷ 0 ∷ 0 ∷ 1 ∷ []) no_leasts) (short_by 1) (replicate 5 0)
    ∷ rests after_one (at_least sun (9 ∷ 9 ∷ 0 ∷ 0 ∷ 0 ∷ 0 ∷ [])) (short_by 0) (replicate 5 0)
    -- the house curves: the first unit, and at each edge the unit there and the one after it
    ∷ earns 0 (1 ∷ 100 ∷ 101 ∷ 300 ∷ 301 ∷ 700 ∷ 701 ∷ 1500 ∷ 1501 ∷ []) (16 ∷ 16 ∷ 8 ∷ 8 ∷ 4 ∷ 4 ∷ 2 ∷ 2 ∷ 1 ∷ [])
    ∷ earns 1 (1 ∷ 50 ∷ 51 ∷ 200 ∷ 201 ∷ 800 ∷ 801 ∷ 2000 ∷ 2001 ∷ []) (24 ∷ 24 ∷ 12 ∷ 12 ∷ 3 ∷ 3 ∷ 1 ∷ 1 ∷ 0 ∷ [])
    ∷ earns 2 (1 ∷ 1000 ∷ 1001 ∷ 2000 ∷ 2001 ∷ 4000 ∷ 4001 ∷ 8000 ∷ 8001 ∷ []) (5 ∷ 5 ∷ 4 ∷ 4 ∷ 3 ∷ 3 ∷ 2 ∷ 2 ∷ 1 ∷ [])
    -- budgets beyond edges, whose units count from 1
    ∷ worths (101 ∷ 0 ∷ []) 1608 1812 505
    ∷ worths (0 ∷ 1501 ∷ []) 6401 5501 7004
    ∷ worths (2001 ∷ 51 ∷ []) 7717 7212 9258
    -- planning: what it refuses, the limits, and the earliest frame
    ∷ refuses (planning (evenly 0)) 1 0
    ∷ passes (planning (evenly 672))
    ∷ refuses (planning (evenly 673)) 2 0
    ∷ passes (planning (asked 1000000000 0 0 (1 ∷ [])))
    ∷ refuses (planning (asked 1000000001 0 0 (1 ∷ []))) 3 0
    ∷ passes (planning (asked 5 5 5 (1 ∷ [])))
    ∷ refuses (planning (asked 5 6 0 (1 ∷ []))) 4 0
    ∷ refuses (planning (asked 5 5 6 (1 ∷ []))) 5 0
    ∷ passes (planning (asked 9 0 0 (400000 ∷ [])))
    ∷ refuses (planning (asked 9 0 0 (400001 ∷ []))) 6 1
    ∷ refuses (planning (asked 9 0 0 (1 ∷ 400001 ∷ 400002 ∷ []))) 6 2
    ∷ refuses (planning (asked 9 0 9 (1 ∷ 3 ∷ []))) 9 5
    -- 10: each of its three causes, and its limits
    ∷ refuses (planning (bound 8 3 8 (4 ∷ []) (3 ∷ []) (2 ∷ []))) 10 1
    ∷ refuses (planning (bound 9 0 0 (1 ∷ 1 ∷ []) (0 ∷ 536870912 ∷ []) (replicate 2 no_upper_end))) 10 2
    ∷ refuses (planning (bound 9 0 0 (1 ∷ 1 ∷ []) (0 ∷ 536870911 ∷ []) (replicate 2 no_upper_end))) 11 0
    ∷ refuses (planning (bound 9 0 0 (1 ∷ 1 ∷ []) (0 ∷ 0 ∷ []) (536870911 ∷ 536870912 ∷ []))) 10 2
    ∷ refuses (planning (bound 9 0 0 (1 ∷ 1 ∷ []) (0 ∷ 0 ∷ []) (536870911 ∷ 4294967294 ∷ []))) 10 2
    ∷ passes (planning (bound 9 0 0 (1 ∷ 1 ∷ []) (0 ∷ 0 ∷ []) (536870911 ∷ 4294967295 ∷ [])))
    -- planning: the order
    ∷ refuses (planning_with (evenly 0) 1 0 0) 1 0
    ∷ refuses (planning_with (evenly 673) 673 673 672) 2 0
    ∷ refuses (planning_with (evenly 673) 672 673 673) 2 0
    ∷ refuses (planning_with (asked 1000000001 0 0 (1 ∷ [])) 1 1 0) 7 0
    ∷ refuses (planning both_3_4) 3 0
    ∷ refuses (planning both_4_5) 4 0
    ∷ refuses (planning both_5_6) 5 0
    ∷ refuses (planning both_6_10) 6 2
    ∷ refuses (planning both_10_9) 10 2
    ∷ refuses (planning both_9_11) 9 1
    -- planning: the lists of leasts, mosts and budgets, one too short and one too long
    ∷ refuses (planning_with (evenly 2) 1 2 2) 7 0
    ∷ refuses (planning_with (evenly 2) 3 2 2) 7 0
    ∷ refuses (planning_with (evenly 2) 2 1 2) 7 0
    ∷ refuses (planning_with (evenly 2) 2 3 2) 7 0
    ∷ refuses (planning_with (evenly 2) 2 2 1) 7 0
    ∷ refuses (planning_with (evenly 2) 2 2 3) 7 0
    -- the needed capacity: its 3 is for start and end, and the capacity plays no part
    ∷ refuses (needing (evenly 0)) 1 0
    ∷ passes (needing (evenly 672))
    ∷ refuses (needing (evenly 673)) 2 0
    ∷ passes (needing (asked 0 1000000000 1000000000 (1 ∷ [])))
    ∷ refuses (needing (asked 0 1000000001 0 (1 ∷ []))) 3 0
    ∷ refuses (needing (asked 0 1000000000 1000000001 (1 ∷ []))) 3 0
    ∷ passes (needing (asked 1000000001 0 0 (1 ∷ [])))
    ∷ passes (needing (asked 9 0 0 (400000 ∷ [])))
    ∷ refuses (needing (asked 9 0 0 (1 ∷ 400001 ∷ 400002 ∷ []))) 6 2
    ∷ refuses (needing (bound 9 0 0 (1 ∷ 1 ∷ []) (3 ∷ 2 ∷ []) (2 ∷ 1 ∷ []))) 10 1
    ∷ refuses (needing (asked 9 0 9 (1 ∷ 3 ∷ []))) 9 5
    -- the needed capacity: the order
    ∷ refuses (needed_refusal (evenly 0) 1 0) 1 0
    ∷ refuses (needed_refusal (evenly 673) 672 673) 2 0
    ∷ refuses (needed_refusal (evenly 673) 673 672) 2 0
    ∷ refuses (needed_refusal (asked 0 1000000001 0 (1 ∷ [])) 1 0) 7 0
    ∷ refuses (needed_refusal (asked 0 0 1000000001 (1 ∷ [])) 1 0) 7 0
    ∷ refuses (needing (asked 0 1000000001 0 (400001 ∷ []))) 3 0
    ∷ refuses (needing (asked 0 0 1000000001 (400001 ∷ []))) 3 0
    ∷ refuses (needing both_6_10) 6 2
    ∷ refuses (needing both_10_9) 10 2
    ∷ refuses (needing both_9_11) 9 1
    -- the needed capacity: the lists of leasts and mosts
    ∷ refuses (needed_refusal (evenly 2) 1 2) 7 0
    ∷ refuses (needed_refusal (evenly 2) 3 2) 7 0
    ∷ refuses (needed_refusal (evenly 2) 2 1) 7 0
    ∷ refuses (needed_refusal (evenly 2) 2 3) 7 0
    -- tracing, which has no 9, 10 and 11
    ∷ refuses (tracing (evenly 0)) 1 0
    ∷ passes (tracing (evenly 672))
    ∷ refuses (tracing (evenly 673)) 2 0
    ∷ passes (tracing (asked 1000000000 0 0 (1 ∷ [])))
    ∷ refuses (tracing (asked 1000000001 0 0 (1 ∷ []))) 3 0
    ∷ passes (tracing (asked 5 5 5 (1 ∷ [])))
    ∷ refuses (tracing (asked 5 6 0 (1 ∷ []))) 4 0
    ∷ refuses (tracing (asked 5 5 6 (1 ∷ []))) 5 0
    ∷ passes (tracing (asked 9 0 0 (400000 ∷ [])))
    ∷ refuses (tracing (asked 9 0 0 (1 ∷ 400001 ∷ 400002 ∷ []))) 6 2
    ∷ passes (tracing both_10_9)
    ∷ passes (tracing both_9_11)
    -- tracing: the order
    ∷ refuses (trace_refusal (evenly 0) 1 0 0) 1 0
    ∷ refuses (trace_refusal (evenly 673) 672 673 673) 2 0
    ∷ refuses (trace_refusal (asked 1000000001 0 0 (1 ∷ [])) 1 1 0) 7 0
    ∷ refuses (tracing both_3_4) 3 0
    ∷ refuses (tracing both_4_5) 4 0
    ∷ refuses (tracing both_5_6) 5 0
    -- tracing: the lists of budgets, charges and losses
    ∷ refuses (trace_refusal (evenly 2) 1 2 2) 7 0
    ∷ refuses (trace_refusal (evenly 2) 3 2 2) 7 0
    ∷ refuses (trace_refusal (evenly 2) 2 1 2) 7 0
    ∷ refuses (trace_refusal (evenly 2) 2 3 2) 7 0
    ∷ refuses (trace_refusal (evenly 2) 2 2 1) 7 0
    ∷ refuses (trace_refusal (evenly 2) 2 2 3) 7 0
    -- grading
    ∷ refuses (grade_refusal 0) 1 0
    ∷ passes (grade_refusal 1)
    ∷ passes (grade_refusal 672)
    ∷ refuses (grade_refusal 673) 2 0
    -- a shift's start
    ∷ refuses (starting (evenly 0)) 1 0
    ∷ passes (starting (evenly 672))
    ∷ refuses (starting (evenly 673)) 2 0
    ∷ passes (starting (asked 1000000000 0 0 (1 ∷ [])))
    ∷ refuses (starting (asked 1000000001 0 0 (1 ∷ []))) 3 0
    ∷ passes (starting (asked 5 5 5 (1 ∷ [])))
    ∷ refuses (starting (asked 5 6 0 (1 ∷ []))) 4 0
    ∷ refuses (starting (asked 5 5 6 (1 ∷ []))) 5 0
    ∷ passes (starting (asked 9 0 0 (400000 ∷ [])))
    ∷ refuses (starting (asked 9 0 0 (1 ∷ 400001 ∷ 400002 ∷ []))) 6 2
    ∷ refuses (starting (bound 9 0 0 (1 ∷ 1 ∷ []) (0 ∷ 2 ∷ []) (0 ∷ 1 ∷ []))) 10 2
    ∷ refuses (starting (asked 9 0 9 (1 ∷ 3 ∷ []))) 9 5
    ∷ refuses (starting (listing_within (9 ∷ drop 1 no_leasts) no_mosts)) 11 0
    ∷ refuses (starting (bound 2 0 0 (6 ∷ 0 ∷ []) (0 ∷ 5 ∷ []) (replicate 2 no_upper_end))) 11 0
    -- a shift's start: the order
    ∷ refuses (start_refusal (evenly 0) 1 0) 1 0
    ∷ refuses (start_refusal (evenly 673) 672 673) 2 0
    ∷ refuses (start_refusal (evenly 673) 673 672) 2 0
    ∷ refuses (start_refusal (asked 1000000001 0 0 (1 ∷ [])) 1 0) 7 0
    ∷ refuses (starting both_3_4) 3 0
    ∷ refuses (starting both_4_5) 4 0
    ∷ refuses (starting both_5_6) 5 0
    ∷ refuses (starting both_6_10) 6 2
    ∷ refuses (starting both_10_9) 10 2
    ∷ refuses (starting both_9_11) 9 1
    -- a shift's start: the lists of leasts and mosts
    ∷ refuses (start_refusal (evenly 2) 1 2) 7 0
    ∷ refuses (start_refusal (evenly 2) 3 2) 7 0
    ∷ refuses (start_refusal (evenly 2) 2 1) 7 0
    ∷ refuses (start_refusal (evenly 2) 2 3) 7 0
    -- recording: a shift of the most frames, and one of more
    ∷ records (started (evenly 672)) 1 1 0 0
    ∷ refuses (recording (started (evenly 673)) 1 1) 22 0
    -- each part of 22, by a record that breaks it alone, beside one at its limit: frames, capacity, start, end,
    -- frames recorded, charge, what was harvested, and the balance
    ∷ refuses (recording (shift (terms 0 5 4 0) 0 4 0 0 0) 1 1) 22 0
    ∷ passes (recording (shift (terms 1 1000000000 0 0) 0 0 0 0 0) 1 1)
    ∷ refuses (recording (shift (terms 1 1000000001 0 0) 0 0 0 0 0) 1 1) 22 0
    ∷ passes (recording (shift (terms 1 5 5 0) 0 5 0 0 0) 1 1)
    ∷ refuses (recording (shift (terms 1 5 6 0) 0 5 0 1 0) 1 1) 22 0
    ∷ passes (recording (shift (terms 1 5 4 5) 0 4 0 0 0) 1 1)
    ∷ refuses (recording (shift (terms 1 5 4 6) 0 4 0 0 0) 1 1) 22 0
    ∷ refuses (recording (shift (terms 1 5 4 0) 1 4 0 0 0) 1 1) 20 0
    ∷ refuses (recording (shift (terms 1 5 4 0) 2 4 0 0 0) 1 1) 22 0
    ∷ passes (recording (shift (terms 2 5 4 0) 1 5 1 0 0) 1 1)
    ∷ refuses (recording (shift (terms 2 5 4 0) 1 6 2 0 0) 1 1) 22 0
    ∷ passes (recording (shift (terms 4 5 4 0) 2 4 800000 800000 0) 1 1)
    ∷ refuses (recording (shift (terms 4 5 4 0) 2 4 800001 800001 0) 1 1) 22 0
    ∷ passes (recording half_done 1 1)
    ∷ refuses (recording (shift (terms 2 5 4 0) 1 2 2 1 2) 1 1) 22 0
    ∷ refuses (recording (shift (terms 2 5 4 0) 1 4 2 1 2) 1 1) 22 0
    ∷ refuses (recording (shift (terms 2 5 4 0) 1 3 1 1 2) 1 1) 22 0
    ∷ refuses (recording (shift (terms 2 5 4 0) 1 3 3 1 2) 1 1) 22 0
    ∷ refuses (recording (shift (terms 2 5 4 0) 1 3 2 0 2) 1 1) 22 0
    ∷ refuses (recording (shift (terms 2 5 4 0) 1 3 2 2 2) 1 1) 22 0
    ∷ refuses (recording (shift (terms 2 5 4 0) 1 3 2 1 1) 1 1) 22 0
    ∷ refuses (recording (shift (terms 2 5 4 0) 1 3 2 1 3) 1 1) 22 0
    -- recording: 20, 6 with the frame being recorded, and 21 with the excess; the order
    ∷ refuses (recording all_done 1 1) 20 0
    ∷ passes (recording half_done 400000 1)
    ∷ refuses (recording four 400001 1) 6 1
    ∷ refuses (recording half_done 400001 1) 6 2
    ∷ passes (recording half_done 2 5)
    ∷ refuses (recording half_done 2 9) 21 4
    ∷ refuses (recording over_full_done 1 1) 22 0
    ∷ refuses (recording all_done 400001 1) 20 0
    ∷ refuses (recording all_done 1 9) 20 0
    ∷ refuses (recording half_done 400001 400009) 6 2
    -- planning the rest: 6 and 10 over the frames not yet recorded, numbered from the first frame of the shift
    ∷ refuses (resting over_full (free (1 ∷ 1 ∷ [])) 2) 22 0
    ∷ refuses (resting all_done (free (3 ∷ [])) 1) 20 0
    ∷ passes (resting after_one (free (400001 ∷ drop 1 sun)) 6)
    ∷ passes (resting half_done (free (0 ∷ 400000 ∷ [])) 2)
    ∷ refuses (resting half_done (free (0 ∷ 400001 ∷ [])) 2) 6 2
    ∷ refuses (resting after_one (lists sun no_leasts (0 ∷ 5 ∷ 536870912 ∷ 1 ∷ 1 ∷ 1 ∷ [])) 6) 10 3
    ∷ refuses (resting after_one (lists sun (9 ∷ 0 ∷ 0 ∷ 4 ∷ 0 ∷ 0 ∷ []) (0 ∷ 5 ∷ 5 ∷ 3 ∷ 5 ∷ 5 ∷ [])) 6) 10 4
    -- planning the rest: the order; 20 leaves no frame for 6 and 10
    ∷ refuses (resting over_full (free (1 ∷ [])) 2) 22 0
    ∷ refuses (resting all_done (free (3 ∷ [])) 2) 7 0
    ∷ refuses (resting all_done (free (3 ∷ 400001 ∷ [])) 1) 7 0
    ∷ refuses (resting half_done (free (0 ∷ 400001 ∷ [])) 1) 7 0
    ∷ refuses (resting half_done (lists (0 ∷ 0 ∷ []) (0 ∷ 3 ∷ []) (0 ∷ 2 ∷ [])) 1) 7 0
    ∷ refuses (resting after_one (lists (6 ∷ 4 ∷ 0 ∷ 0 ∷ 5 ∷ 400001 ∷ []) no_leasts (0 ∷ 5 ∷ 536870912 ∷ 1 ∷ 1 ∷ 1
    ∷ [])) 6) 6 6
    -- planning the rest: the lists of harvests, leasts, mosts and budgets
    ∷ refuses (resting half_done (blank 1 2 2) 2) 7 0
    ∷ refuses (resting half_done (blank 3 2 2) 2) 7 0
    ∷ refuses (resting half_done (blank 2 1 2) 2) 7 0
    ∷ refuses (resting half_done (blank 2 3 2) 2) 7 0
    ∷ refuses (resting half_done (blank 2 2 1) 2) 7 0
    ∷ refuses (resting half_done (blank 2 2 3) 2) 7 0
    ∷ refuses (resting half_done (blank 2 2 2) 1) 7 0
    ∷ refuses (resting half_done (blank 2 2 2) 3) 7 0
    -- the part of the rest: from the next frame on
    ∷ (part_of half_done (7 ∷ 8 ∷ []) ≡ (8 ∷ []))
    ∷ passes (part_refusal half_done 2)
    ∷ refuses (part_refusal over_full 2) 22 0
    ∷ refuses (part_refusal half_done 1) 7 0
    ∷ refuses (part_refusal half_done 3) 7 0
    ∷ refuses (part_refusal all_done 1) 20 0
    ∷ refuses (part_refusal over_full 1) 22 0
    ∷ refuses (part_refusal all_done 2) 7 0
    -- a word file: its figures in their order, its bytes, and frames with a least, a most, both and neither
    ∷ words (asked 9 4 5 (1 ∷ 2 ∷ [])) (0x00000009 ∷ 0x00000004 ∷ 0x00000005 ∷ 0x40000001 ∷ 0x40000002 ∷ 0xC0000002
    ∷ [])
    ∷ (file_bytes (asked 9 4 5 (0x12345 ∷ [])) ≡ (9 ∷ 0 ∷ 0 ∷ 0 ∷ 4 ∷ 0 ∷ 0 ∷ 0 ∷ 5 ∷ 0 ∷ 0 ∷ 0 ∷ 0x45 ∷ 0x23 ∷ 0x01
    ∷ 0x40 ∷ 1 ∷ 0 ∷ 0 ∷ 0xC0 ∷ []))
    ∷ words (bound 9 0 0 (1 ∷ 2 ∷ 3 ∷ 4 ∷ []) (1 ∷ 0 ∷ 1 ∷ 0 ∷ []) (no_upper_end ∷ 2 ∷ 3 ∷ no_upper_end ∷ []))
    (0x00000009 ∷ 0 ∷ 0 ∷ 0x40000001 ∷ 0x80000001 ∷ 0x40000002 ∷ 0xA0000002 ∷ 0x40000003 ∷ 0x80000001 ∷ 0xA0000003
    ∷ 0x40000004 ∷ 0xC0000004 ∷ [])
    -- a value of 30 bits, and a most of 0, which is not an absent one
    ∷ words (asked 1000000000 0 0 (1 ∷ [])) (1000000000 ∷ 0 ∷ 0 ∷ 0x40000001 ∷ 0xC0000001 ∷ [])
    ∷ words (bound 9 0 0 (1 ∷ []) (0 ∷ []) (0 ∷ [])) (9 ∷ 0 ∷ 0 ∷ 0x40000001 ∷ 0xA0000000 ∷ 0xC0000001 ∷ [])
    -- what the reader answers: figures and K
    ∷ (header_of (asked 9 4 5 (1 ∷ 2 ∷ [])) ≡ record { figures = figures 9 4 5; frames = 2 })
    -- reading: 2 for the bytes, 8 with the word's place, 2 for the frames and 7, in this order
    ∷ reads (file_bytes (evenly 672)) 2704 672 none
    ∷ reads (file_bytes (evenly 673)) 2708 673 (refusal 2 0)
    ∷ reads (file_bytes (evenly 673) ++ (0 ∷ [])) 2709 673 (refusal 8 677)
    ∷ reads (file_bytes (evenly 673)) 2708 672 (refusal 2 0)
    ∷ reads (file_bytes (within 672)) 8080 672 none
    ∷ reads (file_bytes (within 672) ++ (0 ∷ [])) 8081 672 (refusal 2 0)
    ∷ reads (file_bytes (within 672)) 8080 671 (refusal 7 0)
    ∷ refuses (read_refusal (file_bytes (evenly 2) ++ (0 ∷ [])) 1 1 1) 8 6
    -- reading: the lists of harvests, leasts and mosts, which may be longer
    ∷ refuses (read_refusal (file_bytes (evenly 2)) 1 2 2) 7 0
    ∷ refuses (read_refusal (file_bytes (evenly 2)) 2 1 2) 7 0
    ∷ refuses (read_refusal (file_bytes (evenly 2)) 2 2 1) 7 0
    ∷ passes (read_refusal (file_bytes (evenly 2)) 3 3 3)
    -- reading: nothing that is refused of a request alone
    ∷ passes (read_refusal (file_bytes both_3_4) 1 1 1)
    ∷ passes (read_refusal (file_bytes both_4_5) 1 1 1)
    ∷ passes (read_refusal (file_bytes both_5_6) 1 1 1)
    ∷ passes (read_refusal (file_bytes both_6_10) 2 2 2)
    ∷ passes (read_refusal (file_bytes both_10_9) 2 2 2)
    ∷ passes (read_refusal (file_bytes both_9_11) 1 1 1)
    -- broken files: empty, ended within a word, without an end word, with a wrong count, with a byte behind that word,
    -- and with a word out of place, also before a broken last word
    ∷ reads [] 0 1 (refusal 8 0)
    ∷ reads (take 18 (file_bytes (evenly 1))) 18 1 (refusal 8 4)
    ∷ reads (bytes_of (9 ∷ 0 ∷ 0 ∷ 0x40000001 ∷ [])) 16 1 (refusal 8 4)
    ∷ reads (bytes_of (9 ∷ 0 ∷ 0 ∷ 0x40000001 ∷ 0xC0000002 ∷ [])) 20 1 (refusal 8 4)
    ∷ reads (file_bytes (evenly 1) ++ (0 ∷ [])) 21 1 (refusal 8 5)
    ∷ reads (bytes_of (9 ∷ 0 ∷ 0 ∷ 0x40000001 ∷ 0xC0000001 ∷ 0xC0000001 ∷ [])) 24 1 (refusal 8 5)
    ∷ reads (bytes_of (0xC0000000 ∷ [])) 4 1 (refusal 8 0)
    ∷ reads (bytes_of (9 ∷ 0x40000000 ∷ 0 ∷ 0x40000001 ∷ 0xC0000001 ∷ [])) 20 1 (refusal 8 1)
    ∷ reads (take 10 (bytes_of (9 ∷ 0x40000000 ∷ 0 ∷ []))) 10 1 (refusal 8 1)
    ∷ reads (bytes_of (9 ∷ 0 ∷ 0 ∷ 0 ∷ 0x40000001 ∷ 0xC0000001 ∷ [])) 24 1 (refusal 8 3)
    ∷ reads (bytes_of (9 ∷ 0 ∷ 0 ∷ 0x40000001 ∷ 0 ∷ 0xC0000001 ∷ [])) 24 1 (refusal 8 4)
    -- a file with no frames is read, and then its request is refused
    ∷ reads (file_bytes (evenly 0)) 16 0 none
    ∷ prints (evenly 0) "refused 1 0\n"
    -- the program: a file's refusal comes before its request's; it has lists for the most frames
    ∷ (text.listing (bytes_of (9 ∷ 10 ∷ 0 ∷ 0x40000001 ∷ [])) ≡ ascii "refused 8 4\n")
    ∷ prints (evenly 673) "refused 2 0\n"
    ∷ prints (asked 1000000001 0 0 (replicate 672 1)) "refused 3 0\n"
    -- what the writer leaves out may stand there; wrong orders of bounds
    ∷ reads (bytes_of (9 ∷ 0 ∷ 0 ∷ 0x40000001 ∷ 0x80000000 ∷ 0xC0000001 ∷ [])) 24 1 none
    ∷ reads (bytes_of (9 ∷ 0 ∷ 0 ∷ 0x40000001 ∷ 0xA0000002 ∷ 0x80000001 ∷ 0xC0000001 ∷ [])) 28 1 (refusal 8 5)
    ∷ reads (bytes_of (9 ∷ 0 ∷ 0 ∷ 0x40000001 ∷ 0x80000001 ∷ 0x80000001 ∷ 0xC0000001 ∷ [])) 28 1 (refusal 8 5)
    ∷ reads (bytes_of (9 ∷ 0 ∷ 0 ∷ 0x40000001 ∷ 0xA0000002 ∷ 0xA0000002 ∷ 0xC0000001 ∷ [])) 28 1 (refusal 8 5)
    ∷ reads (bytes_of (9 ∷ 0 ∷ 0 ∷ 0x80000001 ∷ 0x40000001 ∷ 0xC0000001 ∷ [])) 24 1 (refusal 8 3)
    ∷ reads (bytes_of (9 ∷ 0 ∷ 0 ∷ 0xA0000001 ∷ 0x40000001 ∷ 0xC0000001 ∷ [])) 24 1 (refusal 8 3)
    -- the same with leasts of 0, which say nothing and yet have their place
    ∷ reads (bytes_of (9 ∷ 0 ∷ 0 ∷ 0x40000001 ∷ 0xA0000002 ∷ 0x80000000 ∷ 0xC0000001 ∷ [])) 28 1 (refusal 8 5)
    ∷ reads (bytes_of (9 ∷ 0 ∷ 0 ∷ 0x40000001 ∷ 0x80000002 ∷ 0x80000000 ∷ 0xC0000001 ∷ [])) 28 1 (refusal 8 5)
    ∷ reads (bytes_of (9 ∷ 0 ∷ 0 ∷ 0x40000001 ∷ 0x80000000 ∷ 0x80000000 ∷ 0xC0000001 ∷ [])) 28 1 (refusal 8 5)
    ∷ reads (bytes_of (9 ∷ 0 ∷ 0 ∷ 0x80000000 ∷ 0x40000001 ∷ 0xC0000001 ∷ [])) 24 1 (refusal 8 3)
    ∷ reads (bytes_of (9 ∷ 0 ∷ 0x80000001 ∷ 0x40000001 ∷ 0xC0000001 ∷ [])) 20 1 (refusal 8 2)
    -- writing, which has no 9 and 11
    ∷ refuses (writing (evenly 0) 99) 1 0
    ∷ passes (writing (evenly 672) 2704)
    ∷ refuses (writing (evenly 673) 2708) 2 0
    ∷ passes (writing (asked 1000000000 0 0 (1 ∷ [])) 99)
    ∷ refuses (writing (asked 1000000001 0 0 (1 ∷ [])) 99) 3 0
    ∷ passes (writing (asked 5 5 5 (1 ∷ [])) 99)
    ∷ refuses (writing (asked 5 6 0 (1 ∷ [])) 99) 4 0
    ∷ refuses (writing (asked 5 5 6 (1 ∷ [])) 99) 5 0
    ∷ passes (writing (asked 9 0 0 (400000 ∷ [])) 99)
    ∷ refuses (writing (asked 9 0 0 (1 ∷ 400001 ∷ 400002 ∷ [])) 99) 6 2
    ∷ refuses (writing (bound 9 0 0 (1 ∷ 1 ∷ []) (0 ∷ 2 ∷ []) (0 ∷ 1 ∷ [])) 99) 10 2
    ∷ passes (writing (listing_within (9 ∷ drop 1 no_leasts) no_mosts) 99)
    ∷ passes (writing both_9_11 99)
    -- writing: the order
    ∷ refuses (write_refusal (evenly 0) 1 0 99) 1 0
    ∷ refuses (write_refusal (evenly 673) 672 673 2708) 2 0
    ∷ refuses (writing (evenly 673) 2707) 2 0
    ∷ refuses (writing (asked 1000000001 0 0 (1 ∷ [])) 19) 7 0
    ∷ refuses (writing both_3_4 99) 3 0
    ∷ refuses (writing both_4_5 99) 4 0
    ∷ refuses (writing both_5_6 99) 5 0
    ∷ refuses (writing both_6_10 99) 6 2
    ∷ refuses (writing both_6_10 35) 7 0
    -- writing: the lists of leasts and mosts, and the room, which may be longer
    ∷ refuses (write_refusal (evenly 2) 1 2 99) 7 0
    ∷ refuses (write_refusal (evenly 2) 3 2 99) 7 0
    ∷ refuses (write_refusal (evenly 2) 2 1 99) 7 0
    ∷ refuses (write_refusal (evenly 2) 2 3 99) 7 0
    ∷ refuses (writing (evenly 2) 23) 7 0
    ∷ passes (writing (evenly 2) 24)
    ∷ passes (writing (evenly 2) 25)
    ∷ []
