-- The lines that the plan program prints, as bytes, and room for all of them.
use Rattle.std.specs.Prelude.{List, [], ◌∷◌, ◌++◌, ℕ, suc, ◌+◌, ◌*◌}
use Rattle.model.specs.Refusals.{Refusal}
use Rattle.model.specs.Choice.{pick}
use Rattle.model.specs.Limits.{max_frames, max_harvest, max_capacity}
use Rattle.model.specs.Request.{Request, frame_count}
use Rattle.model.specs.Refusals.{is_none, whole_plan_refusal}
use Rattle.model.specs.Charge.{charges, losses}
use Rattle.model.specs.Curves.{house_curve, grade}
use Rattle.model.specs.Plan.{plan_of, needed_of}
use Rattle.wordfile.specs.File.{request_in, read_refusal}
use Rattle.text.specs.Ascii.{ascii}
use Rattle.text.specs.Decimal.{places}
use Rattle.text.specs.Line.{line_of, lines_of, room_of}

-- ---- the lines, with # for each figure

-- the first line: frames, capacity, needed capacity
abbrev pub first_pattern : List ℕ
first_pattern = ascii "frames # capacity # needed #\n"

-- a frame's line: its number, its budget, the charge after it, its loss
abbrev pub frame_pattern : List ℕ
frame_pattern = ascii "# # # #\n"

-- the last line: the sums of the three house curves
abbrev pub worth_pattern : List ℕ
worth_pattern = ascii "worth # # #\n"

-- the only line of a refusal: its number and its P
abbrev pub refused_pattern : List ℕ
refused_pattern = ascii "refused # #\n"

abbrev pub refused_line : Refusal → List ℕ
refused_line f = line_of refused_pattern (f.number ∷ f.p ∷ [])

-- ---- the room of a listing

-- digits of a number of frames
abbrev pub frame_digits : ℕ
frame_digits = places max_frames

-- the most energy that any request may have
abbrev pub largest_energy : ℕ
largest_energy = max_capacity + max_harvest * max_frames

-- digits of an energy: a capacity, a budget, a charge
abbrev pub energy_digits : ℕ
energy_digits = places largest_energy

-- digits of a loss, which is at most a harvest
abbrev pub loss_digits : ℕ
loss_digits = places max_harvest

-- digits of what a list of budgets is worth: no unit earns more than 24
abbrev pub worth_digits : ℕ
worth_digits = places (24 * largest_energy)

-- bytes of the longest first line
abbrev pub first_room : ℕ
first_room = room_of first_pattern (frame_digits ∷ energy_digits ∷ energy_digits ∷ [])

-- digits of the figures of a frame's line
abbrev pub frame_widths : List ℕ
frame_widths = frame_digits ∷ energy_digits ∷ energy_digits ∷ loss_digits ∷ []

-- bytes of the longest line of a frame
abbrev pub frame_room : ℕ
frame_room = room_of frame_pattern frame_widths

-- bytes of the longest last line
abbrev pub worth_room : ℕ
worth_room = room_of worth_pattern (worth_digits ∷ worth_digits ∷ worth_digits ∷ [])

-- room for every listing; that it is enough is proved (proofs/Fits.antt)
abbrev pub listing_bytes : ℕ
listing_bytes = first_room + (frame_room * max_frames + worth_room)

-- ---- the listing

-- the figures of the frames' lines, a row for each frame, the first being frame i
abbrev pub frame_rows : ℕ → List ℕ → List ℕ → List ℕ → List (List ℕ)
frame_rows i [] xs ls = []
frame_rows i (b ∷ bs) [] ls = []
frame_rows i (b ∷ bs) (x ∷ xs) [] = []
frame_rows i (b ∷ bs) (x ∷ xs) (l ∷ ls) = (i ∷ b ∷ x ∷ l ∷ []) ∷ frame_rows (suc i) bs xs ls

-- what a listing shows: the figures of its first line, for each frame a budget, the charge after it and its loss, and
-- the three sums
pub record Shown : Type 0 where
  pub frames : ℕ
  pub capacity : ℕ
  pub needed : ℕ
  pub budgets : List ℕ
  pub charges : List ℕ
  pub losses : List ℕ
  pub worth0 : ℕ
  pub worth1 : ℕ
  pub worth2 : ℕ

-- the text that shows them
abbrev pub showing : Shown → List ℕ
showing g =
    line_of first_pattern (g.frames ∷ g.capacity ∷ g.needed ∷ [])
    ++ (lines_of frame_pattern (frame_rows 1 g.budgets g.charges g.losses)
    ++ line_of worth_pattern (g.worth0 ∷ g.worth1 ∷ g.worth2 ∷ []))

-- what the listing of a request that is not refused shows, with its budgets: the charges after them, the losses and
-- what they are worth
abbrev pub shown_of : Request → List ℕ → Shown
shown_of q bs =
    record {
      frames = frame_count q;
      capacity = q.figures.capacity;
      needed = needed_of q;
      budgets = bs;
      charges = charges q bs;
      losses = losses q bs;
      worth0 = grade (house_curve 0) bs;
      worth1 = grade (house_curve 1) bs;
      worth2 = grade (house_curve 2) bs;
    }

-- the text of its plan
abbrev pub plan_text : Request → List ℕ
plan_text q = showing (shown_of q (plan_of q))

-- the listing of a request: its plan, or its refusal
abbrev pub request_text : Request → List ℕ
request_text q = let f = whole_plan_refusal q in pick (is_none f) (plan_text q) (refused_line f)

-- what the plan program prints of a file: the reader's refusal, or the listing of its request
abbrev pub listing : List ℕ → List ℕ
listing s =
    let f = read_refusal s max_frames max_frames max_frames in
    pick (is_none f) (request_text (request_in s)) (refused_line f)
