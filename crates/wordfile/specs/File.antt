-- The request in a word file, what its reader refuses, the file of a request, and what its writer refuses.
use Rattle.std.specs.Prelude.{◌≡◌, Bool, List, [], ◌∷◌, ◌++◌, ℕ, ◌+◌, ◌*◌, ◌^◌, ◌<◌, eqb, ltb, length, get_or, drop, Option, Some, None}
use Rattle.model.specs.declared.Figures.{Figures}
use Rattle.model.specs.Refusals.{Refusal}
use Rattle.model.specs.Choice.{pick}
use Rattle.model.specs.Limits.{max_file_bytes, no_upper_end}
use Rattle.model.specs.Request.{Bounds, Request, absent, bounded_request, figures, first_bounds, frame_count, later_bounds}
use Rattle.model.specs.Refusals.{refusal, none, refuse_if, first_of, too_many_frames, lent_refusals, figure_refusals}
use Rattle.model.specs.Refusals.{bounds_refused}
use Rattle.words.specs.Words.{kind_of, value_in, word_of, mark_of, amount_in, bound_word, bytes_of, words_of}
use Rattle.wordfile.specs.Form.{figure_kind, harvest_kind, end_kind, least_mark, most_mark, form_of, frames_in}
use Rattle.wordfile.specs.Form.{Form, Closed, Broken}

-- ---- reading

-- the amount of a bound with this mark at the front of words, or else d, which stands for an absent one
abbrev pub bound_at : ℕ → ℕ → List ℕ → ℕ
bound_at mark d [] = d
bound_at mark d (w ∷ ws) = pick (eqb (mark_of w) mark) (amount_in w) d

-- the same amount, if there is one
abbrev pub bound_in : ℕ → List ℕ → Option ℕ
bound_in mark [] = None
bound_in mark (w ∷ ws) = pick (eqb (mark_of w) mark) (Some (amount_in w)) None

-- the words behind a least at their front
abbrev pub past_least : List ℕ → List ℕ
past_least [] = []
past_least (w ∷ ws) = pick (eqb (mark_of w) least_mark) ws (w ∷ ws)

-- what a frame says by its harvest word w and the words behind that: its harvest, its least and its most
abbrev pub harvest_at : ℕ → List ℕ → ℕ
harvest_at w behind = value_in w

abbrev pub least_at : ℕ → List ℕ → ℕ
least_at w behind = bound_at least_mark 0 behind

abbrev pub most_at : ℕ → List ℕ → ℕ
most_at w behind = bound_at most_mark no_upper_end (past_least behind)

-- the same of the frame whose harvest word is word i
abbrev pub says_at : (ℕ → List ℕ → ℕ) → List ℕ → ℕ → ℕ
says_at says ws i = says (get_or ws i 0) (drop (i + 1) ws)

-- what each frame says, its harvest word being one before the end word
abbrev pub each_frame : (ℕ → List ℕ → ℕ) → List ℕ → List ℕ
each_frame says [] = []
each_frame says (w ∷ ws) =
    pick (eqb (kind_of w) end_kind)
    []
    (pick (eqb (kind_of w) harvest_kind) (says w ws ∷ each_frame says ws) (each_frame says ws))

-- the harvests, leasts and mosts in words
abbrev pub harvests_in : List ℕ → List ℕ
harvests_in ws = each_frame harvest_at ws

abbrev pub leasts_in : List ℕ → List ℕ
leasts_in ws = each_frame least_at ws

abbrev pub mosts_in : List ℕ → List ℕ
mosts_in ws = each_frame most_at ws

-- the figures in words: the values of the first
abbrev pub figures_in : List ℕ → Figures
figures_in ws = figures (value_in (get_or ws 0 0)) (value_in (get_or ws 1 0)) (value_in (get_or ws 2 0))

-- the request in words; absent bounds are spelt out
abbrev pub request_of : List ℕ → Request
request_of ws = bounded_request (figures_in ws) (harvests_in ws) (leasts_in ws) (mosts_in ws)

-- the request in a file
abbrev pub request_in : List ℕ → Request
request_in s = request_of (words_of s)

-- 8: the word that breaks the form, or the place behind the end word where n bytes reach further than that
abbrev pub malformed : Form → ℕ → Refusal
malformed (Closed words frames) n = pick (ltb (4 * words) n) (refusal 8 words) none
malformed (Broken p) n = refusal 8 p

-- 7: a list with less room than K
abbrev pub too_short : ℕ → ℕ → Refusal
too_short k room = refuse_if (ltb room k) 7

-- the refusals of k frames, read into lists of room h for harvests, l for leasts and m for mosts
abbrev pub room_refusals : ℕ → ℕ → ℕ → ℕ → List Refusal
room_refusals k h l m = too_many_frames k ∷ too_short k h ∷ too_short k l ∷ too_short k m ∷ []

-- the refusals of n bytes of this form, read into those lists
abbrev pub form_refusals : Form → ℕ → ℕ → ℕ → ℕ → List Refusal
form_refusals f n h l m = malformed f n ∷ room_refusals (frames_in f) h l m

-- the refusals of a file
abbrev pub read_refusals : List ℕ → ℕ → ℕ → ℕ → List Refusal
read_refusals s h l m =
    refuse_if (ltb max_file_bytes (length s)) 2 ∷ form_refusals (form_of (words_of s)) (length s) h l m

abbrev pub read_refusal : List ℕ → ℕ → ℕ → ℕ → Refusal
read_refusal s h l m = first_of (read_refusals s h l m)

-- ---- writing

-- the words of a request's figures
abbrev pub figure_words : Figures → List ℕ
figure_words f = word_of figure_kind f.capacity ∷ word_of figure_kind f.start ∷ word_of figure_kind f.end ∷ []

-- a word, unless it is absent
abbrev pub unless : Bool → ℕ → List ℕ
unless absent w = pick absent [] (w ∷ [])

-- the words of a frame: its harvest, its least unless that is 0, its most if it has an upper end
abbrev pub least_words : ℕ → List ℕ
least_words l = unless (eqb l 0) (bound_word least_mark l)

abbrev pub most_words : ℕ → List ℕ
most_words m = unless (eqb m no_upper_end) (bound_word most_mark m)

abbrev pub words_of_frame : ℕ → Bounds → List ℕ
words_of_frame h w = word_of harvest_kind h ∷ (least_words w.least ++ most_words w.most)

-- the words of all frames
abbrev pub words_of_frames : List ℕ → List Bounds → List ℕ
words_of_frames [] ws = []
words_of_frames (h ∷ hs) ws = words_of_frame h (first_bounds ws) ++ words_of_frames hs (later_bounds ws)

-- the words of a request's file
abbrev pub file_words : Request → List ℕ
file_words r =
    figure_words r.figures
    ++ (words_of_frames r.harvest r.bounds ++ (word_of end_kind (frame_count r) ∷ []))

-- the bytes of a request's file
abbrev pub file_bytes : Request → List ℕ
file_bytes r = bytes_of (file_words r)

-- words without those that say nothing, which the writer leaves out: a least of 0
abbrev pub pithy : List ℕ → List ℕ
pithy [] = []
pithy (w ∷ ws) = pick (eqb w (bound_word least_mark 0)) (pithy ws) (w ∷ pithy ws)

-- figures, a most, the bounds of a frame, and lists of harvests and bounds, that fit their words
abbrev pub FiguresFit : Figures → Type 0
FiguresFit f = (f.capacity < 2 ^ 30) × (f.start < 2 ^ 30) × (f.end < 2 ^ 30)

abbrev pub MostFits : ℕ → Type 0
MostFits m = (m ≡ no_upper_end → ⊥) → m < 2 ^ 29

abbrev pub BoundsFit : Bounds → Type 0
BoundsFit w = (w.least < 2 ^ 29) × MostFits w.most

abbrev pub FramesFit : List ℕ → List Bounds → Type 0
FramesFit hs ws = ((i : ℕ) → get_or hs i 0 < 2 ^ 30) × ((i : ℕ) → BoundsFit (get_or ws i absent)) × (length hs < 2 ^ 30)

abbrev pub Fits : Request → Type 0
Fits r = FiguresFit r.figures × FramesFit r.harvest r.bounds

-- the refusals of what a request holds, written into a list of that room
abbrev pub content_refusals : Request → ℕ → List Refusal
content_refusals r room =
    too_short (length (file_bytes r)) room ∷ (figure_refusals r ++ (bounds_refused 1 r.bounds ∷ []))

-- the refusals of a request with lists of l leasts and m mosts, written into a list of that room
abbrev pub write_refusals : Request → ℕ → ℕ → ℕ → List Refusal
write_refusals r l m room = lent_refusals (frame_count r) l m ++ content_refusals r room

abbrev pub write_refusal : Request → ℕ → ℕ → ℕ → Refusal
write_refusal r l m room = first_of (write_refusals r l m room)
