-- The form of a word file as a machine over its words: it says where the file closed and with how many frames, or
-- which word breaks the form.
use Rattle.std.specs.Prelude.{List, [], ◌∷◌, ℕ, suc, ◌+◌, eqb, ltb}
use Rattle.model.specs.Choice.{pick}
use Rattle.words.specs.Words.{kind_of, value_in, mark_of}
pub use Rattle.words.specs.Words.{figure_kind, harvest_kind, bound_kind, end_kind, least_mark, most_mark}
use Rattle.wordfile.specs.declared.form.State.{State}
use Rattle.wordfile.specs.declared.form.Step.{Step}
use Rattle.wordfile.specs.declared.form.Step.TheVariants.{On, End, Wrong}

-- a mark above those of a least and a most
abbrev pub no_mark : ℕ
no_mark = 6

-- where the form of a file ends: closed after so many words with so many frames, or broken at a word's place
pub data Form : Type 0 where
  Closed : ℕ → ℕ → Form
  Broken : ℕ → Form

-- how many figures come first: capacity, start, end
abbrev pub figure_count : ℕ
figure_count = 3

-- the machine after that many figures and frames; a bound that follows has at least that mark
abbrev pub state : ℕ → ℕ → ℕ → State
state figures frames mark = record { figures = figures; frames = frames; mark = mark }

-- before the first word: no bound may follow
abbrev pub opening : State
opening = state 0 0 no_mark

-- what a bound with mark m does to it: behind a harvest its least may follow, and then its most
abbrev pub bounded : State → ℕ → Step
bounded s m = pick (ltb m s.mark) Wrong (On (state s.figures s.frames (m + 1)))

abbrev pub bound_step : State → ℕ → Step
bound_step s w = bounded s (mark_of w)

-- what a word does to it: figures come first, then the words of each frame; the end word holds the count of frames
abbrev pub step_of : State → ℕ → Step
step_of s w =
    pick (ltb s.figures figure_count)
    (pick (eqb (kind_of w) figure_kind) (On (state (s.figures + 1) s.frames s.mark)) Wrong)
    (pick (eqb (kind_of w) harvest_kind)
    (On (state s.figures (s.frames + 1) least_mark))
    (pick (eqb (kind_of w) bound_kind)
    (bound_step s w)
    (pick (eqb (kind_of w) end_kind) (pick (eqb (value_in w) s.frames) End Wrong) Wrong)))

-- the machine over the words from place i on: Closed n k after n words, the last being the end word, with k frames;
-- Broken p where word p breaks the form or is missing
abbrev pub scan : State → ℕ → List ℕ → Form
scan s i [] = Broken i
scan s i (w ∷ ws) =
    elim (step_of s w) [ On t ↦ scan t (suc i) ws | End ↦ Closed (suc i) s.frames | Wrong ↦ Broken i ]

abbrev pub form_of : List ℕ → Form
form_of ws = scan opening 0 ws

-- the place that a form names: behind the end word, or of the word that breaks the form
abbrev pub place_in : Form → ℕ
place_in (Closed words frames) = words
place_in (Broken p) = p

-- how many frames a file of this form has
abbrev pub frames_in : Form → ℕ
frames_in (Closed words frames) = frames
frames_in (Broken p) = 0
