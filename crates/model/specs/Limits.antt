-- The limits of documents 01 and 02, each named once.
use Rattle.std.specs.Prelude.{ℕ, ◌+◌, ◌*◌}

-- the most frames of a request: a week of quarter hours
abbrev pub max_frames : ℕ
max_frames = 672

-- the words of a word file for one frame: its harvest, its least and its most
abbrev pub frame_words : ℕ
frame_words = 3

-- the words of a word file beside those of its frames: three figures and the end word
abbrev pub other_words : ℕ
other_words = 4

-- the most bytes of a word file: four for each word of a request of the most frames
abbrev pub max_file_bytes : ℕ
max_file_bytes = 4 * (frame_words * max_frames + other_words)

-- the largest harvest of a frame
abbrev pub max_harvest : ℕ
max_harvest = 400000

-- the largest least of a frame, and the largest most that is an upper end
abbrev pub max_bound : ℕ
max_bound = 536870911

-- as a most: no upper end
abbrev pub no_upper_end : ℕ
no_upper_end = 4294967295

-- the largest capacity; for the needed capacity, the largest start and end charge
abbrev pub max_capacity : ℕ
max_capacity = 1000000000
