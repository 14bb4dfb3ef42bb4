-- What reading and writing a word file promise, and which files are the writer's.
use Rattle.std.specs.Prelude.{◌≡◌, Result, Ok, Err, true, List, ℕ, ◌≤◌, ◌<◌, length, get_or, take}
use Rattle.model.specs.declared.refusal.Refusal.{Refusal as Given}
use Rattle.model.specs.declared.refusal.Refusal.TheVariants.{BadWord}
use Rattle.model.specs.Answer.{said}
use Rattle.model.specs.Refusals.{Refusal}
use Rattle.model.specs.Choice.{pick}
use Rattle.model.specs.Request.{Request, frame_count}
use Rattle.model.specs.Refusals.{gives, outcome, is_none, none}
use Rattle.model.specs.Lent.{over}
use Rattle.words.specs.Words.{bytes_of, words_of}
use Rattle.wordfile.specs.Form.{Form, Closed, Broken}
use Rattle.wordfile.specs.File.{harvests_in, leasts_in, mosts_in, request_in, read_refusal}
use Rattle.wordfile.specs.File.{file_bytes, pithy, write_refusal}
use Rattle.wordfile.specs.declared.reader.Header.{Header}
use Rattle.wordfile.specs.declared.reader.Room.{Room}
use Rattle.wordfile.specs.declared.form.Closed.{Closed as ClosedFile}

-- the figures of a request, and K
abbrev pub header_of : Request → Header
header_of r = record { figures = r.figures; frames = frame_count r }

-- what going over a file answers of its form: how many words and frames, or the word that breaks it
abbrev pub scanned : Form → Result ClosedFile Given
scanned (Closed words frames) = Ok record { words = words; frames = frames }
scanned (Broken p) = Err (BadWord p)

-- the lists lent are the same ones, their values aside
pub record SameRoom (r r' : Room) : Type 0 where
  pub harvest : r'.harvest.ghost_name ≡ r.harvest.ghost_name
  pub least : r'.least.ghost_name ≡ r.least.ghost_name
  pub most : r'.most.ghost_name ≡ r.most.ghost_name

-- the refusal of reading the file s with lists of harvests, leasts and mosts lent
abbrev pub read_refused : (s h l m : List ℕ) → Refusal
read_refused s h l m = read_refusal s (length h) (length l) (length m)

-- a lent list after reading: what was found is at its front, unless the file is refused
abbrev pub filled : Refusal → List ℕ → List ℕ → List ℕ
filled f found list = pick (is_none f) (over found list) list

-- reading the file s with lists of harvests h, leasts l and mosts m lent, h', l' and m' after it
pub record ReadSays (s h l m h' l' m' : List ℕ) (r : Result Header Given) : Type 0 where
  pub answer : said r ≡ outcome (read_refused s h l m) (header_of (request_in s))
  pub harvest : h' ≡ filled (read_refused s h l m) (harvests_in (words_of s)) h
  pub least : l' ≡ filled (read_refused s h l m) (leasts_in (words_of s)) l
  pub most : m' ≡ filled (read_refused s h l m) (mosts_in (words_of s)) m
  -- an accepted file, its words that say nothing left out, is the file of its request
  pub file : is_none (read_refused s h l m) ≡ true → file_bytes (request_in s) ≡ bytes_of (pithy (words_of s))

-- writing the request q, from lists of l leasts and m mosts, with the byte list o lent, o' after it
pub record WriteSays (q : Request) (l m : ℕ) (o o' : List ℕ) (r : Result ℕ Given) : Type 0 where
  pub answer : said r ≡ outcome (write_refusal q l m (length o)) (length (file_bytes q))
  pub bytes : o' ≡ filled (write_refusal q l m (length o)) (file_bytes q) o
  -- what was written is read back as the request, in any rooms of at least K
  pub reads_back :
      is_none (write_refusal q l m (length o)) ≡ true → (n x y z : ℕ) → said r ≡ gives n → frame_count q ≤ x →
      frame_count q ≤ y → frame_count q ≤ z →
      (read_refusal (take n o') x y z ≡ none) × (request_in (take n o') ≡ q)

-- the bytes are the file of a request, with bounds for each frame, that the writer does not refuse
abbrev pub IsWritten : List ℕ → Type 0
IsWritten s =
    (q : Request)
    × (length q.bounds ≡ frame_count q)
    × (is_none (write_refusal q (frame_count q) (frame_count q) (length s)) ≡ true)
    × (file_bytes q ≡ s)

-- the reader does not refuse the bytes in lists of K, none of their words says nothing, and the writer does not refuse
-- their request
abbrev pub IsWritable : List ℕ → Type 0
IsWritable s =
    let q = request_in s in
    let k = frame_count q in
    (is_none (read_refusal s k k k) ≡ true)
    × (pithy (words_of s) ≡ words_of s)
    × (is_none (write_refusal q k k (length s)) ≡ true)

-- which lists of bytes are files of the writer
pub record WritersFiles (s : List ℕ) : Type 0 where
  pub writable : IsWritten s → IsWritable s
  pub written : ((i : ℕ) → get_or s i 0 < 256) → IsWritable s → IsWritten s
