-- What the refusals of reading and writing say where there is none, and the two promises made of it.
use mathlib.Core.Path.{◌≡◌, refl, sym, ap, ◌∙◌}
use mathlib.Core.Bool.{Bool, true, false, false≢true}
use mathlib.Core.List.{List, [], ◌∷◌}
use Prim.Native.Nat.{ℕ, ◌*◌, ◌/◌, ◌≤◌}
use native.Mathlib.Omega.{arith}
use lib.Dec.{ltb}
use borrow.Author.Tests.{le-ltb, ltb-false}
use lib.ListN.{length, take, drop}
use lib.Seq.{take_at}
use Rattle.model.specs.declared.Figures.{Figures}
use Rattle.std.specs.Prelude.{Ok}
use Rattle.model.specs.Refusals.{Refusal}
use Rattle.model.specs.Choice.{pick}
use Rattle.model.specs.Lent.{over}
use Rattle.model.specs.Limits.{max_file_bytes, max_frames}
use Rattle.model.specs.Request.{Request, frame_count}
use Rattle.model.specs.Refusals.{refusal, none, is_none, refuse_if, first_of, AllNone, lent_refusals, figure_refusals}
use Rattle.model.specs.Refusals.{bounds_refused, Outcome, gives, refuses}
use Rattle.model.proofs.First.{first_none, both_none}
use Rattle.request.proofs.Within.{test_failed, LentWithin, lent_within, figures_within}
use Rattle.request.proofs.BadBounds.{bounds_each}
use Rattle.words.specs.Words.{bytes_of, words_of}
use Rattle.words.proofs.Bytes.{words_length, bytes_length}
use Rattle.wordfile.specs.Form.{figure_count, opening, form_of, place_in}
use Rattle.wordfile.specs.File.{harvest_at, least_at, most_at, figures_in, harvests_in, leasts_in, mosts_in, request_in}
use Rattle.wordfile.specs.File.{too_short, form_refusals, read_refusals, read_refusal}
use Rattle.wordfile.specs.File.{file_words, file_bytes, pithy, Fits, content_refusals}
use Rattle.wordfile.specs.File.{write_refusals, write_refusal}
use Rattle.wordfile.specs.Says.{ReadSays, WriteSays, read_refused}
use Rattle.wordfile.specs.Form.{Form, Closed, Broken}
use Rattle.wordfile.proofs.Machine.{place_within}
use Rattle.wordfile.proofs.Found.{frames_length}
use Rattle.wordfile.proofs.Files.{closed_is, accepted_file}
use Rattle.wordfile.proofs.Put.{file_most}
use Rattle.wordfile.proofs.Written.{file_back}

-- ---- reading

-- as many leasts and mosts as harvests
pub leasts_length : (ws : List ℕ) → length (leasts_in ws) ≡ length (harvests_in ws)
leasts_length ws = frames_length least_at harvest_at ws

pub mosts_length : (ws : List ℕ) → length (mosts_in ws) ≡ length (harvests_in ws)
mosts_length ws = frames_length most_at harvest_at ws

-- a file that the reader does not refuse
pub record ReadWithin (s : List ℕ) (h l m : ℕ) : Type 0 where
  pub small : length s ≤ max_file_bytes
  pub figures : figure_count ≤ length s / 4
  pub harvests : length (harvests_in (words_of s)) ≤ h
  pub leasts : length (leasts_in (words_of s)) ≤ l
  pub mosts : length (mosts_in (words_of s)) ≤ m
  pub whole : length s ≡ 4 * (length s / 4)
  pub file : file_bytes (request_in s) ≡ bytes_of (pithy (words_of s))

pub read_within : (s : List ℕ) (h l m : ℕ) → is_none (read_refusal s h l m) ≡ true → ReadWithin s h l m
read_within s h l m e =
    let a = first_none (read_refusals s h l m) e in
    let n = ltb-false max_file_bytes (length s) (test_failed (ltb max_file_bytes (length s)) 1 a.0) in
    by n (form_of (words_of s)) refl a.1
  where
    no_rest : (t : Bool) (n : ℕ) → is_none (pick t (refusal 8 n) none) ≡ true → t ≡ false
    no_rest true n h = absurd (false≢true h)
    no_rest false n h = refl

    room : (k r : ℕ) → is_none (too_short k r) ≡ true → k ≤ r
    room k r e = ltb-false r k (test_failed (ltb r k) 6 e)

    by :
        length s ≤ max_file_bytes → (f : Form) → form_of (words_of s) ≡ f → AllNone (form_refusals f (length s) h l m) →
        ReadWithin s h l m
    by d (Broken p) q a = absurd (false≢true a.0)
    by d (Closed n k) q a =
        let f = closed_is (words_of s) n k q in
        let w : length s ≤ 4 * n = ltb-false (4 * n) (length s) (no_rest (ltb (4 * n) (length s)) n a.0) in
        let b = accepted_file s n k q w in
        record {
          small = d;
          figures = omega (arith, f.least, words_length s);
          harvests = omega (arith, f.frames, room k h a.1.1.0);
          leasts = omega (arith, f.frames, room k l a.1.1.1.0, leasts_length (words_of s));
          mosts = omega (arith, f.frames, room k m a.1.1.1.1.0, mosts_length (words_of s));
          whole = b.whole;
          file = b.file;
        }

-- a closed file with its last word, frames and rooms within their limits is not refused
read_none :
    (s : List ℕ) (h l m n k : ℕ) → form_of (words_of s) ≡ Closed n k → length s ≤ max_file_bytes → length s ≤ 4 * n →
    k ≤ max_frames → k ≤ h → k ≤ l → k ≤ m → read_refusal s h l m ≡ none
read_none s h l m n k e a b c x y z =
    ap (λ (f : Form). first_of (refuse_if (ltb max_file_bytes (length s)) 2 ∷ form_refusals f (length s) h l m)) e
    ∙ rw (
      le-ltb max_file_bytes (length s) a,
      le-ltb (4 * n) (length s) b,
      le-ltb max_frames k c,
      le-ltb h k x,
      le-ltb l k y,
      le-ltb m k z,
    )

-- a refusal with a number up to 8 and a P within the bytes of a file
abbrev pub Small : Refusal → Type 0
Small f = (f.number ≤ 8) × (f.p ≤ max_file_bytes)

-- every refusal of the reader is such
pub read_small : (s : List ℕ) (h l m : ℕ) → Small (read_refusal s h l m)
read_small s h l m = go (ltb max_file_bytes (length s)) refl
  where
    closed : (n : ℕ) → n ≤ max_file_bytes → (t u v w x : Bool) →
        Small (first_of (pick t (refusal 8 n) none ∷ refuse_if u 2 ∷ refuse_if v 7 ∷ refuse_if w 7 ∷ refuse_if x 7 ∷ []))
    closed n l true u v w x = (omega arith, l)
    closed n l false true v w x = (omega arith, omega arith)
    closed n l false false true w x = (omega arith, omega arith)
    closed n l false false false true x = (omega arith, omega arith)
    closed n l false false false false true = (omega arith, omega arith)
    closed n l false false false false false = (omega arith, omega arith)

    by : (f : Form) → place_in f ≤ max_file_bytes → Small (first_of (form_refusals f (length s) h l m))
    by (Broken p) n = (omega arith, n)
    by (Closed n k) z = closed n z (ltb (4 * n) (length s)) (ltb max_frames k) (ltb h k) (ltb l k) (ltb m k)

    go : (t : Bool) → ltb max_file_bytes (length s) ≡ t →
        Small (first_of (refuse_if t 2 ∷ form_refusals (form_of (words_of s)) (length s) h l m))
    go true e = (omega arith, omega arith)
    go false e =
        let d = ltb-false max_file_bytes (length s) e in
        by (form_of (words_of s)) (omega (arith, place_within opening 0 (words_of s), words_length s))

-- and where it reads
pub read_accepted :
    (s h l m h' l' m' : List ℕ) (x : Figures) (k : ℕ) → is_none (read_refused s h l m) ≡ true →
    x ≡ figures_in (words_of s) → k ≡ length (harvests_in (words_of s)) → h' ≡ over (harvests_in (words_of s)) h →
    l' ≡ over (leasts_in (words_of s)) l → m' ≡ over (mosts_in (words_of s)) m →
    ReadSays s h l m h' l' m' (Ok record { figures = x; frames = k })
read_accepted s h l m h' l' m' x k e p q a b c =
    record {
      answer = rw (e, p, q);
      harvest = rw e a;
      least = rw e b;
      most = rw e c;
      file = λ t. (read_within s (length h) (length l) (length m) e).file;
    }

-- ---- writing

-- a request that the writer does not refuse
pub record WriteWithin (q : Request) (l m room : ℕ) : Type 0 where
  pub lent : LentWithin (frame_count q) l m
  pub space : length (file_bytes q) ≤ room
  pub fits : Fits q

pub write_within :
    (q : Request) (l m room : ℕ) → is_none (write_refusal q l m room) ≡ true → WriteWithin q l m room
write_within q l m room e =
    let n = length (file_bytes q) in
    let a = both_none (lent_refusals (frame_count q) l m) (content_refusals q room)
    (first_none (write_refusals q l m room) e) in
    let b = both_none (figure_refusals q) (bounds_refused 1 q.bounds ∷ []) a.1.1 in
    let s = lent_within (frame_count q) l m a.0 in
    let f = figures_within q b.0 in
    let w = bounds_each 1 q.bounds b.1.0 in
    record {
      lent = s;
      space = ltb-false room n (test_failed (ltb room n) 6 a.1.0);
      fits = (
        (omega (arith, f), omega (arith, f), omega (arith, f)),
        (
          λ i. omega (arith, f.harvest_fits i),
          λ i. (omega (arith, (w i).least_small), λ z. omega (arith, (w i).most_small z)),
          omega (arith, s.frames.few),
        ),
      );
    }

-- a request's file is not refused in any rooms of at least K
pub file_read :
    (q : Request) (x y z : ℕ) → Fits q → length q.bounds ≡ frame_count q → frame_count q ≤ max_frames →
    frame_count q ≤ x → frame_count q ≤ y → frame_count q ≤ z → read_refusal (file_bytes q) x y z ≡ none
file_read q x y z f each k a b c =
    let s = file_bytes q in
    let ws = file_words q in
    read_none s x y z (length ws) (frame_count q) (file_back q f each).form (omega (arith, file_most q))
    (omega (arith, bytes_length ws)) k a b c

-- and where it writes; the bounds are one for each frame
pub write_written :
    (q : Request) (l m : ℕ) (o o' : List ℕ) (n : ℕ) → length q.bounds ≡ frame_count q →
    is_none (write_refusal q l m (length o)) ≡ true → o' ≡ over (file_bytes q) o → n ≡ length (file_bytes q) →
    WriteSays q l m o o' (Ok n)
write_written q l m o o' n each e f size =
    record {
      answer = rw e (ap gives size);
      bytes = rw e f;
      reads_back = λ t k x y z g a b c. back k x y z (sym (ap given g) ∙ size) a b c;
    }
  where
    given : Outcome ℕ → ℕ
    given (gives n) = n
    given (refuses r) = 0

    back :
        (k x y z : ℕ) → k ≡ length (file_bytes q) → frame_count q ≤ x → frame_count q ≤ y → frame_count q ≤ z →
        (read_refusal (take k o') x y z ≡ none) × (request_in (take k o') ≡ q)
    back k x y z j a b c =
        let w = write_within q l m (length o) e in
        let s = file_bytes q in
        let t : take k o' ≡ s = ap (take k) f ∙ take_at s (drop (length s) o) k (sym j) in
        rw t (file_read q x y z w.fits each w.lent.frames.few a b c, (file_back q w.fits each).request)
