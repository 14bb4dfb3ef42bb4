-- The words of a request's file: how many they are, and that they are put down one behind the other.
use mathlib.Core.Path.{◌≡◌, refl, sym, ap, ◌∙◌, subst}
use mathlib.Core.Bool.{Bool, true, false}
use mathlib.Core.List.{List, [], ◌∷◌, ◌++◌}
use Prim.Native.Nat.{ℕ, suc, ◌+◌, ◌*◌, ◌^◌, ◌≤◌, ◌<◌}
use native.Mathlib.Nat.{zero-add}
use native.Mathlib.Omega.{arith}
use lib.Dec.{eqb}
use borrow.Author.Tests.{ne_eqb}
use lib.ListN.{length, get_or, length-append}
use Rattle.model.specs.Choice.{pick}
use Rattle.model.specs.Lent.{over}
use Rattle.model.specs.Limits.{max_frames, frame_words, other_words, max_file_bytes, no_upper_end}
use Rattle.model.specs.Request.{Bounds, Request, absent, bounds, bounds_of, first_bounds, frame_count, later_bounds}
use Rattle.words.specs.Words.{word_of, bound_word}
use Rattle.words.specs.Puts.{Puts, Wrote}
use Rattle.words.specs.declared.writer.Writer.{Writer}
use Rattle.std.specs.Prelude.{None}
use Rattle.std.proofs.Common.{Iter, inl, inr}
use Rattle.std.specs.declared.iter.Zip.{Zip}
use Rattle.std.proofs.lemmas.List.{nil_from_length}
use Rattle.std.proofs.lemmas.Iterator.{zips, empty_from_Zip}
use Rattle.std.proofs.iter.Yields.{fronts}
use Rattle.std.specs.Iterator.Adapters.{zip_first, zip_second}
use Rattle.std.specs.Slice.Iter.{iter_rest}
use Rattle.words.proofs.Lists.{over_zero}
use Rattle.words.proofs.Bytes.{bytes_length, puts_none, puts_more, puts_length, wrote_more}
use Rattle.wordfile.specs.Form.{figure_count}
use Rattle.request.specs.Each.{OneEach}
use Rattle.wordfile.specs.File.{BoundsFit, FramesFit, figure_words, least_words, most_words, words_of_frame, words_of_frames}
use Rattle.wordfile.specs.File.{file_words, file_bytes}

-- ---- lists of bounds

pub first_is : (bs : List Bounds) → get_or bs 0 absent ≡ first_bounds bs
first_is [] = refl
first_is (b ∷ bs) = refl

pub later_is : (bs : List Bounds) (i : ℕ) → get_or bs (suc i) absent ≡ get_or (later_bounds bs) i absent
later_is [] i = refl
later_is (b ∷ bs) i = refl

-- ---- how many words

pub least_some : (l : ℕ) → (l ≡ 0 → ⊥) → least_words l ≡ bound_word 4 l ∷ []
least_some l n = rw (ne_eqb l 0 n)

pub most_some : (m : ℕ) → (m ≡ no_upper_end → ⊥) → most_words m ≡ bound_word 5 m ∷ []
most_some m n = rw (ne_eqb m no_upper_end n)

-- at most one
at_most_one : (t : Bool) (w : ℕ) → length (pick t [] (w ∷ [])) ≤ 1
at_most_one true w = omega arith
at_most_one false w = omega arith

pub least_one : (l : ℕ) → length (least_words l) ≤ 1
least_one l = at_most_one (eqb l 0) (bound_word 4 l)

pub most_one : (m : ℕ) → length (most_words m) ≤ 1
most_one m = at_most_one (eqb m no_upper_end) (bound_word 5 m)

pub frame_length :
    (h : ℕ) (w : Bounds) →
    length (words_of_frame h w) ≡ 1 + (length (least_words w.least) + length (most_words w.most))
frame_length h w = omega (arith, length-append (least_words w.least) (most_words w.most))

pub frame_most : (h : ℕ) (w : Bounds) → length (words_of_frame h w) ≤ frame_words
frame_most h w = omega (arith, frame_length h w, least_one w.least, most_one w.most)

frames_cons :
    (h : ℕ) (hs : List ℕ) (bs : List Bounds) →
    length (words_of_frames (h ∷ hs) bs)
    ≡ length (words_of_frame h (first_bounds bs)) + length (words_of_frames hs (later_bounds bs))
frames_cons h hs bs = length-append (words_of_frame h (first_bounds bs)) (words_of_frames hs (later_bounds bs))

pub frames_most : (hs : List ℕ) (bs : List Bounds) → length (words_of_frames hs bs) ≤ frame_words * length hs
frames_most [] bs = omega arith
frames_most (h ∷ hs) bs =
    let r = frames_most hs (later_bounds bs) in
    omega (arith, frames_cons h hs bs, frame_most h (first_bounds bs))

-- how many words frames with these bounds have, whatever their harvests
abbrev pub bounds_size : List ℕ → List ℕ → ℕ
bounds_size ls ms = length (words_of_frames ls (bounds_of ls ms))

pub bounds_size_is :
    (hs ls ms : List ℕ) → OneEach hs ls ms → length (words_of_frames hs (bounds_of ls ms)) ≡ bounds_size ls ms
bounds_size_is [] [] ms e = refl
bounds_size_is [] (l ∷ ls) ms e = absurd (omega (arith, e))
bounds_size_is (h ∷ hs) [] ms e = absurd (omega (arith, e))
bounds_size_is (h ∷ hs) (l ∷ ls) [] e = absurd (omega (arith, e))
bounds_size_is (h ∷ hs) (l ∷ ls) (m ∷ ms) e =
    let bs = bounds l m ∷ bounds_of ls ms in
    let r = bounds_size_is hs ls ms (omega (arith, e), omega (arith, e)) in
    omega (
      arith,
      frames_cons h hs bs,
      frames_cons l ls bs,
      frame_length h (bounds l m),
      frame_length l (bounds l m),
      r,
    )

-- one frame more
pub bounds_size_more :
    {l m : ℕ} {ls ms xs ys : List ℕ} → xs ≡ l ∷ ls → ys ≡ m ∷ ms →
    bounds_size xs ys ≡ length (words_of_frame 0 (bounds l m)) + bounds_size ls ms
bounds_size_more {l} {m} {ls} {ms} e f =
    let w = bounds l m in
    rw (e, f) (omega (arith, frames_cons l ls (w ∷ bounds_of ls ms), frame_length l w, frame_length 0 w))

pub no_bounds : {ls : List ℕ} (ms : List ℕ) → ls ≡ [] → bounds_size ls ms ≡ 0
no_bounds ms e = rw e refl

-- all bounds are written
abbrev pub AllBound : List ℕ → List Bounds → Type 0
AllBound hs bs =
    (i : ℕ) → i < length hs → ((get_or bs i absent).least ≡ 0 → ⊥) × ((get_or bs i absent).most ≡ no_upper_end → ⊥)

frames_full :
    (hs : List ℕ) (bs : List Bounds) → AllBound hs bs → length (words_of_frames hs bs) ≡ frame_words * length hs
frames_full [] bs a = refl
frames_full (h ∷ hs) bs a =
    let w = first_bounds bs in
    let f : (w.least ≡ 0 → ⊥) × (w.most ≡ no_upper_end → ⊥) = rw (first_is bs) at (a 0 (omega arith)) in
    let r = frames_full hs (later_bounds bs) (λ i l. rw (later_is bs i) at (a (suc i) (omega arith))) in
    omega (
      arith,
      frames_cons h hs bs,
      frame_length h w,
      ap length (least_some w.least f.0),
      ap length (most_some w.most f.1),
    )

pub file_length :
    (q : Request) →
    length (file_bytes q) ≡ 4 * (figure_count + length (words_of_frames q.harvest q.bounds) + 1)
file_length q =
    omega (
      arith,
      bytes_length (file_words q),
      length-append (words_of_frames q.harvest q.bounds) (word_of 3 (frame_count q) ∷ []),
    )

-- no file of a request has more bytes than the limits allow its frames
pub file_most : (q : Request) → length (file_bytes q) ≤ 4 * (frame_words * frame_count q + other_words)
file_most q = omega (arith, file_length q, frames_most q.harvest q.bounds)

-- the file of a request with the most frames and all bounds has the most bytes: the limits are one
pub longest_file :
    (q : Request) → frame_count q ≡ max_frames → AllBound q.harvest q.bounds →
    length (file_bytes q) ≡ max_file_bytes
longest_file q e a = omega (arith, file_length q, frames_full q.harvest q.bounds a)

-- ---- put down word by word

-- the frames left, the first of which has harvest h, least l and most m
module _
    {h l m : ℕ} {hs ls ms xs ys zs : List ℕ} (e : xs ≡ h ∷ hs) (f : ys ≡ l ∷ ls) (g : zs ≡ m ∷ ms) where
  left_is : words_of_frames xs (bounds_of ys zs) ≡ words_of_frame h (bounds l m) ++ words_of_frames hs (bounds_of ls ms)
  left_is = rw (e, f, g) refl

  pub left_fits : FramesFit xs (bounds_of ys zs) → (h < 2 ^ 30) × BoundsFit (bounds l m) × FramesFit hs (bounds_of ls ms)
  left_fits x =
      let y : FramesFit (h ∷ hs) (bounds l m ∷ bounds_of ls ms) = rw (e, f, g) at x in
      (y.0 0, y.1 0, (λ i. y.0 (suc i), λ i. y.1 (suc i), omega (arith, y.2)))

  pub left_length :
      length (words_of_frames xs (bounds_of ys zs))
      ≡ length (words_of_frame h (bounds l m)) + length (words_of_frames hs (bounds_of ls ms))
  left_length =
      ap length left_is ∙ length-append (words_of_frame h (bounds l m)) (words_of_frames hs (bounds_of ls ms))

  -- its words are put, and then those of the frames behind it
  pub left_wrote :
      {a b c : Writer} → a.at + 4 * length (words_of_frames xs (bounds_of ys zs)) ≤ length a.out.now →
      Wrote (words_of_frame h (bounds l m)) a b → Wrote (words_of_frames hs (bounds_of ls ms)) b c →
      Wrote (words_of_frames xs (bounds_of ys zs)) a c
  left_wrote {a} {b} {c} room p q =
      let n = bytes_length (words_of_frame h (bounds l m)) in
      subst (λ (ws : List ℕ). Wrote ws a c) (sym left_is) (wrote_more p (omega (arith, n, left_length, room)) q)

  pub left_room :
      {a b : Writer} → a.at + 4 * length (words_of_frames xs (bounds_of ys zs)) ≤ length a.out.now →
      Wrote (words_of_frame h (bounds l m)) a b →
      b.at + 4 * length (words_of_frames hs (bounds_of ls ms)) ≤ length b.out.now
  left_room {a} {b} room p =
      let n = bytes_length (words_of_frame h (bounds l m)) in
      let k = puts_length p.puts (omega (arith, n, left_length, room)) in
      omega (arith, n, k, left_length, room, p.puts.behind)

-- no frame left
pub wrote_none : {xs : List ℕ} (bs : List Bounds) {a : Writer} → xs ≡ [] → Wrote (words_of_frames xs bs) a a
wrote_none bs {a} e =
    subst (λ (hs : List ℕ). Wrote (words_of_frames hs bs) a a) (sym e)
    record { puts = puts_none a.at a.out.now; same = refl }

-- no frame is left where a zip of three lists of one length ends
pub zip_ended :
    (s t : Zip (Zip (Iter ℕ) (Iter ℕ)) (Iter ℕ)) → zips (zips fronts fronts) fronts s None t →
    OneEach (iter_rest (zip_first (zip_first s))) (iter_rest (zip_second (zip_first s))) (iter_rest (zip_second s)) →
    iter_rest (zip_first (zip_first s)) ≡ []
zip_ended s t (inl a) each = (empty_from_Zip (zip_first s) a.0 None refl a.1 (sym each.0)).0
zip_ended s t (inr b) each = nil_from_length (iter_rest (zip_first (zip_first s))) (sym each.1 ∙ b.1.0)

-- the figures, the frames and the end word: the file at the front, and the place behind its last word
pub puts_file :
    (q : Request) {o o1 o2 o3 : List ℕ} {m n r : ℕ} → length (file_bytes q) ≤ length o →
    Puts (figure_words q.figures) 0 o o1 m → Puts (words_of_frames q.harvest q.bounds) m o1 o2 n →
    Puts (word_of 3 (frame_count q) ∷ []) n o2 o3 r → (o3 ≡ over (file_bytes q) o) × (r ≡ length (file_bytes q))
puts_file q {o} l a b c =
    let k : 12 ≤ length o = omega (arith, file_length q) in
    let s = puts_length a k in
    let f = bytes_length (words_of_frames q.harvest q.bounds) in
    let tail = puts_more b (omega (arith, file_length q, f, a.behind)) c in
    let all = puts_more a k tail in
    (all.list ∙ over_zero (file_bytes q) o, all.behind ∙ zero-add (length (file_bytes q)))
