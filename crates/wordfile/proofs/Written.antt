-- The file of a request with bounds for each frame is read back as the request, and each of its words says something.
use mathlib.Core.Path.{◌≡◌, refl, sym, ap, ◌∙◌, subst}
use mathlib.Core.Bool.{Bool, true, false}
use mathlib.Core.List.{List, [], ◌∷◌, ◌++◌, append_assoc}
use Prim.Native.Nat.{ℕ, zero, suc, ◌+◌, ◌^◌, ◌≤◌, ◌<◌}
use native.Mathlib.Nat.{add-zero}
use native.Mathlib.Numerals.{add-one}
use native.Mathlib.Omega.{arith}
use lib.Dec.{eqb}
use borrow.Author.Tests.{eqb-true, eqb-false}
use lib.ListN.{length, get_or, length-append}
use Rattle.model.specs.declared.Figures.{Figures}
use Rattle.model.specs.Choice.{pick}
use Rattle.model.specs.Limits.{no_upper_end}
use Rattle.model.specs.Request.{Bounds, Request, absent, frame_count}
use Rattle.words.specs.Words.{kind_of, word_of, bound_word, words_of}
use Rattle.words.proofs.Words.{word_kind, word_value, bound_mark, bound_amount}
use Rattle.words.proofs.Bytes.{words_back}
use Rattle.wordfile.specs.Form.{state, step_of, scan, form_of}
use Rattle.wordfile.specs.File.{bound_at, past_least, harvest_at, least_at, most_at, each_frame, figures_in, harvests_in}
use Rattle.wordfile.specs.File.{request_of, request_in, least_words, most_words, words_of_frames}
use Rattle.wordfile.specs.File.{file_words, file_bytes, pithy, BoundsFit, MostFits, Fits}
use Rattle.wordfile.specs.declared.form.Step.TheVariants.{On, End}
use Rattle.wordfile.specs.Form.{Form, Closed}
use Rattle.wordfile.proofs.Machine as machine
use Rattle.wordfile.proofs.Machine.{next_is, is_figure, is_harvest, is_end}
use Rattle.wordfile.proofs.Found as found
use Rattle.wordfile.proofs.Found.{found_end, found_harvest, found_figure, found_bound}
use Rattle.wordfile.proofs.Files.{tail_words, bounds_in, pithy_keep}

-- ---- every word has 32 bits

abbrev Below : List ℕ → Type 0
Below ws = (i : ℕ) → get_or ws i 0 < 2 ^ 32

below_cons : (w : ℕ) (ws : List ℕ) → w < 2 ^ 32 → Below ws → Below (w ∷ ws)
below_cons w ws l b zero = l
below_cons w ws l b (suc i) = b i

below_append : (vs ws : List ℕ) → Below vs → Below ws → Below (vs ++ ws)
below_append [] ws a b = b
below_append (v ∷ vs) ws a b = below_cons v (vs ++ ws) (a 0) (below_append vs ws (λ i. a (suc i)) b)

below_none : Below []
below_none i = omega arith

below_maybe : (t : Bool) (w : ℕ) → (t ≡ false → w < 2 ^ 32) → Below (pick t [] (w ∷ []))
below_maybe true w l = below_none
below_maybe false w l = below_cons w [] (l refl) below_none

-- ---- bounds as words

-- the word of a bound
module _ (m a : ℕ) (l : a < 2 ^ 29) (p : 4 ≤ m) (q : m ≤ 5) where
  bound_kind_lem : kind_of (bound_word m a) ≡ 2
  bound_kind_lem = omega arith

  -- the machine goes on
  bound_step_lem : (k b : ℕ) → b ≤ m → On (state 3 k (m + 1)) ≡ step_of (state 3 k b) (bound_word m a)
  bound_step_lem k b h =
      machine.bound_next (state 3 k b) (bound_word m a) (sym (bound_mark m a l)) h
      ∙ machine.is_bound (state 3 k b) (bound_word m a) (sym bound_kind_lem) (omega arith) refl

least_fits : (w : Bounds) → BoundsFit w → Below (least_words w.least)
least_fits w f = below_maybe (eqb w.least 0) (bound_word 4 w.least) (λ e. omega (arith, f.0))

most_fits : (w : Bounds) → BoundsFit w → Below (most_words w.most)
most_fits w f =
    below_maybe (eqb w.most no_upper_end) (bound_word 5 w.most)
    (λ e. omega (arith, f.1 (eqb-false w.most no_upper_end e)))

-- the machine over a least and a most that may be there: what comes behind them decides
module _ (k i : ℕ) (xs : List ℕ) (x : Form) where
  scan_least :
      (l b : ℕ) → l < 2 ^ 29 → b ≤ 4 →
      ((c : ℕ) → c ≤ 5 → scan (state 3 k c) (i + length (least_words l)) xs ≡ x) →
      scan (state 3 k b) i (least_words l ++ xs) ≡ x
  scan_least l b f h r = go (eqb l 0) r
    where
      go : (t : Bool) →
          ((c : ℕ) → c ≤ 5 → scan (state 3 k c) (i + length (pick t [] (bound_word 4 l ∷ []))) xs ≡ x) →
          scan (state 3 k b) i (pick t [] (bound_word 4 l ∷ []) ++ xs) ≡ x
      go true r = ap (λ (n : ℕ). scan (state 3 k b) n xs) (sym (add-zero i)) ∙ r b (omega arith)
      go false r =
          next_is (state 3 k b) i (bound_word 4 l) xs (On (state 3 k 5))
          (bound_step_lem 4 l f (omega arith) (omega arith) k b h)
          ∙ (ap (λ (n : ℕ). scan (state 3 k 5) n xs) (sym (add-one i)) ∙ r 5 (omega arith))

  scan_most :
      (m b : ℕ) → MostFits m → b ≤ 5 → ((c : ℕ) → scan (state 3 k c) (i + length (most_words m)) xs ≡ x) →
      scan (state 3 k b) i (most_words m ++ xs) ≡ x
  scan_most m b f h r = go (eqb m no_upper_end) refl r
    where
      go : (t : Bool) → eqb m no_upper_end ≡ t →
          ((c : ℕ) → scan (state 3 k c) (i + length (pick t [] (bound_word 5 m ∷ []))) xs ≡ x) →
          scan (state 3 k b) i (pick t [] (bound_word 5 m ∷ []) ++ xs) ≡ x
      go true e r = ap (λ (n : ℕ). scan (state 3 k b) n xs) (sym (add-zero i)) ∙ r b
      go false e r =
          next_is (state 3 k b) i (bound_word 5 m) xs (On (state 3 k 6))
          (bound_step_lem 5 m (f (eqb-false m no_upper_end e)) (omega arith) (omega arith) k b h)
          ∙ (ap (λ (n : ℕ). scan (state 3 k 6) n xs) (sym (add-one i)) ∙ r 6)

-- words that do not begin with a bound
record Plain (ws : List ℕ) : Type 0 where
  pub least : bound_at 4 0 ws ≡ 0
  pub most : bound_at 5 no_upper_end ws ≡ no_upper_end
  pub past : past_least ws ≡ ws

plain_front : (w : ℕ) (ws : List ℕ) → (kind_of w ≡ 2 → ⊥) → Plain (w ∷ ws)
plain_front w ws n =
    record {
      least = found.no_bound 4 0 w ws (λ e. n (omega arith));
      most = found.no_bound 5 no_upper_end w ws (λ e. n (omega arith));
      past = found.past_not w ws (λ e. n (omega arith));
    }

-- behind a harvest word the bounds are found as they were written
module _ (l m : ℕ) (ws : List ℕ) (lf : l < 2 ^ 29) (mf : MostFits m) (p : Plain ws) where
  -- the most, with no least before it
  most_back : (bound_at 4 0 (most_words m ++ ws) ≡ 0) × (bound_at 5 no_upper_end (most_words m ++ ws) ≡ m)
      × (past_least (most_words m ++ ws) ≡ most_words m ++ ws)
  most_back = go (eqb m no_upper_end) refl
    where
      go : (t : Bool) → eqb m no_upper_end ≡ t → let vs = pick t [] (bound_word 5 m ∷ []) ++ ws in
          (bound_at 4 0 vs ≡ 0) × (bound_at 5 no_upper_end vs ≡ m) × (past_least vs ≡ vs)
      go true e = (p.least, p.most ∙ sym (eqb-true m no_upper_end e), p.past)
      go false e =
          let f = mf (eqb-false m no_upper_end e) in
          let w = bound_word 5 m in
          let n = bound_mark 5 m f in (
            found.no_bound 4 0 w ws (λ z. omega (arith, n, z)),
            found.is_bound 5 no_upper_end w ws n ∙ bound_amount 5 m f,
            found.past_not w ws (λ z. omega (arith, n, z)),
          )

  abbrev written : List ℕ
  written = least_words l ++ (most_words m ++ ws)

  least_back : (bound_at 4 0 written ≡ l) × (past_least written ≡ most_words m ++ ws)
  least_back = go (eqb l 0) refl
    where
      go : (t : Bool) → eqb l 0 ≡ t → let vs = pick t [] (bound_word 4 l ∷ []) ++ (most_words m ++ ws) in
          (bound_at 4 0 vs ≡ l) × (past_least vs ≡ most_words m ++ ws)
      go true e = (most_back.0 ∙ sym (eqb-true l 0 e), most_back.2)
      go false e =
          let w = bound_word 4 l in
          let n = bound_mark 4 l lf in (
            found.is_bound 4 0 w (most_words m ++ ws) n ∙ bound_amount 4 l lf,
            found.past_is w (most_words m ++ ws) n,
          )

  bounds_back : (h : ℕ) → (least_at h written ≡ l) × (most_at h written ≡ m)
  bounds_back h = (least_back.0, ap (bound_at 5 no_upper_end) least_back.1 ∙ most_back.1)

  -- and no frame is found in them
  skip_bounds : (says : ℕ → List ℕ → ℕ) → each_frame says written ≡ each_frame says ws
  skip_bounds says = least (eqb l 0) ∙ most (eqb m no_upper_end) refl
    where
      least : (t : Bool) →
          each_frame says (pick t [] (bound_word 4 l ∷ []) ++ (most_words m ++ ws)) ≡ each_frame says (most_words m ++ ws)
      least true = refl
      least false =
          found_bound says (bound_word 4 l) (most_words m ++ ws) (bound_kind_lem 4 l lf (omega arith) (omega arith))

      most : (t : Bool) → eqb m no_upper_end ≡ t →
          each_frame says (pick t [] (bound_word 5 m ∷ []) ++ ws) ≡ each_frame says ws
      most true e = refl
      most false e =
          let f = mf (eqb-false m no_upper_end e) in
          found_bound says (bound_word 5 m) ws (bound_kind_lem 5 m f (omega arith) (omega arith))

-- ---- the frames as words

-- one frame, and what is behind it
tail_cons :
    (h : ℕ) (hs : List ℕ) (w : Bounds) (bs : List Bounds) (m : ℕ) →
    tail_words (h ∷ hs) (w ∷ bs) m
    ≡ word_of 1 h ∷ (least_words w.least ++ (most_words w.most ++ tail_words hs bs m))
tail_cons h hs w bs m =
    let ls = least_words w.least in
    let ms = most_words w.most in
    ap (λ (y : List ℕ). word_of 1 h ∷ y)
    (append_assoc (ls ++ ms) (words_of_frames hs bs) (word_of 3 m ∷ []) ∙ append_assoc ls ms (tail_words hs bs m))

-- harvests and bounds that fit their words, as many of the one as of the other
abbrev FrameFits : List ℕ → List Bounds → Type 0
FrameFits hs bs =
    ((i : ℕ) → get_or hs i 0 < 2 ^ 30) × ((i : ℕ) → BoundsFit (get_or bs i absent)) × (length bs ≡ length hs)

fits_later : (h : ℕ) (hs : List ℕ) (w : Bounds) (bs : List Bounds) → FrameFits (h ∷ hs) (w ∷ bs) → FrameFits hs bs
fits_later h hs w bs f = (λ i. f.0 (suc i), λ i. f.1 (suc i), omega (arith, f.2))

module _ (m : ℕ) (l : m < 2 ^ 30) where
  tail_plain : (hs : List ℕ) (bs : List Bounds) → FrameFits hs bs → Plain (tail_words hs bs m)
  tail_plain [] bs f = plain_front (word_of 3 m) [] (λ e. omega arith)
  tail_plain (h ∷ hs) [] f = absurd (omega (arith, f.2))
  tail_plain (h ∷ hs) (w ∷ bs) f =
      let x : h < 2 ^ 30 = f.0 0 in
      rw (tail_cons h hs w bs m)
      (plain_front (word_of 1 h) (least_words w.least ++ (most_words w.most ++ tail_words hs bs m))
      (λ (e : kind_of (word_of 1 h) ≡ 2). omega arith))

  tail_fits : (hs : List ℕ) (bs : List Bounds) → FrameFits hs bs → Below (tail_words hs bs m)
  tail_fits [] bs f = below_cons (word_of 3 m) [] (omega arith) below_none
  tail_fits (h ∷ hs) [] f = absurd (omega (arith, f.2))
  tail_fits (h ∷ hs) (w ∷ bs) f =
      let x : h < 2 ^ 30 = f.0 0 in
      let ls = least_words w.least in
      let ms = most_words w.most in
      let r = tail_fits hs bs (fits_later h hs w bs f) in
      subst Below (sym (tail_cons h hs w bs m))
      (below_cons (word_of 1 h) (ls ++ (ms ++ tail_words hs bs m)) (omega arith)
      (below_append ls (ms ++ tail_words hs bs m) (least_fits w (f.1 0))
      (below_append ms (tail_words hs bs m) (most_fits w (f.1 0)) r)))

  -- they close the file
  tail_form :
      (hs : List ℕ) (bs : List Bounds) (h b i : ℕ) → FrameFits hs bs → h + length hs ≡ m →
      scan (state 3 h b) i (tail_words hs bs m) ≡ Closed (i + length (tail_words hs bs m)) m
  tail_form [] bs h b i f e =
      let w = word_of 3 m in
      let n : suc i ≡ i + 1 = omega arith in
      let d : m ≡ h = omega arith in
      let s = is_end (state 3 h b) w (sym (word_kind 3 m l)) (omega arith) refl (sym (word_value 3 m l)) d in
      next_is (state 3 h b) i w [] End s ∙ cc
  tail_form (x ∷ hs) [] h b i f e = absurd (omega (arith, f.2))
  tail_form (x ∷ hs) (w ∷ bs) h b i f e =
      frame_form x w (tail_words hs bs m) (f.0 0) (f.1 0) h b i (tail_words (x ∷ hs) (w ∷ bs) m)
      (tail_cons x hs w bs m) (λ c j. tail_form hs bs (h + 1) c j (fits_later x hs w bs f) (omega arith))
    where
      frame_form :
          (x : ℕ) (w : Bounds) (rest : List ℕ) → x < 2 ^ 30 → BoundsFit w → (h b i : ℕ) (all : List ℕ) →
          all ≡ word_of 1 x ∷ (least_words w.least ++ (most_words w.most ++ rest)) →
          ((c j : ℕ) → scan (state 3 (h + 1) c) j rest ≡ Closed (j + length rest) m) →
          scan (state 3 h b) i all ≡ Closed (i + length all) m
      frame_form x w rest hx hw h b i all q r =
          let ls = least_words w.least in
          let ms = most_words w.most in
          let at = suc i + length ls in
          let n : at + length ms + length rest ≡ i + length all =
          omega (arith, ap length q, length-append ls (ms ++ rest), length-append ms rest) in
          let s = is_harvest (state 3 h b) (word_of 1 x) (sym (word_kind 1 x hx)) (omega arith) refl in
          ap (scan (state 3 h b) i) q
          ∙ (next_is (state 3 h b) i (word_of 1 x) (ls ++ (ms ++ rest)) (On (state 3 (h + 1) 4)) s
          ∙ scan_least (h + 1) (suc i) (ms ++ rest) (Closed (i + length all) m) w.least 4 hw.0 (omega arith)
          (λ c k. scan_most (h + 1) at rest (Closed (i + length all) m) w.most c hw.1 k
          (λ d. r d (at + length ms) ∙ ap (λ (z : ℕ). Closed z m) n)))

  -- one frame is found, and then those behind it
  tail_more :
      (says : ℕ → List ℕ → ℕ) (h : ℕ) (hs : List ℕ) (w : Bounds) (bs : List Bounds) →
      FrameFits (h ∷ hs) (w ∷ bs) →
      each_frame says (tail_words (h ∷ hs) (w ∷ bs) m)
      ≡ says (word_of 1 h) (least_words w.least ++ (most_words w.most ++ tail_words hs bs m))
      ∷ each_frame says (tail_words hs bs m)
  tail_more says h hs w bs f =
      let t = tail_words hs bs m in
      let p = tail_plain hs bs (fits_later h hs w bs f) in
      let vs = least_words w.least ++ (most_words w.most ++ t) in
      ap (each_frame says) (tail_cons h hs w bs m)
      ∙ (found_harvest says (word_of 1 h) vs (word_kind 1 h (f.0 0))
      ∙ ap (λ (y : List ℕ). says (word_of 1 h) vs ∷ y)
      (skip_bounds w.least w.most t (f.1 0).0 (f.1 0).1 p says))

  tail_harvests : (hs : List ℕ) (bs : List Bounds) → FrameFits hs bs → harvests_in (tail_words hs bs m) ≡ hs
  tail_harvests [] bs f = found_end harvest_at (word_of 3 m) [] (word_kind 3 m l)
  tail_harvests (h ∷ hs) [] f = absurd (omega (arith, f.2))
  tail_harvests (h ∷ hs) (w ∷ bs) f =
      let v = word_value 1 h (f.0 0) in
      let r = tail_harvests hs bs (fits_later h hs w bs f) in
      tail_more harvest_at h hs w bs f ∙ cc

  tail_bounds : (hs : List ℕ) (bs : List Bounds) → FrameFits hs bs → bounds_in (tail_words hs bs m) ≡ bs
  tail_bounds [] [] f = rw (found_end least_at (word_of 3 m) [] (word_kind 3 m l))
  tail_bounds [] (w ∷ bs) f = absurd (omega (arith, f.2))
  tail_bounds (h ∷ hs) [] f = absurd (omega (arith, f.2))
  tail_bounds (h ∷ hs) (w ∷ bs) f =
      let t = tail_words hs bs m in
      let g = fits_later h hs w bs f in
      let v = bounds_back w.least w.most t (f.1 0).0 (f.1 0).1 (tail_plain hs bs g) (word_of 1 h) in
      let r = tail_bounds hs bs g in
      rw (tail_more least_at h hs w bs f, tail_more most_at h hs w bs f, v.0, v.1, r)

-- ---- the file

-- words that each say something
abbrev Saying : List ℕ → Type 0
Saying ws = pithy ws ≡ ws

saying_cons : (w : ℕ) (ws : List ℕ) → (w ≡ bound_word 4 0 → ⊥) → Saying ws → Saying (w ∷ ws)
saying_cons w ws n e = pithy_keep w ws n ∙ ap (λ (y : List ℕ). w ∷ y) e

saying_least : (l : ℕ) (ws : List ℕ) → Saying ws → Saying (least_words l ++ ws)
saying_least l ws e = go (eqb l 0) refl
  where
    go : (t : Bool) → eqb l 0 ≡ t → Saying (pick t [] (bound_word 4 l ∷ []) ++ ws)
    go true q = e
    go false q =
        let n = eqb-false l 0 q in
        saying_cons (bound_word 4 l) ws (λ (z : bound_word 4 l ≡ bound_word 4 0). n (omega arith)) e

saying_most : (m : ℕ) (ws : List ℕ) → Saying ws → Saying (most_words m ++ ws)
saying_most m ws e = go (eqb m no_upper_end)
  where
    go : (t : Bool) → Saying (pick t [] (bound_word 5 m ∷ []) ++ ws)
    go true = e
    go false = saying_cons (bound_word 5 m) ws (λ (z : bound_word 5 m ≡ bound_word 4 0). omega arith) e

tail_saying :
    (m : ℕ) (hs : List ℕ) (bs : List Bounds) → FrameFits hs bs → Saying (tail_words hs bs m)
tail_saying m [] bs f = saying_cons (word_of 3 m) [] (λ (z : word_of 3 m ≡ bound_word 4 0). omega arith) refl
tail_saying m (h ∷ hs) [] f = absurd (omega (arith, f.2))
tail_saying m (h ∷ hs) (w ∷ bs) f =
    let x : h < 2 ^ 30 = f.0 0 in
    let ms = most_words w.most in
    let r = tail_saying m hs bs (fits_later h hs w bs f) in
    subst Saying (sym (tail_cons h hs w bs m))
    (saying_cons (word_of 1 h) (least_words w.least ++ (ms ++ tail_words hs bs m))
    (λ (z : word_of 1 h ≡ bound_word 4 0). omega arith)
    (saying_least w.least (ms ++ tail_words hs bs m) (saying_most w.most (tail_words hs bs m) r)))

-- the file of a request that fits, with bounds for each frame
module _ (q : Request) (f : Fits q) (each : length q.bounds ≡ frame_count q) where
  abbrev behind : List ℕ
  behind = tail_words q.harvest q.bounds (frame_count q)

  frames_fit : FrameFits q.harvest q.bounds
  frames_fit = (f.1.0, f.1.1, each)

  words_fit : Below (file_words q)
  words_fit =
      let g = q.figures in
      let s = word_of 0 g.start in
      let e = word_of 0 g.end in
      below_cons (word_of 0 g.capacity) (s ∷ e ∷ behind) (omega (arith, f.0))
      (below_cons s (e ∷ behind) (omega (arith, f.0))
      (below_cons e behind (omega (arith, f.0))
      (tail_fits (frame_count q) f.1.2 q.harvest q.bounds frames_fit)))

  -- a figure's word: the machine goes on, no frame is found in it, and it says something
  step :
      (n i v : ℕ) (ws : List ℕ) → n < 3 → v < 2 ^ 30 →
      scan (state n 0 6) i (word_of 0 v ∷ ws) ≡ scan (state (n + 1) 0 6) (suc i) ws
  step n i v ws l h =
      let w = word_of 0 v in
      next_is (state n 0 6) i w ws (On (state (n + 1) 0 6))
      (is_figure (state n 0 6) w (sym (word_kind 0 v h)) l refl)

  skip : (says : ℕ → List ℕ → ℕ) → each_frame says (file_words q) ≡ each_frame says behind
  skip says =
      let g = q.figures in
      let s = word_of 0 g.start in
      let e = word_of 0 g.end in
      one g.capacity (s ∷ e ∷ behind) f.0.0
      ∙ (one g.start (e ∷ behind) f.0.1 ∙ one g.end behind f.0.2)
    where
      one : (v : ℕ) (ws : List ℕ) → v < 2 ^ 30 → each_frame says (word_of 0 v ∷ ws) ≡ each_frame says ws
      one v ws h = found_figure says (word_of 0 v) ws (word_kind 0 v h)

  says : (v : ℕ) (ws : List ℕ) → v < 2 ^ 30 → Saying ws → Saying (word_of 0 v ∷ ws)
  says v ws h e = saying_cons (word_of 0 v) ws (λ (z : word_of 0 v ≡ bound_word 4 0). omega arith) e

  -- it closes with its last word
  file_form : form_of (file_words q) ≡ Closed (length (file_words q)) (frame_count q)
  file_form =
      let g = q.figures in
      let s = word_of 0 g.start in
      let e = word_of 0 g.end in
      let p : 3 + length behind ≡ length (file_words q) = omega arith in
      step 0 0 g.capacity (s ∷ e ∷ behind) (omega arith) f.0.0
      ∙ (step 1 1 g.start (e ∷ behind) (omega arith) f.0.1
      ∙ (step 2 2 g.end behind (omega arith) f.0.2
      ∙ (tail_form (frame_count q) f.1.2 q.harvest q.bounds 0 6 3 frames_fit (omega arith)
      ∙ ap (λ (z : ℕ). Closed z (frame_count q)) p)))

  -- the request in its words
  file_request : request_of (file_words q) ≡ q
  file_request =
      let g = q.figures in
      let h : harvests_in (file_words q) ≡ q.harvest =
      skip harvest_at ∙ tail_harvests (frame_count q) f.1.2 q.harvest q.bounds frames_fit in
      let b : bounds_in (file_words q) ≡ q.bounds =
      rw (skip least_at, skip most_at) (tail_bounds (frame_count q) f.1.2 q.harvest q.bounds frames_fit) in
      let v = word_value 0 in
      let e : figures_in (file_words q) ≡ q.figures =
      rw (v g.capacity f.0.0, v g.start f.0.1, v g.end f.0.2) refl in
      ap (λ (x : Figures). made x (harvests_in (file_words q)) (bounds_in (file_words q))) e
      ∙ (ap (λ (x : List ℕ). made q.figures x (bounds_in (file_words q))) h
      ∙ ap (λ (x : List Bounds). made q.figures q.harvest x) b)
    where
      made : Figures → List ℕ → List Bounds → Request
      made x hs bs = record { figures = x; harvest = hs; bounds = bs }

  -- what the reader finds: its words, its form, and the request; each word says something
  pub record Back : Type 0 where
    pub words : words_of (file_bytes q) ≡ file_words q
    pub form : form_of (words_of (file_bytes q)) ≡ Closed (length (file_words q)) (frame_count q)
    pub request : request_in (file_bytes q) ≡ q
    pub saying : pithy (words_of (file_bytes q)) ≡ words_of (file_bytes q)

  pub file_back : Back
  file_back =
      let g = q.figures in
      let s = word_of 0 g.start in
      let e = word_of 0 g.end in
      let w : words_of (file_bytes q) ≡ file_words q = words_back (file_words q) words_fit in
      let t = tail_saying (frame_count q) q.harvest q.bounds frames_fit in
      let p = says g.capacity (s ∷ e ∷ behind) f.0.0
      (says g.start (e ∷ behind) f.0.1 (says g.end behind f.0.2 t)) in
      record {
        words = w;
        form = ap form_of w ∙ file_form;
        request = ap request_of w ∙ file_request;
        saying = ap pithy w ∙ (p ∙ sym w);
      }
