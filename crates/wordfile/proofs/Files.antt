-- A file that closed is, its words that say nothing left out, the file of its request: the machine that says where it
-- closed and the definition that looks behind each harvest word meet in one induction over its words (`ends`).
use mathlib.Core.Path.{◌≡◌, refl, sym, ap, ◌∙◌}
use mathlib.Core.Bool.{Bool, true, false}
use mathlib.Core.List.{List, [], ◌∷◌, ◌++◌, append_assoc}
use Prim.Native.Nat.{ℕ, suc, ◌+◌, ◌*◌, ◌/◌, ◌≤◌, ◌<◌}
use native.Mathlib.Omega.{arith}
use lib.Dec.{eqb, ltb}
use borrow.Author.Tests.{le-ltb, eq-eqb, ne_eqb, eqb-true, eqb-false}
use lib.ListN.{length, take}
use lib.Seq.{take_all}
use Rattle.model.specs.Choice.{pick}
use Rattle.model.specs.Limits.{no_upper_end}
use Rattle.model.specs.Request.{Bounds, bounds_of}
use Rattle.words.specs.Words.{kind_of, value_in, word_of, mark_of, amount_in, bound_word, bytes_of, words_of}
use Rattle.words.proofs.Bytes.{words_length}
use Rattle.wordfile.specs.Form.{figure_count, state, scan, form_of}
use Rattle.wordfile.specs.File.{bound_at, past_least, harvest_at, least_at, most_at, harvests_in, leasts_in, mosts_in}
use Rattle.wordfile.specs.File.{request_of, request_in, least_words, most_words, words_of_frames, file_words, file_bytes}
use Rattle.wordfile.specs.File.{pithy}
use Rattle.wordfile.specs.declared.form.Step.TheVariants.{On, End, Wrong}
use Rattle.wordfile.specs.Form.{Closed, Broken}
use Rattle.wordfile.proofs.Machine.{Did, figure, harvest, bound, ended, broke, did, next_is}
use Rattle.wordfile.proofs.Found.{found_end, found_harvest, found_figure, found_bound}

-- no form is both closed and broken
clash : {A : Type 0} (p n k : ℕ) → Broken p ≡ Closed n k → A
clash p n k e = let z : ◌≡◌ {A = ℕ} 0 1 = cc in let b : ⊥ = omega arith in absurd b

-- ---- words that say nothing left out

pub pithy_keep : (w : ℕ) (ws : List ℕ) → (w ≡ bound_word 4 0 → ⊥) → pithy (w ∷ ws) ≡ w ∷ pithy ws
pithy_keep w ws n = rw (ne_eqb w (bound_word 4 0) n)

-- a least is left out where it is 0
pithy_least : (w : ℕ) (ws : List ℕ) → mark_of w ≡ 4 → pithy (w ∷ ws) ≡ least_words (amount_in w) ++ pithy ws
pithy_least w ws e = go (eqb (amount_in w) 0) refl
  where
    go : (t : Bool) → eqb (amount_in w) 0 ≡ t → pithy (w ∷ ws) ≡ pick t [] (bound_word 4 (amount_in w) ∷ []) ++ pithy ws
    go true q =
        let a = eqb-true (amount_in w) 0 q in
        let z : w ≡ bound_word 4 0 = omega arith in
        rw (eq-eqb w (bound_word 4 0) z)
    go false q =
        let a = eqb-false (amount_in w) 0 q in
        let z : w ≡ bound_word 4 (amount_in w) = omega arith in
        pithy_keep w ws (λ (y : w ≡ bound_word 4 0). a (omega arith)) ∙ ap (λ (y : ℕ). y ∷ pithy ws) z

-- ---- the bounds that may still come

-- those of mark b and above at the front of words, as the writer puts them
abbrev lead : ℕ → List ℕ → List ℕ
lead b ws =
    pick (ltb 5 b)
    []
    (pick (ltb 4 b)
    (most_words (bound_at 5 no_upper_end ws))
    (least_words (bound_at 4 0 ws) ++ most_words (bound_at 5 no_upper_end (past_least ws))))

module _ (b w : ℕ) (ws : List ℕ) where
  -- no bound is at the front
  lead_none : (kind_of w ≡ 2 → ⊥) → lead b (w ∷ ws) ≡ []
  lead_none n =
      let p = ne_eqb (mark_of w) 5 (λ (z : mark_of w ≡ 5). n (omega arith)) in
      let q = ne_eqb (mark_of w) 4 (λ (z : mark_of w ≡ 4). n (omega arith)) in
      rw (q, p) (go (ltb 5 b) (ltb 4 b))
    where
      go : (t u : Bool) → ◌≡◌ {A = List ℕ} (pick t [] (pick u [] [])) []
      go true u = refl
      go false true = refl
      go false false = refl

  -- a least is
  lead_least : b ≤ 4 → mark_of w ≡ 4 →
      lead b (w ∷ ws) ≡ least_words (amount_in w) ++ most_words (bound_at 5 no_upper_end ws)
  lead_least l e = rw (le-ltb 5 b (omega arith), le-ltb 4 b l, eq-eqb (mark_of w) 4 e)

  -- a most is; its amount is an upper end, since it has 29 bits
  lead_most : b ≤ 5 → mark_of w ≡ 5 → lead b (w ∷ ws) ≡ bound_word 5 (amount_in w) ∷ []
  lead_most l e =
      let p = ne_eqb (mark_of w) 4 (λ (z : mark_of w ≡ 4). omega arith) in
      let q = ne_eqb (amount_in w) no_upper_end (λ (z : amount_in w ≡ no_upper_end). omega arith) in
      rw (le-ltb 5 b l, p, eq-eqb (mark_of w) 5 e, q) (go (ltb 4 b))
    where
      go : (u : Bool) →
          pick u (bound_word 5 (amount_in w) ∷ []) (bound_word 5 (amount_in w) ∷ []) ≡ bound_word 5 (amount_in w) ∷ []
      go true = refl
      go false = refl

-- ---- the words behind the figures

-- the frames, and an end word that says k
abbrev pub tail_words : List ℕ → List Bounds → ℕ → List ℕ
tail_words hs bs k = words_of_frames hs bs ++ (word_of 3 k ∷ [])

-- those of the frames found in words
abbrev pub bounds_in : List ℕ → List Bounds
bounds_in ws = bounds_of (leasts_in ws) (mosts_in ws)

abbrev tail_in : List ℕ → ℕ → List ℕ
tail_in ws k = tail_words (harvests_in ws) (bounds_in ws) k

module _ (w : ℕ) (ws : List ℕ) (k : ℕ) where
  tail_end : kind_of w ≡ 3 → tail_in (w ∷ ws) k ≡ word_of 3 k ∷ []
  tail_end z = rw (found_end harvest_at w ws z)

  tail_harvest : kind_of w ≡ 1 → tail_in (w ∷ ws) k ≡ word_of 1 (value_in w) ∷ (lead 4 ws ++ tail_in ws k)
  tail_harvest z =
      rw (found_harvest harvest_at w ws z, found_harvest least_at w ws z, found_harvest most_at w ws z)
      (ap (λ (y : List ℕ). word_of 1 (value_in w) ∷ y)
      (append_assoc (lead 4 ws) (words_of_frames (harvests_in ws) (bounds_in ws)) (word_of 3 k ∷ [])))

  tail_bound : kind_of w ≡ 2 → tail_in (w ∷ ws) k ≡ tail_in ws k
  tail_bound z = rw (found_bound harvest_at w ws z, found_bound least_at w ws z, found_bound most_at w ws z)

  tail_figure : kind_of w ≡ 0 → tail_in (w ∷ ws) k ≡ tail_in ws k
  tail_figure z = rw (found_figure harvest_at w ws z, found_figure least_at w ws z, found_figure most_at w ws z)

-- behind the figures, the words taken are those of the frames found
record Ends (h b i n k : ℕ) (ws : List ℕ) : Type 0 where
  pub taken : ℕ
  pub place : n ≡ i + taken
  pub within : taken ≤ length ws
  pub frames : k ≡ h + length (harvests_in ws)
  pub words : pithy (take taken ws) ≡ lead b ws ++ tail_in ws k

module _ (h b i n k w : ℕ) (ws : List ℕ) where
  ends_harvest : kind_of w ≡ 1 → Ends (h + 1) 4 (suc i) n k ws → Ends h b i n k (w ∷ ws)
  ends_harvest z r =
      let a : w ≡ word_of 1 (value_in w) = omega arith in
      let none = lead_none b w ws (λ (y : kind_of w ≡ 2). omega arith) in
      record {
        taken = suc r.taken;
        place = omega (arith, r.place);
        within = omega (arith, r.within);
        frames = omega (arith, r.frames, ap length (found_harvest harvest_at w ws z));
        words =
            pithy_keep w (take r.taken ws) (λ (y : w ≡ bound_word 4 0). omega arith)
            ∙ (ap (λ (y : List ℕ). w ∷ y) r.words
            ∙ (ap (λ (y : ℕ). y ∷ (lead 4 ws ++ tail_in ws k)) a
            ∙ (sym (tail_harvest w ws k z) ∙ ap (λ (y : List ℕ). y ++ tail_in (w ∷ ws) k) (sym none))));
      }

  ends_least : b ≤ 4 → mark_of w ≡ 4 → Ends h 5 (suc i) n k ws → Ends h b i n k (w ∷ ws)
  ends_least l e r =
      let z : kind_of w ≡ 2 = omega arith in
      let least = least_words (amount_in w) in
      let most = most_words (bound_at 5 no_upper_end ws) in
      record {
        taken = suc r.taken;
        place = omega (arith, r.place);
        within = omega (arith, r.within);
        frames = omega (arith, r.frames, ap length (found_bound harvest_at w ws z));
        words =
            pithy_least w (take r.taken ws) e
            ∙ (ap (λ (y : List ℕ). least ++ y) r.words
            ∙ (sym (append_assoc least most (tail_in ws k))
            ∙ (ap (λ (y : List ℕ). y ++ tail_in ws k) (sym (lead_least b w ws l e))
            ∙ ap (λ (y : List ℕ). lead b (w ∷ ws) ++ y) (sym (tail_bound w ws k z)))));
      }

  ends_most : b ≤ 5 → mark_of w ≡ 5 → Ends h 6 (suc i) n k ws → Ends h b i n k (w ∷ ws)
  ends_most l e r =
      let z : kind_of w ≡ 2 = omega arith in
      let a : w ≡ bound_word 5 (amount_in w) = omega arith in
      record {
        taken = suc r.taken;
        place = omega (arith, r.place);
        within = omega (arith, r.within);
        frames = omega (arith, r.frames, ap length (found_bound harvest_at w ws z));
        words =
            pithy_keep w (take r.taken ws) (λ (y : w ≡ bound_word 4 0). omega arith)
            ∙ (ap (λ (y : List ℕ). w ∷ y) r.words
            ∙ (ap (λ (y : ℕ). y ∷ tail_in ws k) a
            ∙ (ap (λ (y : List ℕ). y ++ tail_in ws k) (sym (lead_most b w ws l e))
            ∙ ap (λ (y : List ℕ). lead b (w ∷ ws) ++ y) (sym (tail_bound w ws k z)))));
      }

  ends_here : kind_of w ≡ 3 → value_in w ≡ h → Closed (suc i) h ≡ Closed n k → Ends h b i n k (w ∷ ws)
  ends_here z v e =
      let c : suc i ≡ n = cc in
      let d : h ≡ k = cc in
      let a : w ≡ word_of 3 k = omega arith in
      let none = lead_none b w ws (λ (y : kind_of w ≡ 2). omega arith) in
      record {
        taken = 1;
        place = omega arith;
        within = omega arith;
        frames = omega (arith, ap length (found_end harvest_at w ws z));
        words =
            pithy_keep w [] (λ (y : w ≡ bound_word 4 0). omega arith)
            ∙ (ap (λ (y : ℕ). y ∷ []) a
            ∙ (sym (tail_end w ws k z) ∙ ap (λ (y : List ℕ). y ++ tail_in (w ∷ ws) k) (sym none)));
      }

  -- a bound that follows in its order
  ends_bound :
      kind_of w ≡ 2 → b ≤ mark_of w → Ends h (mark_of w + 1) (suc i) n k ws → Ends h b i n k (w ∷ ws)
  ends_bound z l r = go (eqb (mark_of w) 4) refl
    where
      go : (t : Bool) → eqb (mark_of w) 4 ≡ t → Ends h b i n k (w ∷ ws)
      go true q =
          let e = eqb-true (mark_of w) 4 q in
          let r' : Ends h 5 (suc i) n k ws = rw e at r in
          ends_least (omega arith) e r'
      go false q =
          let f = eqb-false (mark_of w) 4 q in
          let e : mark_of w ≡ 5 = omega arith in
          let r' : Ends h 6 (suc i) n k ws = rw e at r in
          ends_most (omega arith) e r'

ends : (h b i n k : ℕ) (ws : List ℕ) → scan (state 3 h b) i ws ≡ Closed n k → Ends h b i n k ws
ends h b i n k [] e = clash i n k e
ends h b i n k (w ∷ ws) e =
    by h b i n k w ws e (λ g c z. ends g c (suc i) n k ws z) (did (state 3 h b) w)
  where
    by :
        (h b i n k w : ℕ) (ws : List ℕ) → scan (state 3 h b) i (w ∷ ws) ≡ Closed n k →
        ((g c : ℕ) → scan (state 3 g c) (suc i) ws ≡ Closed n k → Ends g c (suc i) n k ws) → Did (state 3 h b) w →
        Ends h b i n k (w ∷ ws)
    by h b i n k w ws e ih (figure l z q) = absurd (omega arith)
    by h b i n k w ws e ih (harvest l z q) =
        ends_harvest h b i n k w ws z
        (ih (h + 1) 4 (sym (next_is (state 3 h b) i w ws (On (state 3 (h + 1) 4)) q) ∙ e))
    by h b i n k w ws e ih (bound l z m q) =
        let c = mark_of w + 1 in
        ends_bound h b i n k w ws z m (ih h c (sym (next_is (state 3 h b) i w ws (On (state 3 h c)) q) ∙ e))
    by h b i n k w ws e ih (ended l z v q) =
        ends_here h b i n k w ws z v (sym (next_is (state 3 h b) i w ws End q) ∙ e)
    by h b i n k w ws e ih (broke q) = clash i n k (sym (next_is (state 3 h b) i w ws Wrong q) ∙ e)

-- a file's figure: kind 0, and the machine goes on
figure_part :
    (f i n k w : ℕ) (ws : List ℕ) → f < 3 → scan (state f 0 6) i (w ∷ ws) ≡ Closed n k →
    (kind_of w ≡ 0) × (scan (state (f + 1) 0 6) (suc i) ws ≡ Closed n k)
figure_part f i n k w ws l e = by (did (state f 0 6) w)
  where
    by : Did (state f 0 6) w → (kind_of w ≡ 0) × (scan (state (f + 1) 0 6) (suc i) ws ≡ Closed n k)
    by (figure m z q) = (z, sym (next_is (state f 0 6) i w ws (On (state (f + 1) 0 6)) q) ∙ e)
    by (harvest m z q) = absurd (omega arith)
    by (bound m z r q) = absurd (omega arith)
    by (ended m z v q) = absurd (omega arith)
    by (broke q) = clash i n k (sym (next_is (state f 0 6) i w ws Wrong q) ∙ e)

-- words that closed after n of them, with k frames
pub record IsFile (ws : List ℕ) (n k : ℕ) : Type 0 where
  pub least : figure_count ≤ length ws
  pub within : n ≤ length ws
  pub frames : k ≡ length (harvests_in ws)
  pub words : pithy (take n ws) ≡ file_words (request_of ws)

-- the figures, and what ends the file, are the words of its request
file_from :
    (a b d n k : ℕ) (ws : List ℕ) → kind_of a ≡ 0 → kind_of b ≡ 0 → kind_of d ≡ 0 → Ends 0 6 3 n k ws →
    IsFile (a ∷ b ∷ d ∷ ws) n k
file_from a b d n k ws ka kb kd r =
    let all = a ∷ b ∷ d ∷ ws in
    let rest = take r.taken ws in
    let e : n ≡ suc (suc (suc r.taken)) = omega (arith, r.place) in
    let va : a ≡ word_of 0 (value_in a) = omega arith in
    let vb : b ≡ word_of 0 (value_in b) = omega arith in
    let vd : d ≡ word_of 0 (value_in d) = omega arith in
    let p = pithy_keep a (b ∷ d ∷ rest) (λ (y : a ≡ bound_word 4 0). omega arith) in
    let q = pithy_keep b (d ∷ rest) (λ (y : b ≡ bound_word 4 0). omega arith) in
    let s = pithy_keep d rest (λ (y : d ≡ bound_word 4 0). omega arith) in
    let f : harvests_in all ≡ harvests_in ws =
    found_figure harvest_at a (b ∷ d ∷ ws) ka
    ∙ (found_figure harvest_at b (d ∷ ws) kb ∙ found_figure harvest_at d ws kd) in
    let m : k ≡ length (harvests_in all) = omega (arith, r.frames, ap length f) in
    let t : tail_in ws k ≡ tail_in all k =
    sym (tail_figure a (b ∷ d ∷ ws) k ka ∙ (tail_figure b (d ∷ ws) k kb ∙ tail_figure d ws k kd)) in
    let w = r.words ∙ (t ∙ ap (tail_in all) m) in
    record {
      least = omega arith;
      within = omega (arith, r.within);
      frames = m;
      words = ap (λ (z : ℕ). pithy (take z all)) e ∙ behind p q s va vb vd w;
    }
  where
    behind :
        {a b d a' b' d' : ℕ} {x y z ws ws' : List ℕ} → x ≡ a ∷ y → y ≡ b ∷ z → z ≡ d ∷ ws → a ≡ a' → b ≡ b' → d ≡ d' →
        ws ≡ ws' → x ≡ a' ∷ b' ∷ d' ∷ ws'
    behind u v w p q r s = cc

pub closed_is : (ws : List ℕ) (n k : ℕ) → form_of ws ≡ Closed n k → IsFile ws n k
closed_is [] n k e = clash 0 n k e
closed_is (a ∷ []) n k e = clash 1 n k (figure_part 0 0 n k a [] (omega arith) e).1
closed_is (a ∷ (b ∷ [])) n k e =
    let p = figure_part 0 0 n k a (b ∷ []) (omega arith) e in
    clash 2 n k (figure_part 1 1 n k b [] (omega arith) p.1).1
closed_is (a ∷ (b ∷ (d ∷ ws))) n k e =
    let p = figure_part 0 0 n k a (b ∷ (d ∷ ws)) (omega arith) e in
    let q = figure_part 1 1 n k b (d ∷ ws) (omega arith) p.1 in
    let r = figure_part 2 2 n k d ws (omega arith) q.1 in
    file_from a b d n k ws p.0 q.0 r.0 (ends 0 6 3 n k ws r.1)

-- a file of bytes that closed with its last word has whole words; those that say nothing left out, they are the file of
-- its request
pub record IsBytes (s : List ℕ) : Type 0 where
  pub whole : length s ≡ 4 * (length s / 4)
  pub file : file_bytes (request_in s) ≡ bytes_of (pithy (words_of s))

pub accepted_file :
    (s : List ℕ) (n k : ℕ) → form_of (words_of s) ≡ Closed n k → length s ≤ 4 * n → IsBytes s
accepted_file s n k e l =
    let f = closed_is (words_of s) n k e in
    let m : n ≤ length s / 4 = omega (arith, f.within, words_length s) in
    let all : take n (words_of s) ≡ words_of s = take_all n (words_of s) (omega (arith, words_length s)) in
    record { whole = omega arith; file = ap bytes_of (sym f.words ∙ ap pithy all) }
