-- The machine over the words: what each word does to it, and one step of it.
use mathlib.Core.Path.{◌≡◌, refl, sym, ap, ◌∙◌}
use mathlib.Core.Bool.{Bool, true, false}
use mathlib.Core.List.{List, [], ◌∷◌}
use Prim.Native.Nat.{ℕ, suc, ◌+◌, ◌≤◌, ◌<◌}
use native.Mathlib.Omega.{arith}
use native.Mathlib.Decide.{dec_lt}
use lib.Dec.{eqb, ltb}
use borrow.Author.Tests.{lt-ltb, le-ltb, eq-eqb, ne_eqb, ltb-true, ltb-false, eqb-true, eqb-false}
use lib.ListN.{length, get_or, drop, drop_of_length-le}
use lib.Seq.{drop-cons}
use Rattle.model.specs.Choice.{pick}
use Rattle.words.specs.Words.{kind_of, value_in, mark_of}
use Rattle.wordfile.specs.Form.{state, bound_step, step_of, scan, place_in}
use Rattle.wordfile.specs.declared.form.State.{State}
use Rattle.wordfile.specs.declared.form.Step.{Step}
use Rattle.wordfile.specs.declared.form.Step.TheVariants.{On, End, Wrong}
use Rattle.wordfile.specs.Form.{Form, Closed, Broken}
use Rattle.std.specs.Prelude.{Ok}
use Rattle.wordfile.specs.declared.form.Closed.{Closed as ClosedFile}
use Rattle.wordfile.specs.Says.{scanned}

-- what a bound does, by the test that the code makes of its mark m
module _ (s : State) (w : ℕ) {m : ℕ} (mark : m ≡ mark_of w) where
  pub bound_late : m < s.mark → Wrong ≡ bound_step s w
  bound_late l = rw (lt-ltb (mark_of w) s.mark (omega arith))

  pub bound_next : s.mark ≤ m → On (state s.figures s.frames (m + 1)) ≡ bound_step s w
  bound_next l = rw (mark, le-ltb (mark_of w) s.mark (omega arith))

-- what a word does, by the tests that the code makes of its kind k and its value v
module _ (s : State) (w : ℕ) {k : ℕ} (kind : k ≡ kind_of w) where
  pub is_figure : s.figures < 3 → k ≡ 0 → On (state (s.figures + 1) s.frames s.mark) ≡ step_of s w
  is_figure l e = rw (lt-ltb s.figures 3 l, eq-eqb (kind_of w) 0 (sym kind ∙ e))

  pub no_figure : s.figures < 3 → (k ≡ 0 → ⊥) → Wrong ≡ step_of s w
  no_figure l e = rw (lt-ltb s.figures 3 l, ne_eqb (kind_of w) 0 (λ z. e (kind ∙ z)))

  module _ (l : 3 ≤ s.figures) where
    pub is_harvest : k ≡ 1 → On (state s.figures (s.frames + 1) 4) ≡ step_of s w
    is_harvest e = rw (le-ltb s.figures 3 l, eq-eqb (kind_of w) 1 (sym kind ∙ e))

    pub is_bound : k ≡ 2 → bound_step s w ≡ step_of s w
    is_bound e =
        let n = ne_eqb (kind_of w) 1 (λ (z : kind_of w ≡ 1). omega arith) in
        rw (le-ltb s.figures 3 l, n, eq-eqb (kind_of w) 2 (sym kind ∙ e))

    pub other_kind : (k ≡ 1 → ⊥) → (k ≡ 2 → ⊥) → (k ≡ 3 → ⊥) → Wrong ≡ step_of s w
    other_kind a b c =
        rw (
          le-ltb s.figures 3 l,
          ne_eqb (kind_of w) 1 (λ z. a (kind ∙ z)),
          ne_eqb (kind_of w) 2 (λ z. b (kind ∙ z)),
          ne_eqb (kind_of w) 3 (λ z. c (kind ∙ z)),
        )

    -- a word of kind 3
    module _ (e : k ≡ 3) {v : ℕ} (value : v ≡ value_in w) where
      three : (t : Bool) → eqb (value_in w) s.frames ≡ t → pick t End Wrong ≡ step_of s w
      three t q =
          let n = ne_eqb (kind_of w) 1 (λ (z : kind_of w ≡ 1). omega arith) in
          let o = ne_eqb (kind_of w) 2 (λ (z : kind_of w ≡ 2). omega arith) in
          rw (le-ltb s.figures 3 l, n, o, eq-eqb (kind_of w) 3 (sym kind ∙ e), q)

      pub is_end : v ≡ s.frames → End ≡ step_of s w
      is_end m = three true (eq-eqb (value_in w) s.frames (sym value ∙ m))

      pub no_end : (v ≡ s.frames → ⊥) → Wrong ≡ step_of s w
      no_end m = three false (ne_eqb (value_in w) s.frames (λ z. m (value ∙ z)))

-- what a word did, with the facts of each case
pub data Did (s : State) (w : ℕ) : Type 0 where
  figure : s.figures < 3 → kind_of w ≡ 0 → On (state (s.figures + 1) s.frames s.mark) ≡ step_of s w → Did s w
  harvest : 3 ≤ s.figures → kind_of w ≡ 1 → On (state s.figures (s.frames + 1) 4) ≡ step_of s w → Did s w
  bound :
      3 ≤ s.figures → kind_of w ≡ 2 → s.mark ≤ mark_of w → On (state s.figures s.frames (mark_of w + 1)) ≡ step_of s w →
      Did s w
  ended : 3 ≤ s.figures → kind_of w ≡ 3 → value_in w ≡ s.frames → End ≡ step_of s w → Did s w
  broke : Wrong ≡ step_of s w → Did s w

module _ (s : State) (w : ℕ) where
  did_first : s.figures < 3 → (a : Bool) → eqb (kind_of w) 0 ≡ a → Did s w
  did_first l true q = let z = eqb-true (kind_of w) 0 q in figure l z (is_figure s w refl l z)
  did_first l false q = broke (no_figure s w refl l (eqb-false (kind_of w) 0 q))

  module _ (l : 3 ≤ s.figures) where
    did_bound : kind_of w ≡ 2 → (t : Bool) → ltb (mark_of w) s.mark ≡ t → Did s w
    did_bound z true q = broke (bound_late s w refl (ltb-true (mark_of w) s.mark q) ∙ is_bound s w refl l z)
    did_bound z false q =
        let m = ltb-false (mark_of w) s.mark q in
        bound l z m (bound_next s w refl m ∙ is_bound s w refl l z)

    did_end : kind_of w ≡ 3 → (t : Bool) → eqb (value_in w) s.frames ≡ t → Did s w
    did_end z true q =
        let v = eqb-true (value_in w) s.frames q in
        ended l z v (is_end s w refl l z refl v)
    did_end z false q = broke (no_end s w refl l z refl (eqb-false (value_in w) s.frames q))

    did_later :
        (a : Bool) → eqb (kind_of w) 1 ≡ a → (b : Bool) → eqb (kind_of w) 2 ≡ b → (c : Bool) → eqb (kind_of w) 3 ≡ c →
        Did s w
    did_later true x b y c z = let k = eqb-true (kind_of w) 1 x in harvest l k (is_harvest s w refl l k)
    did_later false x true y c z = did_bound (eqb-true (kind_of w) 2 y) (ltb (mark_of w) s.mark) refl
    did_later false x false y true z = did_end (eqb-true (kind_of w) 3 z) (eqb (value_in w) s.frames) refl
    did_later false x false y false z =
        broke (other_kind s w refl l (eqb-false (kind_of w) 1 x) (eqb-false (kind_of w) 2 y) (eqb-false (kind_of w) 3 z))

  pub did : Did s w
  did =
      elim (dec_lt s.figures 3) [
        | yes l ↦ did_first l (eqb (kind_of w) 0) refl
        | no l ↦ did_later (omega arith) (eqb (kind_of w) 1) refl (eqb (kind_of w) 2) refl (eqb (kind_of w) 3) refl
      ]

-- a word adds at most one frame
pub frames_grow : (s t : State) (w : ℕ) → On t ≡ step_of s w → t.frames ≤ s.frames + 1
frames_grow s t w e = go (did s w)
  where
    clash : {A : Type 0} → ◌≡◌ {A = ℕ} 0 1 → A
    clash z = let b : ⊥ = omega arith in absurd b

    next : (f k m : ℕ) → On (state f k m) ≡ step_of s w → k ≡ t.frames
    next f k m q = let z : state f k m ≡ t = cc in ap (λ (x : State). x.frames) z

    go : Did s w → t.frames ≤ s.frames + 1
    go (figure l k q) = omega (arith, next (s.figures + 1) s.frames s.mark q)
    go (harvest l k q) = omega (arith, next s.figures (s.frames + 1) 4 q)
    go (bound l k m q) = omega (arith, next s.figures s.frames (mark_of w + 1) q)
    go (ended l k v q) = clash cc
    go (broke q) = clash cc

-- the machine, given what its next word does
abbrev pub next : State → ℕ → List ℕ → Step → Form
next s i ws (On t) = scan t (suc i) ws
next s i ws End = Closed (suc i) s.frames
next s i ws Wrong = Broken i

pub next_is : (s : State) (i w : ℕ) (ws : List ℕ) (r : Step) → r ≡ step_of s w → scan s i (w ∷ ws) ≡ next s i ws r
next_is s i w ws r e =
    ap
    (λ (u : Step). elim u as (λ _. Form) [
      | On t ↦ scan t (suc i) ws
      | End ↦ Closed (suc i) s.frames
      | Wrong ↦ Broken i
    ])
    (sym e)
    ∙ go r
  where
    go : (u : Step) →
        elim u as (λ _. Form) [
          | On t ↦ scan t (suc i) ws
          | End ↦ Closed (suc i) s.frames
          | Wrong ↦ Broken i
        ] ≡ next s i ws u
    go (On t) = refl
    go End = refl
    go Wrong = refl

-- the machine at word i of a list whose form is x
module _ (ws : List ℕ) (s : State) (i : ℕ) (x : Form) (inv : scan s i (drop i ws) ≡ x) where
  -- one step
  pub steps : i < length ws → (r : Step) → r ≡ step_of s (get_or ws i 0) → next s i (drop (suc i) ws) r ≡ x
  steps l r e =
      sym (ap (scan s i) (drop-cons ws i 0 l) ∙ next_is s i (get_or ws i 0) (drop (suc i) ws) r e) ∙ inv

  -- no word left
  pub missing : length ws ≤ i → Broken i ≡ x
  missing l = sym (ap (scan s i) (drop_of_length-le ws {i = i} l)) ∙ inv

-- the machine names no place beyond its words
pub place_within : (s : State) (i : ℕ) (ws : List ℕ) → place_in (scan s i ws) ≤ i + length ws
place_within s i [] = omega arith
place_within s i (w ∷ ws) =
    rw (next_is s i w ws (step_of s w) refl) (go (step_of s w) (λ t. place_within t (suc i) ws))
  where
    go : (r : Step) → ((t : State) → place_in (scan t (suc i) ws) ≤ suc i + length ws) →
        place_in (next s i ws r) ≤ i + length (w ∷ ws)
    go (On t) p = omega (arith, p t)
    go End p = omega arith
    go Wrong p = omega arith

-- the words of a file that closed are up to the place that its form names
pub closed_within : {c : ClosedFile} (f : Form) → Ok c ≡ scanned f → c.words ≤ place_in f
closed_within {c} (Closed n k) e = let z : c.words ≡ n = cc in omega arith
closed_within {c} (Broken p) e = let z : ◌≡◌ {A = ℕ} 0 1 = cc in omega arith
