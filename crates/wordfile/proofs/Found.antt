-- What the frames among words say: what one word adds, the bounds behind a harvest word, and a lent list that is filled
-- with it word by word.
use mathlib.Core.Path.{◌≡◌, refl, sym, ap, ◌∙◌}
use mathlib.Core.Bool.{Bool, true, false}
use mathlib.Core.List.{List, [], ◌∷◌}
use Prim.Native.Nat.{ℕ, suc, ◌+◌, ◌≤◌, ◌<◌}
use native.Mathlib.Numerals.{add-one}
use native.Mathlib.Nat.{add-zero, zero-add}
use native.Mathlib.Omega.{arith}
use lib.Dec.{eqb}
use borrow.Author.Tests.{eq-eqb, ne_eqb}
use lib.ListN.{length, get_or, set, drop, length-drop, length-set, drop_of_length-le}
use lib.Seq.{drop-cons, drop-drop, get_or-drop, paste, paste-suc}
use Rattle.model.specs.Choice.{pick}
use Rattle.model.specs.Lent.{over}
use Rattle.model.specs.Limits.{no_upper_end}
use Rattle.words.specs.Words.{kind_of, mark_of, amount_in}
use Rattle.words.proofs.Lists.{pasted_all}
use Rattle.wordfile.specs.File.{bound_at, bound_in, past_least, says_at, each_frame}
use Rattle.std.specs.Prelude.{Option, Some, None}
use Rattle.std.specs.Option.{is_some, unwrap_or}
use Rattle.std.specs.Bool.{then_some}
use mir.Val.{bool_byte}

-- ---- the bounds behind a harvest word

-- the front of the words from place i on
pub front : (ws : List ℕ) (i : ℕ) → i < length ws → {w : ℕ} → w ≡ get_or ws i 0 → drop i ws ≡ w ∷ drop (i + 1) ws
front ws i l e = rw (e, add-one i) (drop-cons ws i 0 l)

-- a word at the front with that mark, or with another
pub is_bound : (m d w : ℕ) (ws : List ℕ) → mark_of w ≡ m → bound_at m d (w ∷ ws) ≡ amount_in w
is_bound m d w ws e = rw (eq-eqb (mark_of w) m e)

pub no_bound : (m d w : ℕ) (ws : List ℕ) → (mark_of w ≡ m → ⊥) → bound_at m d (w ∷ ws) ≡ d
no_bound m d w ws e = rw (ne_eqb (mark_of w) m e)

pub past_is : (w : ℕ) (ws : List ℕ) → mark_of w ≡ 4 → past_least (w ∷ ws) ≡ ws
past_is w ws e = rw (eq-eqb (mark_of w) 4 e)

pub past_not : (w : ℕ) (ws : List ℕ) → (mark_of w ≡ 4 → ⊥) → past_least (w ∷ ws) ≡ w ∷ ws
past_not w ws e = rw (ne_eqb (mark_of w) 4 e)

-- ---- the bounds behind a harvest word, one after the other

-- how many words a bound is
abbrev pub bounds : Option ℕ → ℕ
bounds None = 0
bounds (Some a) = 1

-- as the code counts them
pub bounds_are : (r : Option ℕ) → bool_byte (is_some r) ≡ bounds r
bounds_are None = refl
bounds_are (Some a) = refl

-- a bound by a test of its mark
pub then_in : (t : Bool) (x : ℕ) → then_some t x ≡ pick t (Some x) None
then_in true x = refl
then_in false x = refl

-- behind the last word there is none
pub beyond : (m : ℕ) (ws : List ℕ) (i : ℕ) → length ws ≤ i → bound_in m (drop i ws) ≡ None
beyond m ws i l = let e : drop i ws ≡ [] = drop_of_length-le ws {i = i} l in rw e refl

-- its amount, or what stands for an absent one
pub in_at : (m d : ℕ) (ws : List ℕ) → unwrap_or (bound_in m ws) d ≡ bound_at m d ws
in_at m d [] = refl
in_at m d (w ∷ ws) = go (eqb (mark_of w) m)
  where
    go : (t : Bool) → unwrap_or (pick t (Some (amount_in w)) None) d ≡ pick t (amount_in w) d
    go true = refl
    go false = refl

-- the words behind it
pub in_past : (ws : List ℕ) → drop (bounds (bound_in 4 ws)) ws ≡ past_least ws
in_past [] = refl
in_past (w ∷ ws) = go (eqb (mark_of w) 4)
  where
    go : (t : Bool) → drop (bounds (pick t (Some (amount_in w)) None)) (w ∷ ws) ≡ pick t ws (w ∷ ws)
    go true = refl
    go false = refl

-- none of either mark
pub no_least : (ws : List ℕ) → bound_in 4 ws ≡ None → 0 ≡ bound_at 4 0 ws
no_least ws e = rw e at (in_at 4 0 ws)

pub no_most : (ws : List ℕ) → bound_in 4 ws ≡ None → bound_in 5 ws ≡ None →
    no_upper_end ≡ bound_at 5 no_upper_end (past_least ws)
no_most ws e o =
    let p : ws ≡ past_least ws = rw e at (in_past ws) in
    (rw o at (in_at 5 no_upper_end ws)) ∙ ap (bound_at 5 no_upper_end) p

-- ---- what a word adds

module _ (says : ℕ → List ℕ → ℕ) (w : ℕ) (ws : List ℕ) where
  pub found_end : kind_of w ≡ 3 → each_frame says (w ∷ ws) ≡ []
  found_end e = rw (eq-eqb (kind_of w) 3 e)

  pub found_harvest : kind_of w ≡ 1 → each_frame says (w ∷ ws) ≡ says w ws ∷ each_frame says ws
  found_harvest e = rw (ne_eqb (kind_of w) 3 (λ (z : kind_of w ≡ 3). omega arith), eq-eqb (kind_of w) 1 e)

  pub found_none : (kind_of w ≡ 3 → ⊥) → (kind_of w ≡ 1 → ⊥) → each_frame says (w ∷ ws) ≡ each_frame says ws
  found_none a b = rw (ne_eqb (kind_of w) 3 a, ne_eqb (kind_of w) 1 b)

  pub found_figure : kind_of w ≡ 0 → each_frame says (w ∷ ws) ≡ each_frame says ws
  found_figure e = found_none (λ (z : kind_of w ≡ 3). omega arith) (λ (z : kind_of w ≡ 1). omega arith)

  pub found_bound : kind_of w ≡ 2 → each_frame says (w ∷ ws) ≡ each_frame says ws
  found_bound e = found_none (λ (z : kind_of w ≡ 3). omega arith) (λ (z : kind_of w ≡ 1). omega arith)

-- the frames are as many, whatever they say
pub frames_length : (f g : ℕ → List ℕ → ℕ) (ws : List ℕ) → length (each_frame f ws) ≡ length (each_frame g ws)
frames_length f g [] = refl
frames_length f g (w ∷ ws) = go (eqb (kind_of w) 3) (eqb (kind_of w) 1) (frames_length f g ws)
  where
    go : (t u : Bool) → length (each_frame f ws) ≡ length (each_frame g ws) →
        length (pick t [] (pick u (f w ws ∷ each_frame f ws) (each_frame f ws)))
        ≡ length (pick t [] (pick u (g w ws ∷ each_frame g ws) (each_frame g ws)))
    go true u e = refl
    go false true e = ap suc e
    go false false e = e

-- ---- a lent list filled with what the frames say

-- the list h₀ after the first i words, of which k were harvests, is h
pub record Filled (says : ℕ → List ℕ → ℕ) (ws h₀ h : List ℕ) (i k : ℕ) : Type 0 where
  pub rest : drop k (each_frame says ws) ≡ each_frame says (drop i ws)
  pub within : k ≤ length (each_frame says ws)
  pub size : length h ≡ length h₀
  pub list : h ≡ paste h₀ 0 (each_frame says ws) k

-- the whole list is filled
pub record Full (says : ℕ → List ℕ → ℕ) (ws h₀ h : List ℕ) (k : ℕ) : Type 0 where
  pub list : h ≡ over (each_frame says ws) h₀
  pub count : k ≡ length (each_frame says ws)

module _ {says : ℕ → List ℕ → ℕ} {ws h₀ h : List ℕ} {i k : ℕ} (f : Filled says ws h₀ h i k) where
  full : each_frame says (drop i ws) ≡ [] → Full says ws h₀ h k
  full e =
      let hs = each_frame says ws in
      let n : k ≡ length hs = omega (arith, length-drop k hs, ap length (f.rest ∙ e), f.within) in
      record { list = f.list ∙ pasted_all h₀ hs k n; count = n }

  -- no word is left
  pub filled_over : length ws ≤ i → Full says ws h₀ h k
  filled_over l = full (ap (each_frame says) (drop_of_length-le ws {i = i} l))

  -- one word more, by its kind n
  module _ (l : i < length ws) {w n : ℕ} (e : w ≡ get_or ws i 0) (kind : n ≡ kind_of w) where
    here : each_frame says (drop i ws) ≡ each_frame says (w ∷ drop (i + 1) ws)
    here = ap (each_frame says) (front ws i l e)

    pub filled_none : (n ≡ 3 → ⊥) → (n ≡ 1 → ⊥) → Filled says ws h₀ h (i + 1) k
    filled_none a b =
        let r = f.rest
        ∙ (here ∙ found_none says w (drop (i + 1) ws) (λ z. a (kind ∙ z)) (λ z. b (kind ∙ z))) in
        record { rest = r; within = f.within; size = f.size; list = f.list }

    module _ (z : n ≡ 1) where
      left : drop k (each_frame says ws) ≡ says_at says ws i ∷ each_frame says (drop (i + 1) ws)
      left =
          f.rest
          ∙ (here
          ∙ (found_harvest says w (drop (i + 1) ws) (sym kind ∙ z)
          ∙ ap (λ (y : ℕ). says y (drop (i + 1) ws) ∷ each_frame says (drop (i + 1) ws)) e))

      pub filled_room : k < length (each_frame says ws)
      filled_room = omega (arith, length-drop k (each_frame says ws), ap length left)

      pub filled_harvest :
          {h' : List ℕ} → length (each_frame says ws) ≤ length h₀ → h' ≡ set h k (says_at says ws i) →
          Filled says ws h₀ h' (i + 1) (k + 1)
      filled_harvest {h'} m q =
          let hs = each_frame says ws in
          let v = says_at says ws i in
          let at : get_or hs k 0 ≡ v =
          ap (λ (n : ℕ). get_or hs n 0) (sym (add-zero k))
          ∙ (sym (get_or-drop k hs 0 0) ∙ ap (λ (y : List ℕ). get_or y 0 0) left) in
          record {
            rest = sym (drop-drop 1 k hs) ∙ ap (drop 1) left;
            within = omega (arith, filled_room);
            size = ap length q ∙ (length-set h k v ∙ f.size);
            list =
                q
                ∙ (ap (λ (y : ℕ). set h k y) (sym at)
                ∙ rw (f.list, add-one k)
                (ap (λ (n : ℕ). set (paste h₀ 0 hs k) n (get_or hs k 0)) (sym (zero-add k))
                ∙ paste-suc h₀ 0 hs k 0 (omega (arith, filled_room)) filled_room));
          }
