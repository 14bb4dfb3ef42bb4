-- What can be read from a listing is right: its budgets are the plan, its number is the needed capacity, and after
-- "refused 9" or "refused 11" nothing is feasible. Equal texts show the same figures, and the text was made of the right ones.
use mathlib.Core.Path.{◌≡◌, refl, sym, ap, subst, ◌∙◌}
use mathlib.Core.Logic.{inl, inr}
use mathlib.Core.Bool.{Bool, true, false, ◌||◌, false≢true}
use mathlib.Core.List.{List, [], ◌∷◌, ◌++◌, map}
use Prim.Native.Nat.{ℕ, suc}
use native.Mathlib.Omega.{arith}
use lib.Dec.{eqb}
use borrow.Author.Tests.{ne_eqb}
use lib.ListN.{length, get_or, drop, length-map}
use Rattle.model.specs.Refusals.{Refusal}
use Rattle.model.specs.Choice.{pick}
use Rattle.model.specs.Limits.{max_frames}
use Rattle.model.specs.Request.{Request, leasts, frame_count}
use Rattle.model.specs.Refusals.{is_none, is_unreachable, reachable, reachable_unlimited, whole_plan_refusal}
use Rattle.model.specs.Charge.{FrameEnd, frame_end, ends_from, charges, losses}
use Rattle.model.specs.Plan.{plan_of}
use Rattle.model.proofs.Needed.{needed_is}
use Rattle.model.proofs.Reach.{reachable_is, reachable_open, feasible_open, none_feasible}
use Rattle.model.proofs.Refusals.{Other, plan_unreachable}
use Rattle.model.proofs.Requests.{plan_is}
use Rattle.model.proofs.Trace.{ends, feasible_length}
use Rattle.request.proofs.Within.{plan_within}
use Rattle.wordfile.specs.File.{request_in, read_refusal}
use Rattle.wordfile.proofs.Refused.{read_small}
use Rattle.text.specs.Line.{line_of, lines_of}
use Rattle.text.proofs.Line.{line_byte}
use Rattle.text.proofs.Tells.{AllLong, line_same, lines_same}
use Rattle.printed.specs.Text.{first_pattern, frame_pattern, worth_pattern, refused_pattern, refused_line, frame_rows}
use Rattle.printed.specs.Text.{Shown, showing, shown_of, request_text, listing}
use Rattle.printed.specs.Means.{Right, Paired, ListMeans}

-- ---- equal texts show the same figures

rows_long : (i : ℕ) (bs xs ls : List ℕ) → AllLong 4 (frame_rows i bs xs ls)
rows_long i [] xs ls = tt
rows_long i (b ∷ bs) [] ls = tt
rows_long i (b ∷ bs) (x ∷ xs) [] = tt
rows_long i (b ∷ bs) (x ∷ xs) (l ∷ ls) = (refl, rows_long (suc i) bs xs ls)

-- the rows tell the budgets, the charges and the losses
abbrev column : ℕ → List (List ℕ) → List ℕ
column j rows = map (λ (ns : List ℕ). get_or ns j 0) rows

columns : (i : ℕ) (bs xs ls : List ℕ) → length xs ≡ length bs → length ls ≡ length bs →
    let rows = frame_rows i bs xs ls in
    (column 1 rows ≡ bs) × (column 2 rows ≡ xs) × (column 3 rows ≡ ls)
columns i [] [] [] p q = (refl, refl, refl)
columns i [] (x ∷ xs) ls p q = absurd (omega arith)
columns i [] [] (l ∷ ls) p q = absurd (omega arith)
columns i (b ∷ bs) [] ls p q = absurd (omega arith)
columns i (b ∷ bs) (x ∷ xs) [] p q = absurd (omega arith)
columns i (b ∷ bs) (x ∷ xs) (l ∷ ls) p q =
    let r = columns (suc i) bs xs ls (omega arith) (omega arith) in (
      ap (λ (t : List ℕ). b ∷ t) r.0,
      ap (λ (t : List ℕ). x ∷ t) r.1,
      ap (λ (t : List ℕ). l ∷ t) r.2,
    )

-- the last line behind its first letter
abbrev worth_tail : List ℕ
worth_tail = drop 1 worth_pattern

abbrev sums : Shown → List ℕ
sums g = g.worth0 ∷ g.worth1 ∷ g.worth2 ∷ []

pub shown_same : (g h : Shown) → Paired g → Paired h → showing g ≡ showing h → g ≡ h
shown_same g h p q e =
    let rows : Shown → List (List ℕ) = λ k. frame_rows 1 k.budgets k.charges k.losses in
    let rest : Shown → List ℕ = λ k. lines_of frame_pattern (rows k) ++ line_of worth_pattern (sums k) in
    let a = line_same first_pattern (g.frames ∷ g.capacity ∷ g.needed ∷ [])
    (h.frames ∷ h.capacity ∷ h.needed ∷ []) (rest g) (rest h)
    refl refl refl e in
    let b = lines_same 32 (drop 2 frame_pattern) (omega arith) refl refl 119 (omega arith) (rows g) (rows h)
    (line_of worth_tail (sums g)) (line_of worth_tail (sums h))
    (rows_long 1 g.budgets g.charges g.losses) (rows_long 1 h.budgets h.charges h.losses)
    (rw (line_byte 119 worth_tail (sums g) refl, line_byte 119 worth_tail (sums h) refl) at a.1) in
    let c = line_same worth_tail (sums g) (sums h) [] [] refl refl refl (ap (λ (t : List ℕ). t ++ []) b.1) in
    let x = columns 1 g.budgets g.charges g.losses p.0 p.1 in
    let y = columns 1 h.budgets h.charges h.losses q.0 q.1 in
    same_fields g h a.0 (sym x.0 ∙ (ap (column 1) b.0 ∙ y.0)) (sym x.1 ∙ (ap (column 2) b.0 ∙ y.1))
    (sym x.2 ∙ (ap (column 3) b.0 ∙ y.2))
    c.0
  where
    same_fields : (g h : Shown) → g.frames ∷ g.capacity ∷ g.needed ∷ [] ≡ h.frames ∷ h.capacity ∷ h.needed ∷ [] →
        g.budgets ≡ h.budgets → g.charges ≡ h.charges → g.losses ≡ h.losses → sums g ≡ sums h → g ≡ h
    same_fields g h a b c l d =
        let k : g.frames ≡ h.frames = cc in
        let f : g.capacity ≡ h.capacity = cc in
        let m : g.needed ≡ h.needed = cc in
        let u : g.worth0 ≡ h.worth0 = cc in
        let v : g.worth1 ≡ h.worth1 = cc in
        let w : g.worth2 ≡ h.worth2 = cc in
        rw (k, f, m, b, c, l, u, v, w) refl

-- a refusal's line tells its number
refused_same : (f g : Refusal) → refused_line f ≡ refused_line g → f.number ≡ g.number
refused_same f g e =
    let a = line_same refused_pattern (f.number ∷ f.p ∷ []) (g.number ∷ g.p ∷ []) [] [] refl refl refl
    (ap (λ (t : List ℕ). t ++ []) e) in
    let z = a.0 in
    cc

-- and so whether it is 9 or 11
same_reach : (f g : Refusal) → refused_line f ≡ refused_line g → is_unreachable f ≡ is_unreachable g
same_reach f g e = ap (λ (n : ℕ). eqb n 9 || eqb n 11) (refused_same f g e)

-- and begins with another letter than figures do
refusal_no_figures : (f : Refusal) (g : Shown) → refused_line f ≡ showing g → ⊥
refusal_no_figures f g e =
    let z : ◌≡◌ {A = ℕ} 114 102 =
    ap (λ (t : List ℕ). get_or t 0 0)
    (sym (line_byte 114 (drop 1 refused_pattern) (f.number ∷ f.p ∷ []) refl)
    ∙ (e ∙ ap (λ (t : List ℕ). t ++ rest)
    (line_byte 102 (drop 1 first_pattern) (g.frames ∷ g.capacity ∷ g.needed ∷ []) refl))) in
    omega arith
  where
    rest : List ℕ
    rest = lines_of frame_pattern (frame_rows 1 g.budgets g.charges g.losses) ++ line_of worth_pattern (sums g)

-- ---- the listing of a request

-- an end for each harvest and budget, so a charge and a loss for each
ends_length : (c x : ℕ) (hs bs : List ℕ) → length bs ≡ length hs → length (ends_from c x hs bs) ≡ length bs
ends_length c x [] [] l = refl
ends_length c x [] (b ∷ bs) l = absurd (omega arith)
ends_length c x (h ∷ hs) [] l = absurd (omega arith)
ends_length c x (h ∷ hs) (b ∷ bs) l = let i = ends_length c (frame_end c x h b).charge hs bs (omega arith) in
    omega arith

pub ends_paired : (q : Request) (bs : List ℕ) → length bs ≡ frame_count q →
    (length (charges q bs) ≡ length bs) × (length (losses q bs) ≡ length bs)
ends_paired q bs l =
    let es = ends q bs in
    let n = ends_length q.figures.capacity q.figures.start q.harvest bs l in
    (length-map es (λ (e : FrameEnd). e.charge) ∙ n, length-map es (λ (e : FrameEnd). e.lost) ∙ n)

-- what can be reached with the capacity can be reached without limit
pub open_reach : (q : Request) → reachable q ≡ true → reachable_unlimited q ≡ true
open_reach q h = reachable_open q ∙ feasible_open q q.figures.capacity (leasts q) (sym (reachable_is q) ∙ h)

request_means : (q : Request) → ListMeans q (request_text q)
request_means q = go (is_none f) refl
  where
    k : ℕ
    k = frame_count q

    f : Refusal
    f = whole_plan_refusal q

    g : Shown
    g = shown_of q (plan_of q)

    -- not refused: it shows the plan's figures, so whatever figures it shows are those
    go : (t : Bool) → is_none f ≡ t → ListMeans q (pick t (showing g) (refused_line f))
    go true ok =
        let w = (plan_within q k k (k ∷ []) ok).served in
        let p = plan_is q w.figures.start_fits w.figures.end_fits w.reach in
        let l = ends_paired q (plan_of q) (feasible_length q (plan_of q) p.is_feasible) in
        let r : Right q g =
        record {
          frames = refl;
          capacity = refl;
          needed = needed_is q (open_reach q w.reach);
          plan = p;
          after = refl;
          lost = refl;
          worth0 = refl;
          worth1 = refl;
          worth2 = refl;
        } in
        record {
          form = inl (g, (l, refl));
          right = λ h s. subst (Right q) (shown_same g h l s.0 s.1) r;
          no_plan = λ f u e. absurd (refusal_no_figures f g (sym e));
        }
    go false n =
        record {
          form = inr (f, refl);
          right = λ g s. absurd (refusal_no_figures f g s.1);
          no_plan = λ h u e. none_feasible q (plan_unreachable q k k (k ∷ []) (same_reach f h e ∙ u));
        }

-- ---- the listing of a file

-- no refusal of the reader is 9 or 11
read_other : (s : List ℕ) → Other (read_refusal s max_frames max_frames max_frames)
read_other s =
    let n = (read_refusal s max_frames max_frames max_frames).number in
    let h = (read_small s max_frames max_frames max_frames).0 in
    rw (ne_eqb n 9 (λ p. omega arith), ne_eqb n 11 (λ p. omega arith)) refl

-- the listing of a file means what it shows of the file's request
pub listing_means : (s : List ℕ) → ListMeans (request_in s) (listing s)
listing_means s = go (is_none f)
  where
    q : Request
    q = request_in s

    f : Refusal
    f = read_refusal s max_frames max_frames max_frames

    go : (t : Bool) → ListMeans q (pick t (request_text q) (refused_line f))
    go true = request_means q
    go false =
        record {
          form = inr (f, refl);
          right = λ g s. absurd (refusal_no_figures f g s.1);
          no_plan = λ h u e. absurd (false≢true (sym (read_other s) ∙ (same_reach f h e ∙ u)));
        }
