-- Every listing fits the room that is made of its longest lines, so nothing of it is cut off.
use mathlib.Core.Path.{◌≡◌, refl, sym, ◌∙◌}
use mathlib.Core.Bool.{Bool, true, false}
use mathlib.Core.List.{List, [], ◌∷◌, ◌++◌}
use Prim.Native.Nat.{ℕ, suc, ◌+◌, ◌*◌, ◌^◌, ◌≤◌, ◌<◌}
use native.Mathlib.Omega.{arith}
use native.Mathlib.Nat.{le_trans}
use lib.ListN.{length, get_or, take, length-append}
use Rattle.model.specs.Refusals.{Refusal}
use Rattle.model.specs.Choice.{pick}
use Rattle.model.specs.Limits.{max_frames, max_harvest, max_capacity}
use Rattle.model.specs.Request.{Request, frame_count, total}
use Rattle.model.specs.Refusals.{is_none, whole_plan_refusal}
use Rattle.model.specs.Charge.{frame_end, charges_from, charges, losses_from, losses}
use Rattle.model.specs.Curves.{house_curve, worth, grade}
use Rattle.model.specs.Plan.{plan_of, needed_of}
use Rattle.model.proofs.Curves.{worth_bound}
use Rattle.model.proofs.Needed.{needed_at_most}
use Rattle.model.proofs.Reach.{feasible_spent}
use Rattle.model.proofs.Requests.{plan_feasible}
use Rattle.model.proofs.Trace.{feasible_length}
use Rattle.request.proofs.Harvest.{total_small}
use Rattle.request.proofs.Within.{FiguresWithin, plan_within}
use Rattle.request.proofs.BadBounds.{bounds_length}
use Rattle.words.specs.Words.{words_of}
use Rattle.wordfile.specs.File.{leasts_in, mosts_in, request_in, read_refusal}
use Rattle.wordfile.proofs.Refused.{leasts_length, mosts_length}
use Rattle.text.specs.Line.{line_of, lines_of}
use Rattle.text.specs.Wrote.{Wrote}
use Rattle.text.proofs.Line.{line_fits}
use Rattle.text.proofs.Written.{wrote_whole}
use Rattle.printed.specs.Text as T
use Rattle.printed.specs.Text.{first_pattern, frame_pattern, worth_pattern, refused_pattern, refused_line}
use Rattle.printed.specs.Text.{frame_digits, energy_digits, worth_digits, largest_energy, frame_widths, frame_room}
use Rattle.printed.specs.Text.{listing_bytes}
use Rattle.printed.specs.Text.{frame_rows, showing, shown_of, request_text, listing}
use Rattle.printed.proofs.Short.{Short, plan_short, read_short}
use Rattle.printed.proofs.Means.{open_reach}

-- the lines of all frames from a charge within the capacity: no charge is above it, no budget above their sum, no loss
-- above its harvest
frames_fit : (c x i : ℕ) (hs bs : List ℕ) → c ≤ max_capacity → x ≤ c → ((j : ℕ) → get_or hs j 0 ≤ max_harvest) →
    total bs ≤ largest_energy → i + length bs ≤ suc max_frames →
    length (lines_of frame_pattern (frame_rows i bs (charges_from c x hs bs) (losses_from c x hs bs))) ≤ frame_room
    * length bs
frames_fit c x i [] [] hc hx hh hb hi = omega arith
frames_fit c x i [] (b ∷ bs) hc hx hh hb hi = omega arith
frames_fit c x i (h ∷ hs) [] hc hx hh hb hi = omega arith
frames_fit c x i (h ∷ hs) (b ∷ bs) hc hx hh hb hi =
    let e = frame_end c x h b in
    let y = e.charge in
    let ns = i ∷ b ∷ y ∷ e.lost ∷ [] in
    let m = hh 0 in
    let l = line_fits frame_pattern ns frame_widths (
      omega arith,
      omega arith,
      (omega arith, omega arith, (omega arith, omega arith, (omega arith, omega arith, tt))),
    ) in
    let r = frames_fit c y (suc i) hs bs hc (omega arith) (λ j. hh (suc j)) (omega arith) (omega arith) in
    omega (
      arith,
      length-append (line_of frame_pattern ns)
          (lines_of frame_pattern (frame_rows (suc i) bs (charges_from c y hs bs) (losses_from c y hs bs))),
    )

-- no list is worth more than 24 for each unit
grade_bound : (c : ℕ) (bs : List ℕ) → grade (house_curve c) bs ≤ 24 * total bs
grade_bound c [] = omega arith
grade_bound c (b ∷ bs) =
    sums (worth (house_curve c) b) (grade (house_curve c) bs) b (total bs) (worth_bound c b) (grade_bound c bs)
  where
    sums : (w v a b : ℕ) → w ≤ 24 * a → v ≤ 24 * b → w + v ≤ 24 * (a + b)
    sums w v a b p q = omega arith

grade_small : (c : ℕ) (bs : List ℕ) → total bs ≤ largest_energy → grade (house_curve c) bs < 10 ^ worth_digits
grade_small c bs h = below (grade (house_curve c) bs) (total bs) (grade_bound c bs) h
  where
    below : (v t : ℕ) → v ≤ 24 * t → t ≤ largest_energy → v < 10 ^ worth_digits
    below v t p h = omega arith

-- the listing of budgets whose sum is within the most energy
shown_fits : (q : Request) (bs : List ℕ) → length bs ≤ max_frames → frame_count q ≤ max_frames → FiguresWithin q →
    total bs ≤ largest_energy → needed_of q ≤ largest_energy → length (showing (shown_of q bs)) ≤ listing_bytes
shown_fits q bs l k v t n =
    let c = v.capacity_small in
    let first = frame_count q ∷ q.figures.capacity ∷ needed_of q ∷ [] in
    let rows = frame_rows 1 bs (charges q bs) (losses q bs) in
    let last = grade (house_curve 0) bs ∷ grade (house_curve 1) bs ∷ grade (house_curve 2) bs ∷ [] in
    let f = line_fits first_pattern first (frame_digits ∷ energy_digits ∷ energy_digits ∷ [])
    (omega arith, omega arith, (omega arith, omega arith, (omega arith, omega arith, tt))) in
    let m = frames_fit q.figures.capacity q.figures.start 1 q.harvest bs c v.start_fits
    v.harvest_fits t (omega arith) in
    let w = line_fits worth_pattern last (worth_digits ∷ worth_digits ∷ worth_digits ∷ [])
    (omega arith, grade_small 0 bs t, (omega arith, grade_small 1 bs t, (omega arith, grade_small 2 bs t, tt))) in
    room
    (length (showing (shown_of q bs)))
    (length (line_of first_pattern first))
    (length (lines_of frame_pattern rows))
    (length (line_of worth_pattern last))
    (length bs)
    (joined (line_of first_pattern first) (lines_of frame_pattern rows) (line_of worth_pattern last))
    f m w l
  where
    joined : (a b c : List ℕ) → length (a ++ (b ++ c)) ≡ length a + (length b + length c)
    joined a b c = simp length-append

    room : (n x y z k : ℕ) → n ≡ x + (y + z) → x ≤ T.first_room → y ≤ frame_room * k → z ≤ T.worth_room → k ≤ max_frames →
        n ≤ listing_bytes
    room n x y z k e a b c d = omega arith

-- the line of a refusal
refused_fits : (f : Refusal) → Short f → length (refused_line f) ≤ listing_bytes
refused_fits f h =
    le_trans
    (line_fits refused_pattern (f.number ∷ f.p ∷ []) (2 ∷ 10 ∷ [])
    (omega arith, h.short_number, (omega arith, h.short_p, tt)))
    (omega arith)

-- a request's listing
request_fits : (q : Request) → length q.bounds ≤ frame_count q → length (request_text q) ≤ listing_bytes
request_fits q many = go (is_none f) refl
  where
    k : ℕ
    k = frame_count q

    f : Refusal
    f = whole_plan_refusal q

    go : (t : Bool) → is_none f ≡ t → length (pick t (showing (shown_of q (plan_of q))) (refused_line f)) ≤ listing_bytes
    go true e =
        let w = plan_within q k k (k ∷ []) e in
        let v = w.served.figures in
        let bs = plan_of q in
        let g = plan_feasible q v.start_fits v.end_fits w.served.reach in
        let few = w.lent.frames.few in
        let c = v.capacity_small in
        let s = v.start_fits in
        let t = total_small max_harvest q.harvest v.harvest_fits in
        let d = feasible_length q bs g in
        let u = feasible_spent q bs g in
        let m = needed_at_most q (open_reach q w.served.reach) in
        shown_fits q bs (omega arith) few v (omega arith) (omega arith)
    go false e = refused_fits f (plan_short q many)

-- the request in a file has bounds for each frame
found_bounds : (s : List ℕ) → length (request_in s).bounds ≤ frame_count (request_in s)
found_bounds s =
    let ws = words_of s in
    omega (arith, bounds_length (leasts_in ws) (mosts_in ws) (leasts_length ws ∙ sym (mosts_length ws)), leasts_length ws)

-- a file's listing, whatever the file
pub listing_fits : (s : List ℕ) → length (listing s) ≤ listing_bytes
listing_fits s = go (is_none f)
  where
    f : Refusal
    f = read_refusal s max_frames max_frames max_frames

    go : (t : Bool) → length (pick t (request_text (request_in s)) (refused_line f)) ≤ listing_bytes
    go true = request_fits (request_in s) (found_bounds s)
    go false = refused_fits f (read_short s)

-- so in that room the listing is written whole
pub whole_listing : (s o o' : List ℕ) (n : ℕ) → listing_bytes ≤ length o → Wrote (listing s) o o' n →
    (n ≡ length (listing s)) × (take n o' ≡ listing s)
whole_listing s o o' n l w = wrote_whole (listing s) o o' n (le_trans (listing_fits s) l) w
