-- Impostors of acceptance condition 3 on shifts: the promises refuse their answers. Short and 20 only where their
-- conditions hold, for every shift; then, on the listing's shift with frame 1 recorded, the first plan kept, zeros,
-- one fixed plan, and every refusal.
use mathlib.Core.Path.{◌≡◌, refl, sym, ap, ◌∙◌}
use mathlib.Core.Bool.{true, false, not, false≢true}
use mathlib.Core.List.{List, [], ◌∷◌, ◌++◌}
use Prim.Native.Nat.{ℕ, suc, ◌-◌}
use native.Mathlib.Omega.{arith}
use lib.IntN.{pos}
use lib.Dec.{eqb, ltb}
use lib.ListN.{length, get_or, take, drop}
use lib.Seq.{length-take-le, drop_at}
use borrow.Author.Tests.{eq-eqb, eqb-true, not-true}
use Rattle.std.specs.Prelude.{Result, Ok, Err}
use Rattle.model.specs.Refusals.{Refusal}
use Rattle.model.specs.Limits.{no_upper_end}
use Rattle.model.specs.Request.{Request, figures, bounded_request, bounds_of}
use Rattle.model.specs.Refusals.{refusal, is_none, first_of, wrong_length, harvest_over_limit, reachable}
use Rattle.model.specs.Trace.{trace, last_from}
use Rattle.model.specs.Charge.{at_hand, feasible}
use Rattle.model.specs.Frames.{reserve, largest, budget, plan}
use Rattle.model.specs.Plan.{frames_of, plan_of}
use Rattle.model.proofs.Choice.{pick_by}
use Rattle.model.proofs.Reach.{none_feasible}
use Rattle.model.proofs.Outcome.{gave, refused, no_refusal}
use Rattle.shift.specs.declared.Shift.{Shift}
use Rattle.shift.specs.declared.Terms.{Terms}
use Rattle.shift.specs.declared.Present.{Present}
use Rattle.shift.specs.declared.Typed.{Typed}
use Rattle.model.specs.declared.refusal.Refusal.{Refusal as Given}
use Rattle.model.specs.Answer.{told}
use Rattle.rest.specs.declared.Rest.{Rest}
use Rattle.rest.specs.declared.Rest.TheVariants as rest
use Rattle.shift.specs.Shift.{started, is_shift, not_shift, all_recorded, typed, drawn, use_too_great, recorded_by}
use Rattle.shift.specs.Shift.{recording_refusals}
use Rattle.shift.proofs.Record.{past_22}
use Rattle.rest.specs.Rest.{Outlook, outlook, planning_refusals, lengths_of, length_refusals, zeros, missing_to}
use Rattle.rest.specs.Rest.{ending_of, rest_request, rest_over_limit, rest_bounds, rest_refusal, rest_budgets}
use Rattle.rest.specs.Rest.{part_refusal, written_from}
use Rattle.shift.specs.Says.{ShiftAnswer, StartSays, RecordSays}
use Rattle.rest.specs.Says.{RestSays, PartSays}
use Rattle.model.proofs.Numbers.{bounds_clear, harvest_clear, lengths_clear, test_clear}
use Rattle.shiftbook.proofs.Numbers as number

-- short only where nothing of the rest is feasible, and by what zero budgets miss of the end charge
pub short_only :
    (s : Shift) (p : Outlook) (b b' : List ℕ) (m : ℕ) → RestSays s p b b' (Ok (rest.Short m)) →
    let q = rest_request s p in
    ((bs : List ℕ) → feasible q bs ≡ false) ×
    (m ≡ missing_to s.terms.end (last_from (pos s.now.charge) (trace q (zeros q))))
short_only s p b b' m says =
    let q = rest_request s p in
    let e = (gave (rest_refusal s p (length b ∷ [])) (ending_of q) (record { short = true; missing = m })
    says.answer).1 in
    let n = not-true (reachable q) (sym (ap (λ x. x.short) e)) in (
      none_feasible q n,
      ap (λ x. x.missing) e
          ∙ pick_by (reachable q) false 0
          (missing_to s.terms.end (last_from (pos s.now.charge) (trace q (zeros q)))) n,
    )

-- 20 comes only where every frame is recorded, if nothing else on the list of refusals has that number
all_recorded_lem :
    (k : Terms) (n : Present) (fs gs : List Refusal) → number.Without 20 fs → number.Without 20 gs →
    (first_of (fs ++ (all_recorded k n ∷ gs))).number ≡ 20 → n.recorded ≡ k.frames
all_recorded_lem k n fs gs v w e =
    eqb-true n.recorded k.frames
    (number.tested 20 (eqb n.recorded k.frames) (refusal 20 0) refl
    (number.only_at 20 fs (all_recorded k n) gs refl v w
    (eq-eqb (first_of (fs ++ (all_recorded k n ∷ gs))).number 20 e)))

-- 22 is another number
shift_not_20 : (s : Shift) → eqb (not_shift s).number 20 ≡ false
shift_not_20 s = test_clear (number.is 20) refl (not (is_shift s)) (refusal 22 0) refl

-- 20 at recording only where every frame is recorded
pub record_20_only :
    (s : Shift) (t : Typed) (a : ShiftAnswer) → RecordSays s t a → a.refusal.number ≡ 20 →
    s.now.recorded ≡ s.terms.frames
record_20_only s t a p e =
    let k = s.terms in
    let n = s.now in
    let x = at_hand k.capacity n.charge t.harvest in
    all_recorded_lem k n (not_shift s ∷ [])
    (harvest_over_limit (suc n.recorded) (t.harvest ∷ []) ∷ use_too_great k n t ∷ [])
    (shift_not_20 s, tt) (
      harvest_clear (number.is 20) refl (suc n.recorded) (t.harvest ∷ []) refl,
      (test_clear (number.is 20) refl (ltb x (drawn t)) (refusal 21 (drawn t - x)) refl, tt),
    )
    (ap (λ (g : Refusal). g.number) (sym p.refusal) ∙ e)

-- 20 at planning only where every frame is recorded
pub rest_20_only :
    (s : Shift) (p : Outlook) (b b' : List ℕ) (f : Given) → RestSays s p b b' (Err f) → (told f).number ≡ 20 →
    s.now.recorded ≡ s.terms.frames
rest_20_only s p b b' f says e =
    let k = s.terms.frames in
    let n = s.now.recorded in
    let d = (refused (rest_refusal s p (length b ∷ [])) (ending_of (rest_request s p)) (told f) says.answer).1 in
    let w = p.wanted in
    all_recorded_lem s.terms s.now (not_shift s ∷ length_refusals k p (length b ∷ []))
    (rest_over_limit s.now p.harvest ∷ rest_bounds s.now w ∷ []) (
      shift_not_20 s,
      lengths_clear (number.is 20) refl k (lengths_of p ++ (length b ∷ [])) refl,
    ) (
      harvest_clear (number.is 20) refl (suc n) (drop n p.harvest) refl,
      (bounds_clear (number.is 20) refl (suc n) (bounds_of (drop n w.least) (drop n w.most)) refl, tt),
    )
    (ap (λ (g : Refusal). g.number) (sym d) ∙ e)

-- 20 for the rest's part only where every frame is recorded
pub part_20_only :
    (s : Shift) (b part : List ℕ) (at part_at : ℕ × ℕ) (p : ℕ) → PartSays s b part at part_at 20 p →
    s.now.recorded ≡ s.terms.frames
part_20_only s b part at part_at p says =
    all_recorded_lem s.terms s.now (not_shift s ∷ wrong_length s.terms.frames (length b) ∷ []) []
    (shift_not_20 s, lengths_clear (number.is 20) refl s.terms.frames (length b ∷ []) refl) tt (sym says.number_is)

-- the listing's request, its first plan, and its shift with frame 1 recorded: harvest 1, use 3
abbrev pub harvests : List ℕ
harvests = 6 ∷ 4 ∷ 0 ∷ 0 ∷ 5 ∷ 5 ∷ []

abbrev pub listed : Request
listed =
    bounded_request (figures 5 2 2) harvests (0 ∷ 0 ∷ 0 ∷ 0 ∷ 0 ∷ 0 ∷ [])
    (no_upper_end ∷ no_upper_end ∷ no_upper_end ∷ no_upper_end ∷ no_upper_end ∷ no_upper_end ∷ [])

abbrev pub first_plan : List ℕ
first_plan = 4 ∷ 3 ∷ 3 ∷ 2 ∷ 4 ∷ 4 ∷ []

abbrev pub after_one : Shift
after_one = recorded_by (started listed) (typed 1 3)

-- six harvests without bounds
abbrev pub unbounded : List ℕ → Outlook
unbounded hs =
    outlook hs (0 ∷ 0 ∷ 0 ∷ 0 ∷ 0 ∷ 0 ∷ [])
    (no_upper_end ∷ no_upper_end ∷ no_upper_end ∷ no_upper_end ∷ no_upper_end ∷ no_upper_end ∷ [])

-- its forecast, another one with no harvest in frame 2, and the first with a least of 3 in frame 4 or a most of 1 in
-- frame 2
abbrev pub forecast : Outlook
forecast = unbounded harvests

abbrev pub fewer_harvests : Outlook
fewer_harvests = unbounded (6 ∷ 0 ∷ 0 ∷ 0 ∷ 5 ∷ 5 ∷ [])

abbrev pub with_least : Outlook
with_least = outlook harvests (0 ∷ 0 ∷ 0 ∷ 3 ∷ 0 ∷ 0 ∷ []) forecast.wanted.most

abbrev pub with_most : Outlook
with_most =
    outlook harvests forecast.wanted.least
    (no_upper_end ∷ 1 ∷ no_upper_end ∷ no_upper_end ∷ no_upper_end ∷ no_upper_end ∷ [])

-- it passes 22, so a refusal comes from what stands behind 22
after_one_passes : (fs : List Refusal) → first_of (not_shift after_one ∷ fs) ≡ first_of fs
after_one_passes fs = past_22 after_one fs refl

-- planning by lists of six that are not refused writes the rest's budgets behind the budget of frame 1, into any list
-- of six
rest_is :
    (p : Outlook) (b b' : List ℕ) (a : Result Rest Given) →
    is_none (first_of (planning_refusals after_one.terms after_one.now p (6 ∷ []))) ≡ true → length b ≡ 6 →
    RestSays after_one p b b' a →
    drop 1 b' ≡ rest_budgets (rest_request after_one p)
rest_is p b b' a n l says =
    let q = rest_request after_one p in
    let accepted = λ (k : ℕ). is_none (rest_refusal after_one p (k ∷ [])) in
    let t : accepted (length b) ≡ true =
    ap accepted l ∙ ap is_none (after_one_passes (planning_refusals after_one.terms after_one.now p (6 ∷ []))) ∙ n in
    ap (drop 1) (says.budgets ∙ pick_by (accepted (length b)) true (written_from 1 b (rest_budgets q)) b t)
    ∙ drop_at (take 1 b) (rest_budgets q) 1 (length-take-le 1 b (omega arith))

-- so the first plan kept for the whole shift is no answer, whatever list of six was lent
pub not_first_plan :
    (b b' : List ℕ) (a : Result Rest Given) → length b ≡ 6 → RestSays after_one forecast b b' a →
    drop 1 b' ≡ drop 1 first_plan → ⊥
unfolding plan_of frames_of plan budget largest reserve
not_first_plan b b' a l p z =
    let e : ◌≡◌ {A = ℕ} 3 2 = ap (λ (xs : List ℕ). get_or xs 0 0) (sym z ∙ rest_is forecast b b' a refl l p) in
    omega arith

-- budgets 0 from the next frame on would be feasible
pub zeros_feasible : feasible (rest_request after_one forecast) (0 ∷ 0 ∷ 0 ∷ 0 ∷ 0 ∷ []) ≡ true
zeros_feasible = refl

-- but they are no answer
pub not_zeros :
    (b b' : List ℕ) (a : Result Rest Given) → length b ≡ 6 → RestSays after_one forecast b b' a →
    drop 1 b' ≡ 0 ∷ 0 ∷ 0 ∷ 0 ∷ 0 ∷ [] → ⊥
unfolding plan_of frames_of plan budget largest reserve
not_zeros b b' a l p z =
    let e : ◌≡◌ {A = ℕ} 0 2 = ap (λ (xs : List ℕ). get_or xs 0 0) (sym z ∙ rest_is forecast b b' a refl l p) in
    omega arith

-- the same budgets from the next frame on for both forecasts, one fixed plan, are none
pub not_fixed :
    (b b' c c' : List ℕ) (x y : Result Rest Given) → length b ≡ 6 → length c ≡ 6 → RestSays after_one forecast b b' x →
    RestSays after_one fewer_harvests c c' y → drop 1 b' ≡ drop 1 c' → ⊥
unfolding plan_of frames_of plan budget largest reserve
not_fixed b b' c c' x y l m p q z =
    let e : ◌≡◌ {A = ℕ} 2 0 = ap (λ (xs : List ℕ). get_or xs 0 0) (sym (rest_is forecast b b' x refl l p)
    ∙ (z ∙ rest_is fewer_harvests c c' y refl m q)) in
    omega arith

-- the plan without bounds is no answer where a least or a most binds: bounds that planning is lent are not passed over
pub most_not_passed_over :
    (b b' c c' : List ℕ) (x y : Result Rest Given) → length b ≡ 6 → length c ≡ 6 → RestSays after_one forecast b b' x →
    RestSays after_one with_most c c' y → drop 1 b' ≡ drop 1 c' → ⊥
unfolding plan_of frames_of plan budget largest reserve
most_not_passed_over b b' c c' x y l m p q z =
    let e : ◌≡◌ {A = ℕ} 2 1 = ap (λ (xs : List ℕ). get_or xs 0 0) (sym (rest_is forecast b b' x refl l p)
    ∙ (z ∙ rest_is with_most c c' y refl m q)) in
    omega arith

pub least_not_passed_over :
    (b b' c c' : List ℕ) (x y : Result Rest Given) → length b ≡ 6 → length c ≡ 6 → RestSays after_one forecast b b' x →
    RestSays after_one with_least c c' y → drop 1 b' ≡ drop 1 c' → ⊥
unfolding plan_of frames_of plan budget largest reserve
least_not_passed_over b b' c c' x y l m p q z =
    let e : ◌≡◌ {A = ℕ} 2 1 = ap (λ (xs : List ℕ). get_or xs 0 0) (sym (rest_is forecast b b' x refl l p)
    ∙ (z ∙ rest_is with_least c c' y refl m q)) in
    omega arith

-- short is none, whatever is said to be missing
pub not_short : (b b' : List ℕ) (m : ℕ) → RestSays after_one forecast b b' (Ok (rest.Short m)) → ⊥
not_short b b' m p =
    false≢true (sym ((short_only after_one forecast b b' m p).0 (0 ∷ 0 ∷ 0 ∷ 0 ∷ 0 ∷ [])) ∙ zeros_feasible)

-- a refusal to start by the listing's request is none, whatever its number and P
pub not_refused_start : (a : ShiftAnswer) → StartSays listed 6 6 a → is_none a.refusal ≡ true
not_refused_start a p = ap is_none p.refusal

-- nor is one of a recording that the store can serve
pub not_refused_record : (a : ShiftAnswer) → RecordSays after_one (typed 4 2) a → is_none a.refusal ≡ true
not_refused_record a p =
    ap is_none
    (p.refusal ∙ after_one_passes (recording_refusals after_one.terms after_one.now (typed 4 2)))

-- nor one of planning the rest with any list of six lent
pub not_refused : (b b' : List ℕ) (f : Given) → length b ≡ 6 → RestSays after_one forecast b b' (Err f) → ⊥
not_refused b b' f l p =
    no_refusal (rest_refusal after_one forecast (length b ∷ [])) (ending_of (rest_request after_one forecast))
    (ap (λ (n : ℕ). is_none (rest_refusal after_one forecast (n ∷ []))) l
    ∙ ap is_none (after_one_passes (planning_refusals after_one.terms after_one.now forecast (6 ∷ []))))
    (told f) p.answer

-- nor one of the rest's part of any list of six: its number is 0
pub not_refused_part :
    (b part : List ℕ) (at part_at : ℕ × ℕ) (number p : ℕ) → length b ≡ 6 →
    PartSays after_one b part at part_at number p → number ≡ 0
not_refused_part b part at part_at number p l says =
    says.number_is
    ∙ ap (λ (n : ℕ). (part_refusal after_one n).number) l
    ∙ ap (λ (f : Refusal). f.number) (after_one_passes (wrong_length 6 6 ∷ all_recorded after_one.terms after_one.now ∷ []))
