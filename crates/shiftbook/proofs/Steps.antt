-- Each kind of call keeps what is asked of it. The record that a call gets is the logbook's and passes 22, so the
-- refusal that its promise gives is the logbook's, which is worded apart (Refusals.antt), and so is everything else
-- that the promise says.
use mathlib.Core.Path.{◌≡◌, refl, sym, ap, subst, ◌∙◌}
use mathlib.Core.Bool.{Bool, true, false, not}
use mathlib.Core.List.{List, [], ◌∷◌, ◌++◌}
use Prim.Native.Nat.{ℕ, suc, ◌-◌}
use lib.Dec.{eqb, ltb}
use lib.ListN.{length, take, drop}
use Rattle.std.specs.Prelude.{Ok, Err}
use Rattle.model.specs.Refusals.{Refusal}
use Rattle.model.specs.Choice.{pick}
use Rattle.model.specs.Request.{Request, bounds_of}
use Rattle.model.specs.Charge.{at_hand}
use Rattle.model.specs.Refusals.{outcome, refusal, is_none, first_of, reachable}
use Rattle.shift.specs.declared.Totals.{Totals}
use Rattle.shift.specs.declared.Shift.{Shift}
use Rattle.shift.specs.declared.Terms.{Terms}
use Rattle.shift.specs.declared.Typed.{Typed}
use Rattle.shift.specs.declared.Present.{Present}
use Rattle.model.specs.declared.refusal.Refusal.TheVariants as given
use Rattle.rest.specs.declared.Rest.TheVariants as rest
use Rattle.shift.specs.Shift.{is_shift, plus, recording_refusals, record_refusal, recorded_by}
use Rattle.rest.specs.Rest.{Outlook, missing_with_zeros, ending_of, rest_budgets, rest_request, RestMeans}
use Rattle.rest.specs.Rest.{lengths_of, length_refusals, unrecorded_refusals, planning_refusals, rest_refusals}
use Rattle.rest.specs.Rest.{rest_refusal, written_from}
use Rattle.shift.specs.Says.{ShiftAnswer, RecordSays}
use Rattle.rest.specs.Says.{RestSays, rest_said}
use Rattle.shift.proofs.Record.{past_22, record_says}
use Rattle.rest.proofs.Planned.{rest_refused, rest_done}
use Rattle.rest.proofs.Ending.{ending_short, ending_full}
use Rattle.shiftbook.specs.Logbook.{Logbook, terms, note_refusal, noted, planning_refusal, open_request, shift_of}
use Rattle.shiftbook.specs.Logbook.{State, line_of}
use Rattle.shiftbook.specs.Value.{shift, ending}
use Rattle.shiftbook.specs.Kind.{tells, is_number}
use Rattle.shiftbook.specs.Calls.{recording, Planning, due_budgets, due_planning, PlanningMeans, planning}
use Rattle.model.proofs.Numbers.{both_clear, bounds_clear, harvest_clear, lengths_clear, test_clear}
use Rattle.shiftbook.proofs.Numbers as number
use Rattle.shiftbook.proofs.Refusals.{note_agrees, planning_agrees}
use Rattle.shiftbook.proofs.Keeps.{Sound, Step, Keeps, without, handing_step, sound_at, sums_more}

-- recording
recording_step :
    (t : Typed) (q : Request) (l : Logbook) → Sound q l → (a : ShiftAnswer) → RecordSays (shift_of l) t a →
    Step q (recording t) l a
recording_step t q l i a p =
    let s = shift_of l in
    let e : record_refusal s t ≡ note_refusal l t =
    past_22 s (recording_refusals (terms l) l.page.now t) i.is_shift
    ∙ sym (ap first_of (note_agrees l t)) in
    handing_step (λ s a. RecordSays s t a) (λ l. note_refusal l t) (λ l. noted l t) q l (recorded_by s t)
    (record_refusal s t) a i p e (λ _. refl) refl
    (λ n.
    sound_at q l (noted l t).page i n
    (ap (λ (x : Totals). plus x (line_of l t)) i.totals_are ∙ sums_more l.page.history (line_of l t)))

pub recording_without : (k : Terms) (n : Present) (t : Typed) → number.Without 22 (recording_refusals k n t)
recording_without k n t =
    let a = at_hand k.capacity n.charge t.harvest in (
      test_clear (number.is 22) refl (eqb n.recorded k.frames) (refusal 20 0) refl,
      (
        harvest_clear (number.is 22) refl (suc n.recorded) (t.harvest ∷ []) refl,
        (test_clear (number.is 22) refl (ltb a t.used) (refusal 21 (t.used - a)) refl, tt),
      ),
    )

pub recording_keeps : (t : Typed) → Keeps (recording t)
recording_keeps t =
    record {
      step = recording_step t;
      without_22 =
          λ l.
          let k = terms l in
          let n = l.page.now in
          without shift (note_refusal l t) (shift_of (noted l t)) (recording_refusals k n t)
          (ap first_of (note_agrees l t)) (recording_without k n t);
      possible =
          λ x.
          let s = x.shift in
          let f = record_refusal s t in
          (_, record_says s t f (pick (is_none f) (recorded_by s t) s) refl refl);
    }

-- planning the rest: of the logbook's own shift it tells what is due, and means it
pub planning_agreed :
    (l : Logbook) → is_shift (shift_of l) ≡ true → (p : Outlook) (b : List ℕ) (a : Planning) →
    RestSays (shift_of l) p b a.budgets a.answer →
    (tells ending (rest_said a.answer) (a.budgets ∷ []) ≡ due_planning l p b) × PlanningMeans l p b a.budgets
planning_agreed l i p b a says =
    let n = l.page.now.recorded in
    let r = open_request l p in
    let f = planning_refusal l p (length b ∷ []) in
    let e : rest_refusal (shift_of l) p (length b ∷ []) ≡ f =
    past_22 (shift_of l) (planning_refusals (terms l) l.page.now p (length b ∷ [])) i
    ∙ sym (planning_agrees l p (length b ∷ [])) in
    let o : rest_said a.answer ≡ outcome f (ending_of r) = says.answer
    ∙ ap (λ (g : Refusal). outcome g (ending_of r)) e in
    let d : a.budgets ≡ due_budgets l p b =
    says.budgets ∙ ap (λ (g : Refusal). pick (is_none g) (written_from n b (rest_budgets r)) b) e in (
      ap (λ x. tells ending x (a.budgets ∷ [])) o
          ∙ ap (λ (c : List ℕ). tells ending (outcome f (ending_of r)) (c ∷ [])) d,
      subst (λ (g : Refusal). RestMeans g n r b a.budgets) e says.means,
    )

pub planning_without : (k : Terms) (n : Present) (p : Outlook) (ns : List ℕ) →
    number.Without 22 (planning_refusals k n p ns)
planning_without k n p ns =
    let i = n.recorded in
    both_clear (number.is 22) (length_refusals k.frames p ns) (unrecorded_refusals k n p)
    (lengths_clear (number.is 22) refl k.frames (lengths_of p ++ ns) refl) (
      test_clear (number.is 22) refl (eqb i k.frames) (refusal 20 0) refl,
      (
        harvest_clear (number.is 22) refl (suc i) (drop i p.harvest) refl,
        (bounds_clear (number.is 22) refl (suc i) (bounds_of (drop i p.wanted.least) (drop i p.wanted.most)) refl, tt),
      ),
    )

-- the refusals of a planning are such as the code can tell
pub planning_told : (k : Terms) (n : Present) (p : Outlook) (ns : List ℕ) →
    number.AllTellable (planning_refusals k n p ns)
planning_told k n p ns =
    let i = n.recorded in
    number.joined_told (length_refusals k.frames p ns) (unrecorded_refusals k n p)
    (number.lengths_told k.frames (lengths_of p ++ ns)) (
      number.test_told (eqb i k.frames) given.AllRecorded,
      (
        number.harvest_told (suc i) (drop i p.harvest),
        (number.bounds_told (suc i) (bounds_of (drop i p.wanted.least) (drop i p.wanted.most)), tt),
      ),
    )

rest_told : (s : Shift) (p : Outlook) (ns : List ℕ) → number.Tellable (rest_refusal s p ns)
rest_told s p ns =
    number.first_told (rest_refusals s p ns)
    (number.test_told (not (is_shift s)) given.NotShift, planning_told s.terms s.now p ns)

pub planning_possible : (p : Outlook) (b : List ℕ) (x : State) →
    (a : Planning) × RestSays x.shift p b a.budgets a.answer
planning_possible p b x = go (is_none (rest_refusal s p (length b ∷ []))) refl (reachable q) refl
  where
    s : Shift
    s = x.shift

    q : Request
    q = rest_request s p

    written : List ℕ
    written = take s.now.recorded b ++ rest_budgets q

    go :
        (t : Bool) → is_none (rest_refusal s p (length b ∷ [])) ≡ t → (u : Bool) → reachable q ≡ u →
        (a : Planning) × RestSays s p b a.budgets a.answer
    go false e u d =
        let x = rest_told s p (length b ∷ []) e in
        (record { answer = Err x.0; budgets = b }, rest_refused s p b x.0 x.1)
    go true e true d = (
      record { answer = Ok rest.Planned; budgets = written },
      rest_done s p b e rest.Planned (rest_budgets q) (ending_full q d) refl,
    )
    go true e false d = (
      record { answer = Ok (rest.Short (missing_with_zeros q)); budgets = written },
      rest_done s p b e (rest.Short (missing_with_zeros q)) (rest_budgets q)
          (ending_short q (missing_with_zeros q) d refl) refl,
    )

-- and 22 is not among it
pub planning_not_22 : (l : Logbook) (p : Outlook) (b : List ℕ) → is_number 22 (due_planning l p b).answer ≡ false
planning_not_22 l p b =
    let k = terms l in
    let n = l.page.now in
    let m = length b ∷ [] in
    without ending (planning_refusal l p m) (ending_of (open_request l p)) (planning_refusals k n p m)
    (planning_agrees l p m) (planning_without k n p m)

pub planning_keeps : (p : Outlook) (b : List ℕ) → Keeps (planning p b)
planning_keeps p b =
    record {
      step =
          λ q l i a says.
          let h = planning_agreed l i.is_shift p b a says in
          record { tells_due = h.0; leaves_it = refl; sound = i; means = h.1 };
      without_22 = λ l. planning_not_22 l p b;
      possible = planning_possible p b;
    }
