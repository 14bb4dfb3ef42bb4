-- What refusal 22 lets pass, as facts; the refusals of a recording; and that a recorded shift is a shift.
use mathlib.Core.Path.{◌≡◌, refl, sym, ap, ◌∙◌}
use mathlib.Core.Bool.{Bool, true, false, ◌&&◌, not, false≢true}
use mathlib.Core.List.{List, [], ◌∷◌}
use Prim.Native.Nat.{suc, ◌+◌, ◌-◌, ◌*◌, ◌≤◌, ◌<◌}
use native.Mathlib.Omega.{arith}
use lib.Dec.{eqb, ltb, leb}
use borrow.Author.Tests.{leb-true, eqb-true, eqb-false, ltb-false, not-false, le-leb, eq-eqb}
use Rattle.model.specs.Refusals.{Refusal}
use Rattle.model.specs.Choice.{pick}
use Rattle.model.specs.Limits.{max_frames, max_harvest, max_capacity}
use Rattle.model.specs.Refusals.{refusal, none, is_none, first_of}
use Rattle.model.specs.Charge.{at_hand}
use Rattle.model.proofs.Tests.{both}
use Rattle.model.proofs.First.{first_none}
use Rattle.request.proofs.Harvest.{harvest_small}
use Rattle.shift.specs.declared.Terms.{Terms}
use Rattle.shift.specs.declared.Present.{Present}
use Rattle.shift.specs.declared.Typed.{Typed}
use Rattle.shift.specs.declared.Shift.{Shift}
use Rattle.shift.specs.Shift.{are_terms, balances, is_present, is_shift, not_shift, all_recorded, use_too_great, record_refusals}
use Rattle.shift.specs.Shift.{drawn, record_refusal, recorded_by}
use Rattle.shift.specs.Says.{HandingSays, RecordSays}

-- a test that would bring a contradiction doesn't hold
pub refuted : (t : Bool) → (t ≡ true → ⊥) → t ≡ false
refuted true h = absurd (h refl)
refuted false h = refl

-- a refusal that didn't come: its test doesn't hold
untested : (t : Bool) (g : Refusal) → is_none g ≡ false → is_none (pick t g none) ≡ true → t ≡ false
untested true g n e = absurd (false≢true (sym n ∙ e))
untested false g n e = refl

-- a test at the end of a list
pub alone : (t : Bool) → t ≡ t && true
alone true = refl
alone false = refl

-- two tests, the first of which is known
pub and_true : (t u : Bool) → t ≡ true → u ≡ t && u
and_true true u e = refl
and_true false u e = absurd (false≢true e)

-- the tests of terms as facts
pub record TermsHold (k : Terms) : Type 0 where
  pub some : 1 ≤ k.frames
  pub few : k.frames ≤ max_frames
  pub capacity_low : k.capacity ≤ max_capacity
  pub start_low : k.start ≤ k.capacity
  pub end_low : k.end ≤ k.capacity

pub terms_hold : (k : Terms) → are_terms k ≡ true → TermsHold k
terms_hold k e =
    let a = both _ _ e in
    let b = both _ _ a.1 in
    let c = both _ _ b.1 in
    let d = both _ _ c.1 in
    let f = both _ _ d.1 in
    record {
      some = leb-true _ _ a.0;
      few = leb-true _ _ b.0;
      capacity_low = leb-true _ _ c.0;
      start_low = leb-true _ _ d.0;
      end_low = leb-true _ _ f.0;
    }

-- terms with all but the last of them
pub by_end :
    (k : Terms) → 1 ≤ k.frames → k.frames ≤ max_frames → k.capacity ≤ max_capacity → k.start ≤ k.capacity →
    leb k.end k.capacity ≡ are_terms k
by_end k a b c d = rw (le-leb _ _ a, le-leb _ _ b, le-leb _ _ c, le-leb _ _ d) (alone (leb k.end k.capacity))

-- terms with all of them
pub are_terms_lem : (k : Terms) → TermsHold k → are_terms k ≡ true
are_terms_lem k h = sym (by_end k h.some h.few h.capacity_low h.start_low) ∙ le-leb _ _ h.end_low

-- the tests of how a shift stands as facts
pub record PresentHolds (k : Terms) (n : Present) : Type 0 where
  pub within : n.recorded ≤ k.frames
  pub charge_low : n.charge ≤ k.capacity
  pub harvest_low : n.totals.harvested ≤ max_harvest * n.recorded
  pub balanced : k.start + n.totals.harvested ≡ n.charge + n.totals.used + n.totals.lost

pub present_holds : (k : Terms) (n : Present) → is_present k n ≡ true → PresentHolds k n
present_holds k n e =
    let a = both _ _ e in
    let b = both _ _ a.1 in
    let c = both _ _ b.1 in
    let d = both _ _ c.1 in
    record {
      within = leb-true _ _ a.0;
      charge_low = leb-true _ _ b.0;
      harvest_low = leb-true _ _ c.0;
      balanced = eqb-true _ _ d.0;
    }

-- figures with all but the last of them
pub by_balance :
    (k : Terms) (n : Present) (t : Bool) → n.recorded ≤ k.frames → n.charge ≤ k.capacity →
    n.totals.harvested ≤ max_harvest * n.recorded →
    t ≡ balances k n → t ≡ is_present k n
by_balance k n t a b c e = rw (le-leb _ _ a, le-leb _ _ b, le-leb _ _ c, sym e) (alone t)

-- figures with all of them
pub is_present_lem : (k : Terms) (n : Present) → PresentHolds k n → is_present k n ≡ true
is_present_lem k n h =
    sym (by_balance k n true h.within h.charge_low h.harvest_low (sym (eq-eqb _ _ h.balanced)))

-- a record that passes 22
pub record Sound (s : Shift) : Type 0 where
  pub terms : TermsHold s.terms
  pub now : PresentHolds s.terms s.now

pub sound_of : (s : Shift) → is_shift s ≡ true → Sound s
sound_of s e =
    let a = both (are_terms s.terms) (is_present s.terms s.now) e in
    record { terms = terms_hold s.terms a.0; now = present_holds s.terms s.now a.1 }

pub is_sound : (s : Shift) → Sound s → is_shift s ≡ true
is_sound s h =
    sym (and_true (are_terms s.terms) (is_present s.terms s.now) (are_terms_lem s.terms h.terms))
    ∙ is_present_lem s.terms s.now h.now

-- past 22
pub past_22 : (s : Shift) (fs : List Refusal) → is_shift s ≡ true → first_of (not_shift s ∷ fs) ≡ first_of fs
past_22 s fs e = ap (λ (t : Bool). first_of (pick (not t) (refusal 22 0) none ∷ fs)) e

-- no 22 tells a shift
pub sound_by : (s : Shift) → is_none (not_shift s) ≡ true → Sound s
sound_by s e = sound_of s (not-false (is_shift s) (untested (not (is_shift s)) (refusal 22 0) refl e))

-- no 20 tells that a frame is left
pub open_frame : (k : Terms) (n : Present) → is_none (all_recorded k n) ≡ true → n.recorded ≡ k.frames → ⊥
open_frame k n e = eqb-false n.recorded k.frames (untested (eqb n.recorded k.frames) (refusal 20 0) refl e)

-- no 21 tells that what is drawn is at hand
pub use_enough : (k : Terms) (n : Present) (t : Typed) → is_none (use_too_great k n t) ≡ true →
    drawn t ≤ at_hand k.capacity n.charge t.harvest
use_enough k n t e =
    let hand = at_hand k.capacity n.charge t.harvest in
    ltb-false hand (drawn t) (untested (ltb hand (drawn t)) (refusal 21 (drawn t - hand)) refl e)

-- what a recording that is not refused has
pub record Passed (s : Shift) (t : Typed) : Type 0 where
  pub sound : Sound s
  pub more : s.now.recorded < s.terms.frames
  pub small : t.harvest ≤ max_harvest
  pub enough : drawn t ≤ at_hand s.terms.capacity s.now.charge t.harvest

pub passed : (s : Shift) (t : Typed) → is_none (record_refusal s t) ≡ true → Passed s t
passed s t e =
    let a = first_none (record_refusals s t) e in
    let sound = sound_by s a.0 in
    let more = open_frame s.terms s.now a.1.0 in
    record {
      sound = sound;
      more = omega arith;
      small = harvest_small (suc s.now.recorded) (t.harvest ∷ []) a.1.1.0 0;
      enough = use_enough s.terms s.now t a.1.1.1.0;
    }

-- a recorded shift is a shift
pub recorded_sound : (s : Shift) (t : Typed) → Passed s t → Sound (recorded_by s t)
recorded_sound s t p =
    record {
      terms = p.sound.terms;
      now =
          record {
            within = omega arith;
            charge_low = omega arith;
            harvest_low = omega arith;
            balanced = omega arith;
          };
    }

-- the promise of any answer that has the refusal g and the shift due, where the next one is a shift
pub hands_over :
    (s next : Shift) (g f : Refusal) (s' : Shift) →
    (is_shift s ≡ true → is_none g ≡ true → is_shift next ≡ true) →
    f ≡ g → s' ≡ pick (is_none f) next s →
    HandingSays s next g (record { refusal = f; shift = s' })
hands_over s next g f s' n e d =
    let p = d ∙ ap (λ (h : Refusal). pick (is_none h) next s) e in
    record { refusal = e; shift = p; stays = λ i. ap is_shift p ∙ stays i (is_none g) refl }
  where
    stays : is_shift s ≡ true → (b : Bool) → is_none g ≡ b → is_shift (pick b next s) ≡ true
    stays i true e = n i e
    stays i false e = i

-- recording's
pub record_says :
    (s : Shift) (t : Typed) (f : Refusal) (s' : Shift) → f ≡ record_refusal s t →
    s' ≡ pick (is_none f) (recorded_by s t) s →
    RecordSays s t (record { refusal = f; shift = s' })
record_says s t f s' =
    hands_over s (recorded_by s t) (record_refusal s t) f s'
    (λ i n. is_sound (recorded_by s t) (recorded_sound s t (passed s t n)))
