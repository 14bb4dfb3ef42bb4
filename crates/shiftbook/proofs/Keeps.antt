-- What the proof of demand 3 asks of a kind of call, and what calls that hand a shift over have in common.
use mathlib.Core.Path.{◌≡◌, refl, sym, ap, ◌∙◌}
use mathlib.Core.Bool.{Bool, true, false}
use mathlib.Core.List.{List, [], ◌∷◌, ◌++◌, map}
use Prim.Native.Nat.{ℕ, ◌+◌}
use native.Mathlib.Omega.{arith}
use lib.Dec.{eqb}
use Rattle.model.specs.Refusals.{Refusal}
use Rattle.model.specs.Choice.{pick}
use Rattle.model.specs.Request.{Request, total}
use Rattle.model.specs.Refusals.{gives, refuses, outcome, is_none, first_of}
use Rattle.shift.specs.declared.Totals.{Totals}
use Rattle.shift.specs.declared.Shift.{Shift}
use Rattle.shift.specs.Shift.{started, is_shift, plus}
use Rattle.shift.specs.Says.{ShiftAnswer, shift_said, HandingSays}
use Rattle.shiftbook.specs.Logbook.{Page, sums, Logbook, opened, State, shift_of, with_shift, state_of}
use Rattle.shiftbook.specs.Value.{Value, shift}
use Rattle.shiftbook.specs.Kind.{Kind, valued, tells, is_number}
use Rattle.shiftbook.specs.Calls.{handing}
use Rattle.model.proofs.Numbers.{first_clear}
use Rattle.shiftbook.proofs.Numbers as number

-- the invariant: the logbook is of request q, the record it gives passes 22, and its totals are the sums over its
-- history
pub record Sound (q : Request) (l : Logbook) : Type 0 where
  pub of_is : l.of ≡ q
  pub is_shift : is_shift (shift_of l) ≡ true
  pub totals_are : l.page.now.totals ≡ sums l.page.history

-- a call with the logbook's own state
pub record Step (q : Request) (k : Kind) (l : Logbook) (a : k.Answer) : Type 0 where
  pub tells_due : k.told a ≡ k.due l
  pub leaves_it : k.leaves (state_of l) a ≡ state_of (k.logged l)
  pub sound : Sound q (k.logged l)
  pub means : k.Means l a

-- what a kind has to keep: each step, that 22 is never due, and that its promise can be kept
pub record Keeps (k : Kind) : Type 0 where
  pub step : (q : Request) (l : Logbook) → Sound q l → (a : k.Answer) → k.Says (state_of l) a → Step q k l a
  pub without_22 : (l : Logbook) → is_number 22 (k.due l).answer ≡ false
  pub possible : (x : State) → (a : k.Answer) × k.Says x a

-- an outcome whose refusal is the first of a list without 22
pub without :
    {A : Type 0} (g : A → Value) (f : Refusal) (v : A) (fs : List Refusal) → f ≡ first_of fs → number.Without 22 fs →
    is_number 22 (valued g (outcome f v)) ≡ false
without g f v fs e w = go (is_none f)
  where
    go : (t : Bool) → is_number 22 (valued g (pick t (gives v) (refuses f))) ≡ false
    go true = refl
    go false = ap (λ (h : Refusal). eqb h.number 22) e ∙ first_clear (number.is 22) refl fs w

-- what an answer says whose refusal is f, and whose shift is v without one
pub handed_says :
    (a : ShiftAnswer) (f : Refusal) (v s : Shift) → a.refusal ≡ f → a.shift ≡ pick (is_none f) v s →
    shift_said a ≡ outcome f v
handed_says a f v s e d = ap (λ (g : Refusal). outcome g a.shift) e ∙ ap (outcome f) d ∙ go (is_none f)
  where
    go : (t : Bool) → pick t (gives (pick t v s)) (refuses f) ≡ pick t (gives v) (refuses f)
    go true = refl
    go false = refl

-- a choice of logbooks and the choice of their records
pub shift_pick : (t : Bool) (l m : Logbook) → pick t (shift_of l) (shift_of m) ≡ shift_of (pick t l m)
shift_pick true l m = refl
shift_pick false l m = refl

-- a call that hands a shift over: its refusal g is the logbook's, and its next shift that of the logbook afterwards
pub handing_step :
    (says : Shift → ShiftAnswer → Type 0) (f : Logbook → Refusal) (m : Logbook → Logbook) (q : Request) (l : Logbook)
    (next : Shift) (g : Refusal) (a : ShiftAnswer) →
    Sound q l → HandingSays (shift_of l) next g a → g ≡ f l → (is_none (f l) ≡ true → next ≡ shift_of (m l)) →
    with_shift (state_of l) (shift_of (m l)) ≡ state_of (m l) →
    (is_shift (shift_of (m l)) ≡ true → Sound q (m l)) →
    Step q (handing says f m) l a
handing_step says f m q l next g a i p e n k s =
    let z : a.shift ≡ pick (is_none (f l)) (shift_of (m l)) (shift_of l) =
    p.shift ∙ ap (λ (h : Refusal). pick (is_none h) next (shift_of l)) e ∙ same (is_none (f l)) n in
    let w : a.shift ≡ shift_of (pick (is_none (f l)) (m l) l) = z ∙ shift_pick (is_none (f l)) (m l) l in
    record {
      tells_due = ap (λ o. tells shift o []) (handed_says a (f l) (shift_of (m l)) (shift_of l) (p.refusal ∙ e) z);
      leaves_it = ap (with_shift (state_of l)) w ∙ kept (is_none (f l));
      sound = sound (is_none (f l)) (ap is_shift (sym w) ∙ p.stays i.is_shift);
      means = tt;
    }
  where
    same :
        (t : Bool) → (t ≡ true → next ≡ shift_of (m l)) →
        pick t next (shift_of l) ≡ pick t (shift_of (m l)) (shift_of l)
    same true h = h refl
    same false h = refl

    kept : (t : Bool) → with_shift (state_of l) (shift_of (pick t (m l) l)) ≡ state_of (pick t (m l) l)
    kept true = k
    kept false = refl

    sound : (t : Bool) → is_shift (shift_of (pick t (m l) l)) ≡ true → Sound q (pick t (m l) l)
    sound true h = s h
    sound false h = i

-- the logbook as it opens
pub opened_sound : (q : Request) → is_shift (started q) ≡ true → Sound q (opened q)
opened_sound q i = record { of_is = refl; is_shift = i; totals_are = refl }

-- the logbook at another page
pub sound_at :
    (q : Request) (l : Logbook) (p : Page) → Sound q l → is_shift (shift_of (record l { page = p })) ≡ true →
    p.now.totals ≡ sums p.history → Sound q (record l { page = p })
sound_at q l p i n t = record { of_is = i.of_is; is_shift = n; totals_are = t }

-- one more in a sum
sum_more : (f : Totals → ℕ) (es : List Totals) (e : Totals) → total (map f (es ++ (e ∷ []))) ≡ total (map f es) + f e
sum_more f [] e = omega arith
sum_more f (x ∷ es) e = let i = sum_more f es e in omega arith

-- one more frame in the history
pub sums_more : (es : List Totals) (e : Totals) → plus (sums es) e ≡ sums (es ++ (e ∷ []))
sums_more es e =
    let h = sum_more (λ (x : Totals). x.harvested) es e in
    let u = sum_more (λ (x : Totals). x.used) es e in
    let l = sum_more (λ (x : Totals). x.lost) es e in
    cc (h, u, l)
