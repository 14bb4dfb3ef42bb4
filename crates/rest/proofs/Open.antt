-- The refusals of planning the rest and of returning its part, what their absence tells, and the promise of a part.
use mathlib.Core.Path.{◌≡◌, refl, sym, ap, ◌∙◌}
use mathlib.Core.Bool.{Bool, true, false, not, false≢true}
use mathlib.Core.List.{List, [], ◌∷◌, ◌++◌, map}
use Prim.Native.Nat.{ℕ, suc, ◌+◌, ◌*◌, ◌≤◌, ◌<◌}
use native.Mathlib.Omega.{arith}
use lib.Dec.{eqb}
use lib.ListN.{length, get_or, take, drop, length-drop, take-append-drop}
use borrow.Author.Tests.{eq-eqb, ne_eqb}
use Rattle.model.specs.Refusals.{Refusal}
use Rattle.model.specs.Choice.{pick}
use Rattle.model.specs.Limits.{max_harvest}
use Rattle.model.specs.Refusals.{is_none, refuse_if, first_of, wrong_length, AllNone}
use Rattle.model.proofs.Choice.{pick_by}
use Rattle.model.proofs.First.{first_none, both_none}
use Rattle.request.proofs.Harvest.{harvest_small}
use Rattle.request.proofs.Within.{length_within}
use Rattle.shift.specs.declared.Shift.{Shift}
use Rattle.shift.specs.Shift.{is_shift}
use Rattle.rest.specs.Rest.{Outlook, part_refusals, part_refusal, length_refusals, rest_bounds}
use Rattle.rest.specs.Rest.{unrecorded_refusals, rest_refusals, rest_refusal}
use Rattle.rest.specs.Says.{PartSays}
use Rattle.shift.proofs.Record.{Sound, sound_by, open_frame}

-- what a part that is not refused has
pub record PartOpen (s : Shift) (b : ℕ) : Type 0 where
  pub fits : b ≡ s.terms.frames
  pub more : s.now.recorded < s.terms.frames

pub part_open : (s : Shift) (b : ℕ) → is_none (part_refusal s b) ≡ true → PartOpen s b
part_open s b e =
    let a = first_none (part_refusals s b) e in
    let sound = sound_by s a.0 in
    let more = open_frame s.terms s.now a.1.1.0 in
    record { fits = length_within s.terms.frames b a.1.0; more = omega arith }

-- P of a part's refusal is 0
pub part_p : (s : Shift) (b : ℕ) → (part_refusal s b).p ≡ 0
part_p s b = go (not (is_shift s)) (not (eqb b s.terms.frames)) (eqb s.now.recorded s.terms.frames)
  where
    go : (t u v : Bool) → (first_of (refuse_if t 22 ∷ refuse_if u 7 ∷ refuse_if v 20 ∷ [])).p ≡ 0
    go true u v = refl
    go false true v = refl
    go false false true = refl
    go false false false = refl

-- the promise of a part refused
pub part_refused :
    (s : Shift) (b : List ℕ) (at : ℕ × ℕ) (o : ℕ) (f : Refusal) →
    o ≡ at.1 →
    f ≡ part_refusal s (length b) →
    (f.number ≡ 0 → ⊥) →
    PartSays s b [] at (at.0, o) f.number f.p
part_refused s b at o f q e n =
    let no : is_none (part_refusal s (length b)) ≡ false = ap is_none (sym e) ∙ ne_eqb f.number 0 n in
    record {
      number_is = ap (λ (g : Refusal). g.number) e;
      p_is = ap (λ (g : Refusal). g.p) e ∙ part_p s (length b);
      contents = sym (pick_by (is_none (part_refusal s (length b))) false (drop s.now.recorded b) [] no);
      block = refl;
      offset = let z = ap (λ (t : Bool). pick t s.now.recorded 0) no in omega arith;
      rest = λ y. absurd (false≢true (sym no ∙ y));
    }

-- the promise of a part returned
pub part_returned :
    (s : Shift) (b part : List ℕ) (at : ℕ × ℕ) (o : ℕ) (f : Refusal) →
    o ≡ at.1 + 4 * s.now.recorded →
    part ≡ drop s.now.recorded b →
    f ≡ part_refusal s (length b) →
    f.number ≡ 0 →
    PartSays s b part at (at.0, o) f.number f.p
part_returned s b part at o f q d e n =
    let ok : is_none (part_refusal s (length b)) ≡ true = ap is_none (sym e) ∙ eq-eqb f.number 0 n in
    let r = part_open s (length b) ok in
    record {
      number_is = ap (λ (g : Refusal). g.number) e;
      p_is = ap (λ (g : Refusal). g.p) e ∙ part_p s (length b);
      contents = d ∙ sym (pick_by (is_none (part_refusal s (length b))) true (drop s.now.recorded b) [] ok);
      block = refl;
      offset = let z = ap (λ (t : Bool). pick t s.now.recorded 0) ok in omega arith;
      rest = λ y. (
        ap (λ (l : List ℕ). take s.now.recorded b ++ l) d
            ∙ take-append-drop s.now.recorded b,
        omega (arith, ap length d, length-drop s.now.recorded b),
      );
    }

-- what a planning that is not refused has
pub record RestOpen (s : Shift) (p : Outlook) (ns : List ℕ) : Type 0 where
  pub sound : Sound s
  pub harvest_fits : length p.harvest ≡ s.terms.frames
  pub leasts_fit : length p.wanted.least ≡ s.terms.frames
  pub mosts_fit : length p.wanted.most ≡ s.terms.frames
  pub written_fit : AllNone (map (wrong_length s.terms.frames) ns)
  pub more : s.now.recorded < s.terms.frames
  pub small : (i : ℕ) → get_or (drop s.now.recorded p.harvest) i 0 ≤ max_harvest
  pub bounds_good : is_none (rest_bounds s.now p.wanted) ≡ true

pub rest_open : (s : Shift) (p : Outlook) (ns : List ℕ) → is_none (rest_refusal s p ns) ≡ true → RestOpen s p ns
rest_open s p ns e =
    let k = s.terms.frames in
    let n = s.now.recorded in
    let all = first_none (rest_refusals s p ns) e in
    let sound = sound_by s all.0 in
    let parts = both_none (length_refusals k p ns) (unrecorded_refusals s.terms s.now p) all.1 in
    let lengths = parts.0 in
    let frames = parts.1 in
    let more = open_frame s.terms s.now frames.0 in
    record {
      sound = sound;
      harvest_fits = length_within k (length p.harvest) lengths.0;
      leasts_fit = length_within k (length p.wanted.least) lengths.1.0;
      mosts_fit = length_within k (length p.wanted.most) lengths.1.1.0;
      written_fit = lengths.1.1.1;
      more = omega arith;
      small = harvest_small (suc n) (drop n p.harvest) frames.1.0;
      bounds_good = frames.1.1.0;
    }
