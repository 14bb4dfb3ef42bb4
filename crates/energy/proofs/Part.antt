-- The index told to C is where the part lies: by the entry's promise it lies four bytes on for each recorded frame.
use mathlib.Core.Path.{◌≡◌, refl, sym, ap, ◌∙◌}
use mathlib.Core.Bool.{Bool, true, false}
use mathlib.Core.List.{List, []}
use Prim.Native.Nat.{ℕ, ◌+◌, ◌-◌, ◌*◌, ◌/◌, ◌≤◌}
use native.Mathlib.Omega.{arith}
use lib.ListN.{length, take, drop, length-drop}
use lib.Seq.{take_all}
use borrow.Author.Tests.{eq-eqb}
use Rattle.std.specs.Borrow.{Bor}
use Rattle.std.specs.Prelude.{Ok, Err}
use Rattle.model.specs.declared.refusal.Refusal.{Refusal as Given}
use Rattle.model.specs.Answer.{told}
use Rattle.model.specs.Choice.{pick}
use Rattle.model.specs.Refusals.{is_none}
use Rattle.model.proofs.Choice.{pick_by}
use Rattle.shift.specs.declared.Shift.{Shift}
use Rattle.rest.specs.Rest.{part_refusal}
use Rattle.rest.specs.Says.{Part, PartIs, part_as}
use Rattle.answers.specs.Refusal.{refusal_flat}
use Rattle.answers.specs.declared.refusal.EnergyRefusal.{EnergyRefusal}
use Rattle.energy.specs.declared.shifts.EnergyPartAnswer.{EnergyPartAnswer}
use Rattle.energy.specs.Through.{Through}
use Rattle.energy.specs.Part.{part_flat}

module _ (s : Shift) (b : List ℕ) (at : ℕ × ℕ) where
  -- where the part lies, by whether there is a refusal
  lies : (x : Part) → PartIs s b at x → (t : Bool) → is_none (part_refusal s (length b)) ≡ t →
      x.at.1 ≡ at.1 + 4 * pick t s.now.recorded 0
  lies x w t e = w.offset ∙ ap (λ (u : Bool). at.1 + 4 * pick u s.now.recorded 0) e

  -- the answer about a part that lies at that index
  kept_at : (x : Part) → PartIs s b at x → (i : ℕ) → x.at.1 ≡ at.1 + 4 * i → (f : EnergyRefusal) →
      f ≡ refusal_flat x.refusal →
      Through (PartIs s b at) (part_flat at) (record { refusal = f; from = i; length = length x.contents })
  kept_at x w i l f g =
      let e : i ≡ (x.at.1 - at.1) / 4 = omega arith in
      record {
        answer = x;
        says = w;
        is_flat =
            ap (λ (n : ℕ). record { refusal = f; from = n; length = length x.contents }) e
            ∙ ap (λ (h : EnergyRefusal). record { refusal = h; from = (x.at.1 - at.1) / 4; length = length x.contents }) g;
      }

  -- accepted: the part begins at the next frame
  pub part_given : (r : Bor (List ℕ)) → PartIs s b at (part_as at (Ok r)) → (f : EnergyRefusal) →
      (f.number ≡ 0) × (f.p ≡ 0) →
      Through (PartIs s b at) (part_flat at) (record { refusal = f; from = s.now.recorded; length = length r.now })
  part_given r w f z =
      kept_at (part_as at (Ok r)) w s.now.recorded
      (lies (part_as at (Ok r)) w true (eq-eqb (part_refusal s (length b)).number 0 (sym w.number_is))) f
      (ap (λ (n : ℕ). record { number = n; p = f.p }) z.0 ∙ ap (λ (n : ℕ). record { number = 0; p = n }) z.1)

  -- refused: the empty part at the beginning
  pub part_refused : (e : Given) → PartIs s b at (part_as at (Err e)) → (f : EnergyRefusal) →
      f ≡ refusal_flat (told e) →
      Through (PartIs s b at) (part_flat at) (record { refusal = f; from = 0; length = 0 })
  part_refused e w f g = kept_at (part_as at (Err e)) w 0 (omega arith) f g

-- what index and length mean: the part lies within the budgets and holds those of the frames not yet recorded;
-- nothing when refused
pub part_within :
    (s : Shift) (b : List ℕ) (at : ℕ × ℕ) (r : EnergyPartAnswer) → Through (PartIs s b at) (part_flat at) r →
    (r.from + r.length ≤ length b)
    × (take r.length (drop r.from b) ≡ pick (is_none (part_refusal s (length b))) (drop s.now.recorded b) [])
part_within s b at r w = rw w.is_flat (go (is_none (part_refusal s (length b))) refl)
  where
    x : Part
    x = w.answer

    n : ℕ
    n = s.now.recorded

    go :
        (t : Bool) → is_none (part_refusal s (length b)) ≡ t →
        ((x.at.1 - at.1) / 4 + length x.contents ≤ length b)
        × (take (length x.contents) (drop ((x.at.1 - at.1) / 4) b) ≡ pick t (drop n b) [])
    go true e =
        let i : (x.at.1 - at.1) / 4 ≡ n = omega (arith, lies s b at x w.says true e) in
        let c : x.contents ≡ drop n b = w.says.contents ∙ pick_by _ true (drop n b) [] e in
        let l : n + length (drop n b) ≡ length b = omega (arith, length-drop n b, rw c at (w.says.rest e).1) in
        rw (i, c) (omega arith, take_all (length (drop n b)) (drop n b) (omega arith))
    go false e =
        let i : (x.at.1 - at.1) / 4 ≡ 0 = omega (arith, lies s b at x w.says false e) in
        let c : x.contents ≡ [] = w.says.contents ∙ pick_by _ false (drop n b) [] e in
        rw (i, c) (omega arith, refl)
