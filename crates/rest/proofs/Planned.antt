-- Planning the rest: what the planner asks is there, and the promise of each of its three answers.
use mathlib.Core.Path.{◌≡◌, refl, sym, ap, subst, ◌∙◌}
use mathlib.Core.Bool.{true, false, false≢true}
use mathlib.Core.List.{List, [], ◌∷◌, ◌++◌, append-nil}
use Prim.Native.Nat.{ℕ, suc, ◌-◌}
use native.Mathlib.Omega.{arith}
use lib.ListN.{length, take, drop, length-append, length-drop, drop_of_length-le}
use lib.Seq.{length-take-le, take_at, drop_at}
use borrow.Author.Tests.{not-true, not-false}
use borrow.Rule.Slice.PartMut.{put_mid}
use Rattle.model.specs.Request.{Request, bounds_of}
use Rattle.model.specs.Charge.{all_within}
use Rattle.model.specs.Refusals.{is_none, reachable, gives, refuses}
use Rattle.model.specs.Reward.{IsPlan}
use Rattle.model.specs.Plan.{plan_of}
use Rattle.model.proofs.Reach.{none_feasible}
use Rattle.model.proofs.Requests.{plan_is}
use Rattle.request.proofs.Within.{length_within}
use Rattle.request.proofs.Leasts.{leasts_are, leasts_in_lem}
use Rattle.rest.specs.Rest.{Outlook, Fillable, zeros}
use Rattle.rest.proofs.Ending.{rest_length}
use Rattle.model.proofs.Choice.{pick_by}
use Rattle.shift.specs.declared.Shift.{Shift}
use Rattle.rest.specs.declared.Rest.{Rest}
use Rattle.model.specs.declared.refusal.Refusal.{Refusal as Given}
use Rattle.model.specs.Answer.{told}
use Rattle.model.proofs.Answer.{told_some}
use Rattle.std.specs.Prelude.{Ok, Err}
use Rattle.rest.specs.Rest.{ending_of, rest_request, rest_refusal, rest_budgets, written_from}
use Rattle.rest.specs.Says.{RestSays, ended}
use Rattle.rest.proofs.Open.{RestOpen, rest_open}

-- the list when the part that was lent on is back
pub put_is : (n : ℕ) (b ys : List ℕ) → put_mid n (length b - n) b ys ≡ take n b ++ ys
put_is n b ys =
    ap (λ (zs : List ℕ). take n b ++ (ys ++ zs))
    (drop_of_length-le (drop n b) {i = length b - n} (omega (arith, length-drop n b)))
    ∙ ap (λ (zs : List ℕ). take n b ++ zs) (append-nil ys)

-- planning's promise, refused
pub rest_refused :
    (s : Shift) (p : Outlook) (b : List ℕ) (e : Given) → told e ≡ rest_refusal s p (length b ∷ []) →
    RestSays s p b b (Err e)
rest_refused s p b e d =
    let q = rest_request s p in
    let g = rest_refusal s p (length b ∷ []) in
    let no : is_none g ≡ false = ap is_none (sym d) ∙ told_some e in
    record {
      answer = ap refuses d ∙ sym (pick_by (is_none g) false (gives (ending_of q)) (refuses g) no);
      budgets = sym (pick_by (is_none g) false (written_from s.now.recorded b (rest_budgets q)) b no);
      means =
          record {
            length_kept = refl;
            recorded_kept = refl;
            plan = λ y. absurd (false≢true (sym no ∙ y));
            none_feasible = λ y. absurd (false≢true (sym no ∙ y));
          };
    }

-- a planning that is not refused
module _ (s : Shift) (p : Outlook) (b : List ℕ) (clear : is_none (rest_refusal s p (length b ∷ [])) ≡ true) where
  -- what is known of it
  pub opened_rest : RestOpen s p (length b ∷ [])
  opened_rest = rest_open s p (length b ∷ []) clear

  budgets_fit : length b ≡ s.terms.frames
  budgets_fit = length_within s.terms.frames (length b) opened_rest.written_fit.0

  -- its budgets can be filled
  pub rest_fillable : Fillable (rest_request s p)
  rest_fillable =
      let o = opened_rest in
      let n = s.now.recorded in
      let k = length-drop n p.harvest in
      let l = length-drop n p.wanted.least in
      let m = length-drop n p.wanted.most in
      record {
        capacity_low = o.sound.terms.capacity_low;
        start_low = o.sound.now.charge_low;
        end_low = o.sound.terms.end_low;
        few = omega arith;
        small = o.small;
        leasts_within =
            ap (all_within (bounds_of (drop n p.wanted.least) (drop n p.wanted.most)))
            (leasts_are (drop n p.harvest) (drop n p.wanted.least) (drop n p.wanted.most) (omega arith) (omega arith))
            ∙ leasts_in_lem (suc n) (drop n p.wanted.least) (drop n p.wanted.most) o.bounds_good;
      }

  -- the promise of any answer that tells how the rest ends and writes its budgets
  pub rest_done :
      (a : Rest) (ys : List ℕ) → ended a ≡ ending_of (rest_request s p) →
      ys ≡ rest_budgets (rest_request s p) → RestSays s p b (take s.now.recorded b ++ ys) (Ok a)
  rest_done a ys e d =
      let q = rest_request s p in
      let n = s.now.recorded in
      let f = rest_refusal s p (length b ∷ []) in
      let o = opened_rest in
      let l = budgets_fit in
      let k : length (take n b) ≡ n = length-take-le n b (omega arith) in
      let z : drop n (take n b ++ ys) ≡ rest_budgets q = drop_at (take n b) ys n k ∙ d in
      record {
        answer = ap gives e ∙ sym (pick_by (is_none f) true (gives (ending_of q)) (refuses f) clear);
        budgets = ap (λ (l : List ℕ). take n b ++ l) d
            ∙ sym (pick_by (is_none f) true (written_from n b (rest_budgets q)) b clear);
        means =
            record {
              length_kept =
                  omega (arith, length-append (take n b) ys, ap length d, rest_length q, length-drop n p.harvest);
              recorded_kept = take_at (take n b) ys n k;
              plan =
                  λ y x.
                  subst (IsPlan q) (sym (z ∙ pick_by (ending_of q).short false (zeros q) (plan_of q) x))
                  (plan_is q o.sound.now.charge_low o.sound.terms.end_low
                  (not-false (reachable q) x));
              none_feasible = λ y x. none_feasible q (not-true (reachable q) x);
            };
      }

  -- the same of what was lent on, as request q, and came back filled
  pub rest_filled :
      (q : Request) → q ≡ rest_request s p → (a : Rest) (ys : List ℕ) → ended a ≡ ending_of q → ys ≡ rest_budgets q →
      RestSays s p b (put_mid s.now.recorded (length b - s.now.recorded) b ys) (Ok a)
  rest_filled q k a ys e d =
      subst (λ (b' : List ℕ). RestSays s p b b' (Ok a)) (sym (put_is s.now.recorded b ys))
      (rest_done a ys (e ∙ ap ending_of k) (d ∙ ap rest_budgets k))
