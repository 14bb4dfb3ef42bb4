-- The bands before the loop are all of the worth, which is bounded, and so is each part of it.
use Rattle.std.proofs.Common.{arith, ap, sym, ◌∙◌, ◌-◌, ◌+◌, ◌*◌, ◌≡◌, ℕ, get_or, rules}
use Rattle.std.proofs.lemmas.Slice.Zip.{Zip-more, either_empty_from_Zip}
use Rattle.model.specs.Curves.{worth}
use Rattle.grader.specs.Curves.{curve_of}
use Rattle.grader.proofs.Bands as law
use Rattle.grader.proofs.curves.Curve.worth.Goals as goal

pub loop-to-init : goal.loop-to-init
loop-to-init c =
    let t = c.args.self.now in
    let s = c.into_iter-to-iterator.result in
    let es : s.a.rest.now ≡ t.edges = search rules in
    let gs : s.b.rest.now ≡ t.gains = search rules in
    let start = law.table_start t c.requires c.args.budget s.a.rest.now s.b.rest.now es gs in
    ((tt, tt), tt, start.0, start.1, start.2)

pub overflow_add-sum : goal.overflow_add-sum
overflow_add-sum c =
    let t = c.args.self.now in
    let l = c.loop-to in
    let i = l.to-iterator in
    let j = c.next.new.self in
    let w = worth (curve_of t) c.args.budget in
    let more = Zip-more i j c.next.result (c.in-Some.to, c.in-Some.gain) c.in-Some.is c.next.ensures.steps in
    omega (
      arith,
      law.band_part c.args.budget l.from w l.sum c.in-Some.to.now c.in-Some.gain.now c.saturating_sub.result
          i.a.rest.now i.b.rest.now j.a.rest.now j.b.rest.now more.0 more.1 l.invariant.4
          (c.saturating_sub.ensures ∙ ap (λ (n : ℕ). n - l.from) c.min.ensures),
      law.table_bound t c.requires c.args.budget,
    )

-- past the loop the edges are at an end, and the last gain is for all that is left
whole : (c : goal.After-saturating_sub-2) → c.loop-to.sum + get_or c.args.self.now.gains 4 0 * c.saturating_sub-2.result
    ≡ worth (curve_of c.args.self.now) c.args.budget
whole c =
    let l = c.loop-to in
    let i = l.to-iterator in
    let es = i.a.rest.now in
    let gs = i.b.rest.now in
    let g = get_or c.args.self.now.gains 4 0 in
    let over = law.edges_over es gs (either_empty_from_Zip i c.next.new.self c.next.result c.in-None.is c.next.ensures.steps)
    l.invariant.2 in
    ap (λ (u : ℕ). l.sum + g * u) c.saturating_sub-2.ensures
    ∙ law.band_end c.args.budget l.from (worth (curve_of c.args.self.now) c.args.budget) l.sum g es gs over l.invariant.2
    (sym l.invariant.3) l.invariant.4

pub overflow_add-result : goal.overflow_add-result
overflow_add-result c = omega (arith, whole c, law.table_bound c.args.self.now c.requires c.args.budget)

pub returns-clause-below : goal.returns-clause-below
returns-clause-below c = omega (arith, whole c, law.table_bound c.args.self.now c.requires c.args.budget)
