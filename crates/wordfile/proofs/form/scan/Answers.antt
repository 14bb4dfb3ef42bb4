-- The machine over the words left gives the form of all of them: each step keeps this, and the last one gives it.
use Rattle.std.proofs.Common.{◌≡◌, ℕ, length, get_or, ap, ◌∙◌, subst, refl, add-one, ◌/◌, arith}
use Rattle.words.specs.Words.{words_of}
use Rattle.words.proofs.Bytes.{words_length}
use Rattle.wordfile.specs.Form.{Broken, form_of, step_of}
use Rattle.wordfile.specs.Says.{scanned}
use Rattle.wordfile.specs.declared.form.Step.TheVariants.{On}
use Rattle.wordfile.proofs.Machine as law
use Rattle.wordfile.proofs.form.scan.Goals as goal

pub loop-i-preserved : goal.loop-i-preserved
loop-i-preserved c =
    let ws = words_of c.args.file.now in
    let p = c.loop-i in
    let t = c.in-On.next in
    let e : On t ≡ step_of p.state (get_or ws p.i 0) =
    c.in-On.ensures ∙ ap (step_of p.state) (c.from.ensures.is ∙ c.nth.ensures) in
    let f = law.frames_grow p.state t (get_or ws p.i 0) e in
    record {
      words = refl;
      few = omega (arith, f, p.invariant.few);
      rest =
          rw (add-one p.i)
          (law.steps ws p.state p.i (form_of ws) p.invariant.rest
          (omega (arith, c.loop-i-test.true, words_length c.args.file.now)) (On t) e);
    }

pub returns : goal.returns
returns c =
    let s = c.args.file.now in
    let ws = words_of s in
    let p = c.loop-i in
    let e : p.i ≡ length s / 4 = omega (arith, p.auto.i-end, c.loop-i-test.false) in
    let m = law.missing ws p.state p.i (form_of ws) p.invariant.rest (omega (arith, words_length s, e)) in
    ap scanned (subst (λ (k : ℕ). Broken k ≡ form_of ws) e m)
