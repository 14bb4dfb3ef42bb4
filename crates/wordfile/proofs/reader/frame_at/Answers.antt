-- The bounds behind the harvest word, one after the other.
use Rattle.std.proofs.Common.{◌≡◌, ℕ, ◌+◌, drop, refl, sym, ap, ◌∙◌}
use Rattle.std.proofs.lemmas.List.{drop-drop}
use Rattle.model.specs.Limits.{no_upper_end}
use Rattle.words.specs.Words.{words_of}
use Rattle.wordfile.specs.File.{bound_in, past_least}
use Rattle.wordfile.proofs.Found as law
use Rattle.wordfile.proofs.reader.frame_at.Goals as goal

pub returns-then-not-is_bound-clause-least : goal.returns-then-not-is_bound-clause-least
returns-then-not-is_bound-clause-least c =
    let behind = drop (c.args.i + 1) (words_of c.args.file.now) in
    law.no_least behind (c.if-not-is_bound.ensures refl 4 refl)

pub returns-then-not-is_bound-clause-most : goal.returns-then-not-is_bound-clause-most
returns-then-not-is_bound-clause-most c =
    let behind = drop (c.args.i + 1) (words_of c.args.file.now) in
    law.no_most behind (c.if-not-is_bound.ensures refl 4 refl) (c.if-not-is_bound.ensures refl 5 refl)

pub returns-clause-most : goal.returns-clause-most
returns-clause-most c =
    let ws = words_of c.args.file.now in
    let behind = drop (c.args.i + 1) ws in
    let m = c.bound_at-most in
    let n : c.from.result ≡ law.bounds (bound_in 4 behind) =
    c.from.ensures ∙ (rw (c.is_some.ensures, c.bound_at-least.ensures) (law.bounds_are (bound_in 4 behind))) in
    let past : drop (c.args.i + 1 + c.from.result) ws ≡ past_least behind =
    ap (λ (k : ℕ). drop (c.args.i + 1 + k) ws) n
    ∙ (sym (drop-drop (law.bounds (bound_in 4 behind)) (c.args.i + 1) ws) ∙ law.in_past behind) in
    c.unwrap_or-2.ensures ∙ (rw (m.ensures, past) (law.in_at 5 no_upper_end (past_least behind)))
