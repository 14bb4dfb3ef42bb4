-- Laws of what answers say.
use mathlib.Core.Path.{◌≡◌, refl, sym, ap, ◌∙◌}
use Rattle.std.specs.Prelude.{false, Ok, Err}
use Rattle.model.specs.declared.refusal.Refusal.{Refusal as Given}
use Rattle.model.specs.declared.refusal.Refusal.TheVariants as given
use Rattle.model.specs.Refusals.{Refusal, none, is_none, gives, refuses, outcome}
use Rattle.model.proofs.Choice.{pick_by}
use Rattle.model.specs.Answer.{told, said}

-- a refusal that is given has a number
pub told_some : (e : Given) → is_none (told e) ≡ false
told_some given.NoFrames = refl
told_some given.TooManyFrames = refl
told_some given.CapacityAboveLimit = refl
told_some given.StartAboveCapacity = refl
told_some given.EndAboveCapacity = refl
told_some (given.HarvestAboveLimit k) = refl
told_some given.WrongLength = refl
told_some (given.BadWord i) = refl
told_some (given.OutOfReach a) = refl
told_some (given.BadBounds k) = refl
told_some given.LeastsOutOfReach = refl
told_some given.AllRecorded = refl
told_some (given.UseTooGreat a) = refl
told_some given.NotShift = refl

-- an answer with a value says the outcome of a refusal that is none; one with a refusal says that of this refusal
pub said_value : {A : Type 0} (v : A) {f : Refusal} → none ≡ f → said (Ok v) ≡ outcome f v
said_value v p = ap (λ f. outcome f v) p

pub said_refusal : {A : Type 0} (e : Given) (v : A) {f : Refusal} → told e ≡ f → said {A = A} (Err e) ≡ outcome f v
said_refusal e v p =
    sym (pick_by (is_none (told e)) false (gives v) (refuses (told e)) (told_some e)) ∙ ap (λ f. outcome f v) p
