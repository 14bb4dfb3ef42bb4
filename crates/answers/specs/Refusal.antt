-- A refusal as C gets it.
use Rattle.model.specs.Refusals.{Refusal}
use Rattle.answers.specs.declared.refusal.EnergyRefusal.{EnergyRefusal}

abbrev pub refusal_flat : Refusal → EnergyRefusal
refusal_flat f = record { number = f.number; p = f.p }

-- the refusal that C got
abbrev pub refusal_told : EnergyRefusal → Refusal
refusal_told f = record { number = f.number; p = f.p }
