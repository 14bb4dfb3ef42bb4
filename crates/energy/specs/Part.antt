-- The returned part of a shift's budgets: a reference is not handed to C, so C gets where it lies and how long it is.
use Rattle.std.specs.Prelude.{ℕ, ◌-◌, ◌/◌, length}
use Rattle.rest.specs.Says.{Part}
use Rattle.answers.specs.Refusal.{refusal_flat}
use Rattle.energy.specs.declared.shifts.EnergyPartAnswer.{EnergyPartAnswer}

-- the part of a list that lies at that position: the index of its first entry, each being four bytes, and its length
abbrev pub part_flat : ℕ × ℕ → Part → EnergyPartAnswer
part_flat at x = record { refusal = refusal_flat x.refusal; from = (x.at.1 - at.1) / 4; length = length x.contents }
