-- What is lent and answered by the code, in the terms of the definitions.
use Rattle.std.specs.Prelude.{ℕ, length, Result, Ok, Err}
use Rattle.model.specs.declared.Request.{Request as Asked}
use Rattle.model.specs.declared.refusal.Refusal.{Refusal as Given}
use Rattle.model.specs.declared.refusal.Refusal.TheVariants as given
use Rattle.model.specs.Request.{Request, bounded_request}
use Rattle.model.specs.Refusals.{Refusal, refusal, none, Outcome, gives, refuses}

-- a request as it is lent, as a request of the definitions
abbrev pub asked : Asked → Request
asked a = bounded_request a.figures a.lists.harvest.now a.lists.least.now a.lists.most.now

-- how many leasts and mosts are lent with it
abbrev pub leasts_lent : Asked → ℕ
leasts_lent a = length a.lists.least.now

abbrev pub mosts_lent : Asked → ℕ
mosts_lent a = length a.lists.most.now

-- number and P of a refusal
abbrev pub told : Given → Refusal
told given.NoFrames = refusal 1 0
told given.TooManyFrames = refusal 2 0
told given.CapacityAboveLimit = refusal 3 0
told given.StartAboveCapacity = refusal 4 0
told given.EndAboveCapacity = refusal 5 0
told (given.HarvestAboveLimit k) = refusal 6 k
told given.WrongLength = refusal 7 0
told (given.BadWord i) = refusal 8 i
told (given.OutOfReach a) = refusal 9 a
told (given.BadBounds k) = refusal 10 k
told given.LeastsOutOfReach = refusal 11 0
told given.AllRecorded = refusal 20 0
told (given.UseTooGreat a) = refusal 21 a
told given.NotShift = refusal 22 0

-- the refusal of an answer; none where it gives a value
abbrev pub refused : {A : Type 0} → Result A Given → Refusal
refused (Ok v) = none
refused (Err e) = told e

-- an answer as an outcome
abbrev pub said : {A : Type 0} → Result A Given → Outcome A
said (Ok v) = gives v
said (Err e) = refuses (told e)
