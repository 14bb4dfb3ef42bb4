-- The file on standard input, and what was read of it.
use Rattle.std.specs.Prelude.{◌≡◌, List, ℕ, ◌≤◌, length, take, Result, Ok, Err}
use Rattle.std.specs.declared.io.Error.{Error}

-- the first n bytes of the list are what the file s begins with, as much of it as the list has room for
abbrev pub BeginsWith : List ℕ → List ℕ → ℕ → Type 0
BeginsWith s list n = take (length list) s ≡ take n list

-- what was read lies in a list of so many bytes
abbrev pub ReadWithin : Result ℕ Error → ℕ → Type 0
ReadWithin (Ok n) room = n ≤ room
ReadWithin (Err _) room = Unit {0}
