-- What is written of a text, byte by byte, and what is left of it.
use Rattle.std.proofs.Common.{drop}
use Rattle.text.proofs.Written.{Left}
use Rattle.text.proofs.Page.put.Given as goal

abbrev pub invariant-loop-byte : goal.invariant-loop-byte
invariant-loop-byte l = Left l.text l.initial.self (drop l.byte-index l.text) l.self
