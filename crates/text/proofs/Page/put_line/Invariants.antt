-- What is written of a line, figure by figure and byte by byte, and what is left of it.
use Rattle.std.proofs.Common.{drop}
use Rattle.text.specs.Line.{line_of}
use Rattle.text.proofs.Written.{Left}
use Rattle.text.proofs.Page.put_line.Given as goal

abbrev pub invariant-loop-byte : goal.invariant-loop-byte
invariant-loop-byte l =
    Left (line_of l.pattern l.figures) l.initial.self (line_of (drop l.byte-index l.pattern) l.left.rest.now) l.self
