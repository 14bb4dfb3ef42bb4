-- The machine over the words left gives the form of all of them: each step keeps this, and the last one gives it.
use Rattle.std.proofs.Common.{length, drop, ◌/◌, ◌≡◌, ◌≤◌}
use Rattle.words.specs.Words.{words_of}
use Rattle.wordfile.specs.Form.{scan, form_of}
use Rattle.wordfile.proofs.form.scan.Given as goal

abbrev pub invariant-loop-i : goal.invariant-loop-i
invariant-loop-i l = record {
  words : l.n ≡ length l.file / 4;
  few : l.state.frames ≤ l.i;
  rest : scan l.state l.i (drop l.i (words_of l.file)) ≡ form_of (words_of l.file);
}
