-- After i words the lists have what their frames say at their fronts, and what is left to say is said by the words
-- left: `Filled`.
use Rattle.words.specs.Words.{words_of}
use Rattle.wordfile.specs.File.{harvest_at, least_at, most_at}
use Rattle.wordfile.specs.Says.{SameRoom}
use Rattle.wordfile.proofs.Found.{Filled}
use Rattle.wordfile.proofs.reader.fill.Given as goal

abbrev pub invariant-loop-i : goal.invariant-loop-i
invariant-loop-i l = record {
  same : SameRoom l.initial.room l.room;
  harvests : Filled harvest_at (words_of l.file) l.initial.room.harvest.now l.room.harvest.now l.i l.frames;
  leasts : Filled least_at (words_of l.file) l.initial.room.least.now l.room.least.now l.i l.frames;
  mosts : Filled most_at (words_of l.file) l.initial.room.most.now l.room.most.now l.i l.frames;
}
