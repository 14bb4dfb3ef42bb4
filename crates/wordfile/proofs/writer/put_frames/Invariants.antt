-- What puts the words of the frames left puts those of all.
use Rattle.std.proofs.Common.{length, ◌+◌, ◌*◌, ◌≡◌, ◌≤◌}
use Rattle.model.specs.Request.{bounds_of}
use Rattle.words.specs.Puts.{Wrote}
use Rattle.words.specs.declared.writer.Writer.{Writer}
use Rattle.wordfile.specs.File.{FramesFit, words_of_frames}
use Rattle.wordfile.proofs.writer.put_frames.Given as goal

abbrev pub invariant-loop-harvest : goal.invariant-loop-harvest
invariant-loop-harvest l =
    let hs = l.harvest-iterator.a.a.rest.now in
    let ls = l.harvest-iterator.a.b.rest.now in
    let ms = l.harvest-iterator.b.rest.now in
    let lists = l.whole.request.lists in record {
      can : (goal.iterator-loop-harvest).can_next l.harvest-iterator;
      ends : (goal.iterator-loop-harvest).is_finite l.harvest-iterator;
      leasts : length ls ≡ length hs;
      mosts : length ms ≡ length hs;
      fits : FramesFit hs (bounds_of ls ms);
      room : l.writer.at + 4 * length (words_of_frames hs (bounds_of ls ms)) ≤ length l.writer.out.now;
      rest :
          (w : Writer) → Wrote (words_of_frames hs (bounds_of ls ms)) l.writer w →
          Wrote (words_of_frames lists.harvest.now (bounds_of lists.least.now lists.most.now)) l.initial.writer w;
    }
