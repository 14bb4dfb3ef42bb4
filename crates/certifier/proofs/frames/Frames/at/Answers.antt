-- Frame i is made of the harvest, the least and the most i alone, and the figures of a small rule leave room for its
-- sums.
use Rattle.std.proofs.Common.{rules}
use Rattle.certifier.proofs.Reading as law
use Rattle.certifier.proofs.frames.Frames.at.Goals as goal

pub returns : goal.returns
returns c =
    record {
      is = law.frames_read c.args.self c.args.i c.most_of.result c.requires c.most_of.ensures.0;
      plain = search rules;
    }
