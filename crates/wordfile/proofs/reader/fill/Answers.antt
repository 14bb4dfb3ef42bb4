-- After i words the lists have what their frames say at their fronts, and what is left to say is said by the words
-- left: `Filled`.
use Rattle.std.proofs.Common.{◌≡◌, length, get_or, set, ◌<◌, refl, ap, ◌∙◌, arith}
use Rattle.words.specs.Words.{words_of, kind_of}
use Rattle.words.proofs.Bytes.{words_length}
use Rattle.wordfile.proofs.Found as law
use Rattle.wordfile.proofs.Sorts.{says_harvest, says_other}
use Rattle.wordfile.proofs.reader.fill.Goals as goal
use Rattle.wordfile.proofs.reader.fill.Goals.{in-Harvest, in_default}

pub loop-i-preserved : goal.loop-i-preserved
loop-i-preserved c =
    let p = c.loop-i.invariant in
    let a = c.requires in
    let e = c.from.ensures.is ∙ c.nth.ensures in
    let inside : c.loop-i.i < length (words_of c.args.file.now) = omega (arith, c.loop-i-test.true, words_length c.args.file.now) in
    elim c.match-from.branch [
      | in-Harvest w ↦
          let z : kind_of (get_or (words_of c.args.file.now) c.loop-i.i 0) ≡ 1 =
          says_harvest w.in-Harvest.is c.from.ensures c.nth.ensures in
          let f = w.frame_at-frame.ensures in
          rw (w.room-is, w.frames-is) record {
            same = record { harvest = p.same.harvest; least = p.same.least; most = p.same.most };
            harvests = law.filled_harvest p.harvests inside refl refl z a.harvests_fit (ap (set _ _) f.harvest);
            leasts = law.filled_harvest p.leasts inside refl refl z a.leasts_fit (ap (set _ _) f.least);
            mosts = law.filled_harvest p.mosts inside refl refl z a.mosts_fit (ap (set _ _) f.most);
          }
      | in_default w ↦
          let n = says_other c.from.result w.in_default.not-Harvest w.in_default.not-End c.from.ensures c.nth.ensures in
          rw (w.room-is, w.frames-is) record {
            same = p.same;
            harvests = law.filled_none p.harvests inside refl refl n.0 n.1;
            leasts = law.filled_none p.leasts inside refl refl n.0 n.1;
            mosts = law.filled_none p.mosts inside refl refl n.0 n.1;
          }
    ]

pub returns-clause-harvest : goal.returns-clause-harvest
returns-clause-harvest c =
    (law.filled_over c.loop-i.invariant.harvests (omega (arith, c.loop-i-test.false, words_length c.args.file.now))).list

pub returns-clause-least : goal.returns-clause-least
returns-clause-least c =
    (law.filled_over c.loop-i.invariant.leasts (omega (arith, c.loop-i-test.false, words_length c.args.file.now))).list

pub returns-clause-most : goal.returns-clause-most
returns-clause-most c =
    (law.filled_over c.loop-i.invariant.mosts (omega (arith, c.loop-i-test.false, words_length c.args.file.now))).list

pub returns-clause-count : goal.returns-clause-count
returns-clause-count c =
    (law.filled_over c.loop-i.invariant.harvests (omega (arith, c.loop-i-test.false, words_length c.args.file.now))).count
