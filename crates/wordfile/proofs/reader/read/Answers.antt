-- A refusal is answered before anything is written; a file that is not refused closed, so what its frames say has room,
-- and its words that say something are the file of its request.
use Rattle.std.proofs.Common.{◌≡◌, true, length, sym, ap, arith}
use Rattle.model.specs.Refusals.{is_none}
use Rattle.wordfile.specs.Says.{read_refused}
use Rattle.wordfile.proofs.Refused as law
use Rattle.wordfile.proofs.reader.read.Goals as goal

pub fill-frames-requires : goal.fill-frames-requires
fill-frames-requires c =
    let a = c.args in
    let accepted : is_none (read_refused a.file.now a.harvest.now a.least.now a.most.now) ≡ true =
    sym (ap is_none c.in_ok-check_read.ensures) in
    let w = law.read_within a.file.now (length a.harvest.now) (length a.least.now) (length a.most.now) accepted in
    record { harvests_fit = w.harvests; leasts_fit = w.leasts; mosts_fit = w.mosts }

pub figures_in-requires : goal.figures_in-requires
figures_in-requires c =
    let a = c.args in
    let accepted : is_none (read_refused a.file.now a.harvest.now a.least.now a.most.now) ≡ true =
    sym (ap is_none c.in_ok-check_read.ensures) in
    (law.read_within a.file.now (length a.harvest.now) (length a.least.now) (length a.most.now) accepted).figures

pub returns : goal.returns
returns c =
    let a = c.args in
    let r = c.fill-frames in
    let accepted : is_none (read_refused a.file.now a.harvest.now a.least.now a.most.now) ≡ true =
    sym (ap is_none c.in_ok-check_read.ensures) in
    let s = r.ensures.same in
    let h = r.ensures.harvest in
    let l = r.ensures.least in
    let m = r.ensures.most in
    law.read_accepted a.file.now a.harvest.now a.least.now a.most.now _ _ _ c.figures_in.result r.result accepted
    c.figures_in.ensures r.ensures.count (grind arith) (grind arith) (grind arith)
