-- A refusal is answered before anything is written; a request that is not refused fits its words, so its file is put,
-- the place behind it is its length, and the reader reads it back.
use Rattle.std.proofs.Common.{◌≡◌, true, length, sym, ap, ◌∙◌, subst, arith}
use Rattle.model.specs.Lent.{over}
use Rattle.model.specs.Request.{frame_count}
use Rattle.model.specs.declared.Request.{Request as Asked}
use Rattle.model.specs.Answer.{asked, leasts_lent, mosts_lent}
use Rattle.model.specs.Refusals.{is_none}
use Rattle.request.proofs.BadBounds.{bounds_length}
use Rattle.wordfile.specs.File.{file_bytes, write_refusal, Fits}
use Rattle.wordfile.proofs.Refused as law
use Rattle.wordfile.proofs.writer.write.Goals as goal

pub put_file-requires-clause-fits : goal.put_file-requires-clause-fits
put_file-requires-clause-fits c =
    let a = c.args.request in
    let accepted : is_none (write_refusal (asked a) (leasts_lent a) (mosts_lent a) (length c.args.out.now)) ≡ true =
    sym (ap is_none c.in_ok-whole.ensures.refused) in
    subst (λ (x : Asked). Fits (asked x)) (sym c.in_ok-whole.ensures.same)
    (law.write_within (asked a) (leasts_lent a) (mosts_lent a) (length c.args.out.now) accepted).fits

pub returns : goal.returns
returns c =
    let a = c.args.request in
    let q = asked a in
    let accepted : is_none (write_refusal q (leasts_lent a) (mosts_lent a) (length c.args.out.now)) ≡ true =
    sym (ap is_none c.in_ok-whole.ensures.refused) in
    let s = (law.write_within q (leasts_lent a) (mosts_lent a) (length c.args.out.now) accepted).lent in
    let each : length q.bounds ≡ frame_count q =
    bounds_length a.lists.least.now a.lists.most.now (omega (arith, s.leasts, s.mosts)) ∙ s.leasts in
    let e = c.in_ok-whole.ensures.same in
    law.write_written q (leasts_lent a) (mosts_lent a) c.args.out.now c.put_file.new.out c.put_file.result each accepted
    (subst (λ (x : Asked). c.put_file.new.out ≡ over (file_bytes (asked x)) c.args.out.now) e c.put_file.ensures.list)
    (subst (λ (x : Asked). c.put_file.result ≡ length (file_bytes (asked x))) e c.put_file.ensures.behind)
