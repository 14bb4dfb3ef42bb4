-- The listing of the request that was read is the file's.
use Rattle.std.proofs.Common.{◌≡◌, ℕ, length, replicate}
use Rattle.std.proofs.lemmas.List.{length-replicate}
use Rattle.model.specs.Limits.{max_frames}
use Rattle.listing.proofs.Read as law
use Rattle.listing.proofs.listings.put_file.Goals as goal

-- the lists have room for every frame
room :
    let n = length (replicate {A = ℕ} max_frames 0) in (n ≡ max_frames) × (n ≡ max_frames) × (n ≡ max_frames)
room = let e = length-replicate {A = ℕ} max_frames 0 in (e, e, e)

pub returns : goal.returns
returns c =
    law.same_text c.args.page.now c.put_request.new.page c.put_request.result
    (law.is_read c.read.ensures room c.in_ok-header.header c.in_ok-header.was).1
    c.put_request.ensures
