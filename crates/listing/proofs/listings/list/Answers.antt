-- The text put on the empty page is what is written into the list.
use Rattle.std.proofs.Common.{rules}
use Rattle.listing.proofs.Read as law
use Rattle.listing.proofs.listings.list.Goals as goal

pub returns : goal.returns
returns c =
    let p = c.of-page in
    law.page_says p.result c.put_listing.new.page c.put_listing.ensures (p.ensures.as_lent, p.ensures.nothing)
    (search rules, c.written.ensures)
