use Rattle.std.proofs.Common.{refl, []}
use Rattle.spool_journal.specs.declared.TheConstants.{PAGE}
use Rattle.spool_pages.specs.View.{magic, first_page}
use Rattle.spool_pages.proofs.Bytes.{padded_zeros}
use Rattle.spool_pages.proofs.pages.first_page.Goals as goal

pub returns : goal.returns
unfolding first_page
returns c =
    let prefix = c.put.ensures.padded [] refl (padded_zeros PAGE) in
    rw c.to_be_bytes.ensures at (c.put-2.ensures.padded magic refl prefix)
