use Rattle.std.proofs.Common.{refl, []}
use Rattle.std.specs.Int.{to_be_bytes, w32}
use Rattle.spool_journal.specs.declared.TheConstants.{PAGE}
use Rattle.spool_pages.specs.View.{state_page, version_number}
use Rattle.spool_pages.proofs.Bytes.{padded_zeros}
use Rattle.spool_pages.proofs.pages.state_page.Goals as goal

pub returns : goal.returns
unfolding state_page
returns c =
    let version = to_be_bytes w32 (version_number c.args.version) in
    let zeros = c.put.ensures.padded [] refl (padded_zeros PAGE) in
    let prefix = rw (c.to_be_bytes.ensures, c.number.ensures) at zeros in
    rw c.to_be_bytes-2.ensures at (c.put-2.ensures.padded version refl prefix)
