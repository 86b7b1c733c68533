use Rattle.spool_journal.specs.declared.TheConstants.{PAGE}
use Rattle.spool_pages.proofs.Bytes.{padded_zeros}
use Rattle.spool_pages.proofs.pages.blank_page.Goals as goal

pub returns : goal.returns
returns c = padded_zeros PAGE
