use Rattle.spool_journal.specs.declared.TheConstants.{PAGE}
use Rattle.spool_pages.proofs.RecordBytes.{padded_at}
use Rattle.spool_pages.proofs.Changed.{next_changes}
use Rattle.spool_pages.proofs.changes.pages_of_next.Goals as goal

pub returns-clause-changes : goal.returns-clause-changes
returns-clause-changes c v blocks version =
    next_changes c.new-pages.ensures c.in_ok-put.ensures.put v c.args.next
    (rw blocks c.state_number.ensures.number) (rw version (padded_at PAGE c.state_page.ensures))
