use Rattle.spool_journal.specs.declared.TheConstants.{PAGE}
use Rattle.spool_pages.proofs.RecordBytes.{padded_at}
use Rattle.spool_pages.proofs.Changed.{new_changes, encodes_beside}
use Rattle.spool_pages.proofs.changes.pages_of_new.Goals as goal

pub returns-clause-changes : goal.returns-clause-changes
returns-clause-changes c v blocks version slots beside =
    new_changes c.new-pages.ensures c.in_ok-put.ensures.put c.in_ok-put-2.ensures.put v c.args.next c.args.slot
    c.args.own.now
    (rw blocks c.state_number.ensures.number) (rw blocks c.record_number.ensures.number) c.requires.slot slots
    (rw version (padded_at PAGE c.state_page.ensures)) (rw version c.page_with.ensures.own)
    (encodes_beside v c.args.slot c.page_with.result version beside c.page_with.ensures.beside)
