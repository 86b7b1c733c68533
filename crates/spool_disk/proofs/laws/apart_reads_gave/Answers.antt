use Rattle.spool_disk.proofs.Gave.{all_given, bytes_given}
use Rattle.spool_disk.proofs.laws.apart_reads_gave.Goals as goal

pub returns : goal.returns
returns c old new reads =
    (bytes_given reads.since.added, record { since = reads.since; all = all_given reads.since.added reads.once })
