use Rattle.spool_pages.proofs.Bytes.{padded_zeros}
use Rattle.spool_pages.proofs.slot_pages.bytes_of.Goals as goal

pub returns-in-None : goal.returns-in-None
returns-in-None c = rw c.in-None.is (padded_zeros 2048)
