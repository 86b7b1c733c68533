use Rattle.spool_blocks.proofs.Totals.{each_counted, whole}
use Rattle.spool_room.proofs.laws.slot_counts.Goals as goal

pub returns-clause-count : goal.returns-clause-count
returns-clause-count c rows slot n = each_counted n slot rows

pub returns-clause-whole : goal.returns-clause-whole
returns-clause-whole c rows slot n = whole n slot rows
