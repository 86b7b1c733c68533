use Rattle.std.proofs.Common.{rules}
use Rattle.upload_rules.specs.Room.{blocks_of}
use Rattle.spool_catalog.specs.Holding.{HasBlocks}
use Rattle.spool_catalog.proofs.slots.OwnedOnce.{list_whole}
use Rattle.spool_catalog.proofs.lists.checked_list.Goals as goal

pub returns-clause-whole : goal.returns-clause-whole
returns-clause-whole c =
    let rows = c.args.blocks.now.rows in
    let list = c.in_ok-list.list.items in
    let has : HasBlocks rows c.args.slot c.args.len list = search rules in
    list_whole rows c.args.slot (blocks_of c.args.len) list c.in_ok-list.ensures.size has.size has.owned
