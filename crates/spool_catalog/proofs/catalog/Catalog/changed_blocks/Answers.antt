use Rattle.std.proofs.Common.{rules}
use Rattle.spool_catalog.proofs.slots.LongerInCatalog.{changed_below}
use Rattle.spool_catalog.proofs.catalog.Catalog.changed_blocks.Goals as goal

pub returns-clause-below : goal.returns-clause-below
returns-clause-below c r there =
    rw (
      c.in_ok-extend_from_slice-2.ensures.items,
      c.in_ok-extend_from_slice.ensures.items,
      c.new-blocks.ensures.items,
      c.blocks_from.ensures,
      c.list.ensures.blocks,
      c.full_blocks-full.ensures.full r there,
    )
    (changed_below c.args.self.now c.list.ensures.fits c.args.slot r there c.args.more.now c.requires.reserved.below)

pub returns-clause-differ : goal.returns-clause-differ
returns-clause-differ c r there old new none some =
    rw (
      c.in_ok-extend_from_slice-2.ensures.items,
      c.in_ok-extend_from_slice.ensures.items,
      c.new-blocks.ensures.items,
      c.blocks_from.ensures,
      c.list.ensures.blocks,
      c.full_blocks-full.ensures.full r there,
    ) (some (search rules))
