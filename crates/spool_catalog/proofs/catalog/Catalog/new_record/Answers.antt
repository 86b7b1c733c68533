use Rattle.std.proofs.Common.{ap}
use Rattle.spool_catalog.specs.Holding.{Holding}
use Rattle.spool_catalog.proofs.NewRecords.{new_fits, new_record}
use Rattle.spool_catalog.proofs.catalog.Catalog.new_record.Goals as goal

pub new-requires : goal.new-requires
new-requires c = new_fits c.args.self.now.indexes c.self.inside.next c.first.result c.args.new
    (c.first.ensures.valid c.args.self.now.indexes) c.requires

pub returns : goal.returns
returns c =
    let made = new_record c.args.self.now.indexes c.self.inside.next c.first.result c.args.new c.first.ensures.valid
    c.requires in
    rw (ap (λ (k : Holding). k.next) c.self.view_is) at (rw (← c.new.ensures) at made)
