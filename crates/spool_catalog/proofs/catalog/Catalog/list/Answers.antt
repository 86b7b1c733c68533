use Rattle.std.proofs.Common.{subst}
use Rattle.spool_catalog.specs.Holding.{FitsTogether}
use Rattle.spool_catalog.proofs.catalog.Catalog.list.Goals as goal

pub returns-clause-fits : goal.returns-clause-fits
returns-clause-fits c = subst FitsTogether c.self.view_is c.self.invariant
