use Rattle.spool_catalog.proofs.Upgraded.{upgraded_valid, upgraded_shows}
use Rattle.spool_catalog.proofs.upgrading.upgraded_shows.Goals as goal

pub returns-clause-valid : goal.returns-clause-valid
returns-clause-valid c = upgraded_valid

pub returns-clause-shows : goal.returns-clause-shows
returns-clause-shows c = upgraded_shows
