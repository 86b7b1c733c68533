use Rattle.spool_catalog.proofs.Raised as raised
use Rattle.spool_catalog.proofs.raising.raised_shows.Goals as goal

pub returns : goal.returns
returns c = raised.raised_shows
