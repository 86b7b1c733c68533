use Rattle.std.proofs.Common.{false}
use Rattle.spool_drafts.specs.Drafts.{open_text}
use Rattle.spool_drafts.proofs.Stays.{has_preserved}
use Rattle.spool_drafts.proofs.laws.drafts_unchanged.Goals as goal

pub returns : goal.returns
returns c x current current' first blocks p d = has_preserved current current' first (open_text x p false) blocks
    d.progress
