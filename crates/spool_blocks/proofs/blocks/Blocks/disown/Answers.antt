use Rattle.std.proofs.Common.{◌≡◌, None, get_or, arith}
use Rattle.spool_blocks.proofs.blocks.Blocks.disown.Goals as goal

pub returns-clause-freed : goal.returns-clause-freed
returns-clause-freed c b k owned =
    let gone : get_or c.release.new.self.rows b None ≡ None = c.release.ensures.cleared b k (omega arith) owned in
    cc
