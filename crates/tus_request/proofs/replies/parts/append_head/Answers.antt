use Rattle.tus_request.proofs.ReplyLengths.{long_head}
use Rattle.tus_request.proofs.replies.parts.append_head.Goals as goal

pub append-requires : goal.append-requires
append-requires c =
    rw c.metadata_line.ensures.line (long_head _ _ _ c.args.metadata.now c.args.closes c.requires
    c.metadata_line.ensures.few)

pub returns-clause-ok : goal.returns-clause-ok
returns-clause-ok c = rw (← c.metadata_line.ensures.line) c.append.ensures.ok
