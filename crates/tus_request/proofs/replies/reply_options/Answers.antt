use Rattle.tus_request.proofs.ReplyLengths.{appended, options_reply}
use Rattle.tus_request.proofs.replies.reply_options.Goals as goal

pub append-requires : goal.append-requires
append-requires c = (options_reply c.args.closes _ c.whole_line-own.ensures).fits

pub returns-clause-ok : goal.returns-clause-ok
returns-clause-ok c =
    (appended c.append.result c.args.out.now.items c.append.new.out.items
    (options_reply c.args.closes _ c.whole_line-own.ensures) c.append.ensures.ok c.append.ensures.err).0
