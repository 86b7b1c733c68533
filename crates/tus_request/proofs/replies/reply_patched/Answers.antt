use Rattle.tus_request.proofs.ReplyLengths.{appended, patched}
use Rattle.tus_request.proofs.replies.reply_patched.Goals as goal

pub append-requires : goal.append-requires
append-requires c =
    (patched c.args.offset c.args.closes _ c.ranges.offset.fits c.offset_line-offset.ensures).fits

pub returns : goal.returns
returns c =
    let a = appended c.append.result c.args.out.now.items c.append.new.out.items
    (patched c.args.offset c.args.closes _ c.ranges.offset.fits c.offset_line-offset.ensures)
    c.append.ensures.ok c.append.ensures.err in
    record { ok = a.0; err = c.append.ensures.err; short = a.1 }
