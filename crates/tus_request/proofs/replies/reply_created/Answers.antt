use Rattle.tus_request.proofs.ReplyLengths.{appended, created}
use Rattle.tus_request.proofs.replies.reply_created.Goals as goal

pub append-requires : goal.append-requires
append-requires c =
    (created c.args.number c.args.bare c.args.closes _ _ _ c.ranges.number.fits
    c.location_line-location.ensures c.length_line-length.ensures c.unless_bare.ensures).fits

pub returns : goal.returns
returns c =
    let a = appended c.append.result c.args.out.now.items c.append.new.out.items
    (created c.args.number c.args.bare c.args.closes _ _ _ c.ranges.number.fits
    c.location_line-location.ensures c.length_line-length.ensures c.unless_bare.ensures)
    c.append.ensures.ok c.append.ensures.err in
    record { ok = a.0; err = c.append.ensures.err; short = a.1 }
