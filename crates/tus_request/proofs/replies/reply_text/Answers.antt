use Rattle.tus_request.proofs.ReplyLengths.{appended, text}
use Rattle.tus_request.proofs.replies.reply_text.Goals as goal

pub append-requires : goal.append-requires
append-requires c =
    (text c.args.to c.args.«length» c.args.bare c.args.closes _ _ _ c.ranges.«length».fits
    c.type_line.ensures c.length_line-length.ensures c.unless_bare.ensures).fits

pub returns : goal.returns
returns c =
    let a = appended c.append.result c.args.out.now.items c.append.new.out.items
    (text c.args.to c.args.«length» c.args.bare c.args.closes _ _ _ c.ranges.«length».fits
    c.type_line.ensures c.length_line-length.ensures c.unless_bare.ensures)
    c.append.ensures.ok c.append.ensures.err in
    record { ok = a.0; err = c.append.ensures.err; short = a.1 }
