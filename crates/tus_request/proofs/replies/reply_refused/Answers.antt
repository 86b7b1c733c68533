use Rattle.std.proofs.Common.{◌∙◌}
use Rattle.tus_request.proofs.ReplyLengths.{appended, refused}
use Rattle.tus_request.proofs.replies.reply_refused.Goals as goal

pub append-requires : goal.append-requires
append-requires c =
    (refused c.args.fault c.args.on_files c.args.bare c.args.closes _ _ _ _ _
    c.status_of.ensures (c.whole_line-lead.ensures ∙ c.refusal_lead.ensures) c.refusal_line-number.ensures
    c.length_line-length.ensures c.unless_bare.ensures).fits

pub returns : goal.returns
returns c =
    let a = appended c.append.result c.args.out.now.items c.append.new.out.items
    (refused c.args.fault c.args.on_files c.args.bare c.args.closes _ _ _ _ _
    c.status_of.ensures (c.whole_line-lead.ensures ∙ c.refusal_lead.ensures) c.refusal_line-number.ensures
    c.length_line-length.ensures c.unless_bare.ensures)
    c.append.ensures.ok c.append.ensures.err in
    record { ok = a.0; err = c.append.ensures.err; short = a.1 }
