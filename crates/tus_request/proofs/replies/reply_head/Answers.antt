use Rattle.std.proofs.Common.{arith, rules}
use Rattle.tus_request.proofs.ReplyLengths.{appended, head, lines_short, short_head, unless_small}
use Rattle.tus_request.proofs.replies.reply_head.Goals as goal

pub append_head-requires : goal.append_head-requires
append_head-requires c =
    lines_short c.args.offset c.args.declared _ _ _ _ c.ranges.offset.fits (search rules)
    (rw c.unless_bare.ensures (unless_small c.args.bare 0 (omega arith)))
    c.offset_line-offset.ensures c.declared_line-declared.ensures c.length_line-length.ensures

pub returns : goal.returns
returns c =
    let is = head c.args.offset c.args.declared c.args.metadata.now c.args.bare c.args.closes _ _ _ _
    c.ranges.offset.fits (search rules) c.offset_line-offset.ensures c.declared_line-declared.ensures
    c.length_line-length.ensures c.unless_bare.ensures in
    record {
      ok = rw is.same at c.append_head.ensures.ok;
      err = c.append_head.ensures.err;
      short = λ few.
          (appended c.append_head.result c.args.out.now.items c.append_head.new.out.items
          (short_head _ _ c.args.metadata.now is few) c.append_head.ensures.ok c.append_head.ensures.err).1;
    }
