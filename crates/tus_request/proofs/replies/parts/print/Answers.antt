use Rattle.tus_request.proofs.ReplyTexts.{print_more, room_unchanged}
use Rattle.tus_request.proofs.replies.parts.print.Goals as goal

pub loop-line-preserved : goal.loop-line-preserved
loop-line-preserved c = record {
  items =
      print_more c.args.out.now.items c.args.status.now c.args.lines.now c.loop-line.line-index _
      c.loop-line.out.items c.put-in-loop-line.new.out.items c.loop-line-test.true c.loop-line.invariant.items
      c.put-in-loop-line.ensures.items;
  room =
      room_unchanged c.args.lines.now c.loop-line.line-index _ _ _ _ _ _ c.loop-line-test.true
      c.loop-line.invariant.room c.put-in-loop-line.ensures.len c.put-in-loop-line.ensures.capacity;
}
