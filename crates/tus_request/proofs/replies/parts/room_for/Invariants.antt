use Rattle.std.proofs.Common.{◌≡◌, ◌+◌, None, drop, length}
use Rattle.tus_request.specs.Replies.{reply}
use Rattle.tus_request.specs.ReplyParts.{lines_shown}
use Rattle.tus_request.proofs.replies.parts.room_for.Given as goal

abbrev pub invariant-loop-line : goal.invariant-loop-line
invariant-loop-line l =
    l.room + length (lines_shown (drop l.line-index l.lines))
    ≡ length (reply l.status (lines_shown l.lines) None l.closes)
