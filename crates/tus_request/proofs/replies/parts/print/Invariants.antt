use Rattle.std.proofs.Common.{◌≡◌, ◌+◌, ◌≤◌, ◌++◌, take, drop, length, vec_len, vec_capacity}
use Rattle.tus_request.specs.Replies.{close_line, crlf}
use Rattle.tus_request.specs.ReplyParts.{lines_shown}
use Rattle.tus_request.proofs.ReplyTexts.{begun}
use Rattle.tus_request.proofs.replies.parts.print.Given as goal

abbrev pub invariant-loop-line : goal.invariant-loop-line
invariant-loop-line l = record {
  items : l.out.items ≡ l.fn.out.items ++ begun l.status (lines_shown (take l.line-index l.lines));
  room :
      vec_len l.out + (length (lines_shown (drop l.line-index l.lines)) + length (close_line l.closes ++ crlf))
      ≤ vec_capacity l.out;
}
