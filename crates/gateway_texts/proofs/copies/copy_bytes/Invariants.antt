use Rattle.std.proofs.Common.{◌≡◌, ◌≤◌, ◌-◌, length, take, Bool}
use Rattle.common.specs.Given.{MoreReads}
use Rattle.upload_rules.specs.Answers.{Quiet}
use Rattle.upload_rules.specs.Reading.{text_at}
use Rattle.upload_rules.specs.Store.{upload_of}
use Rattle.upload_rules.specs.World.{World}
use Rattle.gateway_texts.specs.Copies.{AppendsOf}
use Rattle.gateway_texts.proofs.copies.copy_bytes.Given as goal

abbrev pub invariant-loop-at : goal.invariant-loop-at
invariant-loop-at g l =
    (l.at ≤ l.len)
    × (g.U.Uploads.failures l.uploads ≡ g.U.Uploads.failures l.fn.uploads)
    × Quiet (g.U.Uploads.moment l.fn.uploads) (g.U.Uploads.moment l.uploads) (g.U.Uploads.left_only l.fn.uploads)
    (g.U.Uploads.left_only l.uploads)
    × ((sure : Bool) (w : World) → g.U.Uploads.represents l.fn.uploads sure w → g.U.Uploads.represents l.uploads sure w
    × (l.len ≡ length (text_at w.store (upload_of w.store l.number))
    → AppendsOf sure (g.W.Write.contents l.fn.writer) (g.W.Write.contents l.writer)
    (take l.at (text_at w.store (upload_of w.store l.number)))))
    × MoreReads (g.U.Uploads.reads l.fn.uploads) (g.U.Uploads.reads l.uploads)

abbrev pub decreases-loop-at : goal.decreases-loop-at
decreases-loop-at g l = l.len - l.at
