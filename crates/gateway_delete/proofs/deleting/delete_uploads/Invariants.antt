use Rattle.std.proofs.Common.{◌≡◌, drop, Bool}
use Rattle.upload_rules.specs.World.{World}
use Rattle.gateway_delete.proofs.Deletions.{Halfway}
use Rattle.gateway_delete.proofs.deleting.delete_uploads.Given as goal

abbrev pub invariant-loop-number : goal.invariant-loop-number
invariant-loop-number g l =
    (g.U.Uploads.failures l.uploads ≡ g.U.Uploads.failures l.fn.uploads)
    × ((sure : Bool) (w : World) → g.U.Uploads.represents l.fn.uploads sure w
    → Halfway g.U.Uploads sure w l.fn.uploads l.uploads l.numbers (drop l.number-index l.numbers)
    (g.W.Output.contents l.fn.writer) (g.W.Output.contents l.writer) l.all)
    × (g.U.Uploads.reads l.uploads ≡ g.U.Uploads.reads l.fn.uploads)
    × (g.W.Output.refusals l.writer ≡ g.W.Output.refusals l.fn.writer)
