use Rattle.std.proofs.Common.{◌≡◌, Bool}
use Rattle.common.specs.Given.{MoreReads}
use Rattle.upload_rules.specs.Answers.{Quiet}
use Rattle.upload_rules.specs.World.{World}
use Rattle.gateway_outside.specs.Above.{after}
use Rattle.gateway_outside.specs.InOrder.{IsInOrder}
use Rattle.gateway_list.proofs.Written.{SoFar}
use Rattle.gateway_list.proofs.json_lines.write_uploads.Given as goal

abbrev pub invariant-loop : goal.invariant-loop
invariant-loop g l = record {
  unfailed : g.U.Uploads.failures l.uploads ≡ g.U.Uploads.failures l.fn.uploads;
  unrefused : g.W.Output.refusals l.writer ≡ g.W.Output.refusals l.fn.writer;
  quiet : Quiet (g.U.Uploads.moment l.fn.uploads) (g.U.Uploads.moment l.uploads) (g.U.Uploads.left_only l.fn.uploads)
      (g.U.Uploads.left_only l.uploads);
  represents : (sure : Bool) (w : World) → g.U.Uploads.represents l.fn.uploads sure w
      → g.U.Uploads.represents l.uploads sure w;
  reads : MoreReads (g.U.Uploads.reads l.fn.uploads) (g.U.Uploads.reads l.uploads);
  lines : (sure : Bool) (w : World) → g.U.Uploads.represents l.fn.uploads sure w → IsInOrder w.store
      → SoFar w.store.indexes (after l.number w.store.uploads) w.store.uploads (g.W.Output.contents l.fn.writer)
      (g.W.Output.contents l.writer);
}
