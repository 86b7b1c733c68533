use Rattle.std.proofs.Common.{◌≡◌, Bool}
use Rattle.common.specs.Given.{MoreReads}
use Rattle.upload_rules.specs.Answers.{Quiet}
use Rattle.upload_rules.specs.World.{World}
use Rattle.gateway_list.proofs.losses.tell_all.Given as goal

abbrev pub invariant-loop : goal.invariant-loop
invariant-loop g l = record {
  unfailed : g.U.Uploads.failures l.uploads ≡ g.U.Uploads.failures l.fn.uploads;
  quiet : Quiet (g.U.Uploads.moment l.fn.uploads) (g.U.Uploads.moment l.uploads) (g.U.Uploads.left_only l.fn.uploads)
      (g.U.Uploads.left_only l.uploads);
  represents : (sure : Bool) (w : World) → g.U.Uploads.represents l.fn.uploads sure w
      → g.U.Uploads.represents l.uploads sure w;
  reads : MoreReads (g.U.Uploads.reads l.fn.uploads) (g.U.Uploads.reads l.uploads);
}
