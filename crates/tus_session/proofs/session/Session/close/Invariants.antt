use Rattle.std.proofs.Common.{◌≡◌, ◌≤◌, Bool, length, take}
use Rattle.upload_rules.specs.World.{World}
use Rattle.upload_rules.specs.Answers.{Quiet}
use Rattle.tus_session.specs.History.{State}
use Rattle.tus_session.specs.Represents.{SessionRepresents}
use Rattle.tus_session.proofs.Closes.{IsClosing}
use Rattle.tus_session.proofs.session.Session.close.Given as goal

abbrev pub invariant-loop-place : goal.invariant-loop-place
invariant-loop-place g l = record {
  represents : (sure : Bool) (st : State) → SessionRepresents g.U.Uploads sure l.fn.self.links.items l.fn.store st
      → (v : World)
      × IsClosing g.U.Uploads sure st (length l.links.items) l.store v;
  prefix : l.links.items ≡ take (length l.links.items) l.fn.self.links.items;
  below : length l.links.items ≤ length l.fn.self.links.items;
  counts : g.U.Uploads.failures l.store ≡ g.U.Uploads.failures l.fn.store;
  crash : Quiet (g.U.Uploads.moment l.fn.store) (g.U.Uploads.moment l.store) (g.U.Uploads.left_only l.fn.store)
      (g.U.Uploads.left_only l.store);
}

abbrev pub decreases-loop-place : goal.decreases-loop-place
decreases-loop-place g l = length l.links.items
