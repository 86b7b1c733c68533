use Rattle.std.proofs.Common.{◌≡◌, take, Bool}
use Rattle.std.specs.Prelude.{filter}
use Rattle.upload_rules.specs.Store.{upload_of}
use Rattle.upload_rules.specs.World.{World}
use Rattle.gateway_delete.specs.Deleting.{is_whole}
use Rattle.gateway_delete.proofs.incomplete.whole_among.Given as goal

abbrev pub invariant-loop-number : goal.invariant-loop-number
invariant-loop-number g l =
    (sure : Bool) (w : World) → g.U.Uploads.represents l.fn.uploads sure w
    → l.complete.items ≡ filter (λ n. is_whole (upload_of w.store n)) (take l.number-index l.numbers)
