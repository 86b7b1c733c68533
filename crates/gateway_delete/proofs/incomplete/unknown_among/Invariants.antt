use Rattle.std.proofs.Common.{◌≡◌, take, not, Bool, None}
use Rattle.std.specs.List.{find}
use Rattle.upload_rules.specs.Store.{upload_of}
use Rattle.upload_rules.specs.World.{World, is_there}
use Rattle.gateway_delete.proofs.incomplete.unknown_among.Given as goal

abbrev pub invariant-loop-number : goal.invariant-loop-number
invariant-loop-number g l =
    (sure : Bool) (w : World) → g.U.Uploads.represents l.fn.uploads sure w
    → find (λ n. not (is_there (upload_of w.store n))) (take l.number-index l.numbers) ≡ None
