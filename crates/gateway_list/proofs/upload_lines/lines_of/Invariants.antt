use Rattle.std.proofs.Common.{◌≡◌, ◌++◌, flat_map, Bool}
use Rattle.std.specs.Prelude.{string_bytes}
use Rattle.upload_rules.specs.World.{World}
use Rattle.gateway_outside.specs.InOrder.{IsInOrder}
use Rattle.gateway_outside.specs.Above.{after}
use Rattle.gateway_list.specs.Lines.{list_lines, upload_line}
use Rattle.gateway_list.proofs.upload_lines.lines_of.Given as goal

abbrev pub invariant-loop : goal.invariant-loop
invariant-loop g l =
    (sure : Bool) (w : World) → g.U.Uploads.represents l.fn.uploads sure w → IsInOrder w.store
    → string_bytes l.lines ++ flat_map (upload_line l.long w.store.indexes) (after l.number w.store.uploads)
    ≡ list_lines l.long w.store
