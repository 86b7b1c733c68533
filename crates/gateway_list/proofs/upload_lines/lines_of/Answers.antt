use Rattle.std.specs.Prelude.{string_bytes}
use Rattle.gateway_outside.specs.Above.{reported_first, reported_next, reported_none}
use Rattle.gateway_list.specs.Lines.{list_lines, record_line, upload_line}
use Rattle.gateway_list.proofs.Recorded.{record_is}
use Rattle.gateway_list.proofs.upload_lines.lines_of.Goals as goal

pub loop-init : goal.loop-init
loop-init g c sure w represents order =
    reported_first (upload_line c.args.long w.store.indexes) (string_bytes c.new-lines.result) w.store.uploads
    order.some
    c.new-lines.ensures.bytes

pub returns-in_default : goal.returns-in_default
returns-in_default g c = record {
  lines = λ sure w represents order.
      reported_none w.store.indexes (upload_line c.args.long w.store.indexes) (list_lines c.args.long w.store)
      (string_bytes c.loop.lines) w.store.uploads c.loop.number _ (c.record_after.ensures sure w represents)
      (c.loop.invariant sure w represents order) c.in_default.is;
}

pub loop-preserved : goal.loop-preserved
loop-preserved g c sure w represents order =
    reported_next w.store.indexes (upload_line c.args.long w.store.indexes) (list_lines c.args.long w.store)
    (string_bytes c.loop.lines) w.store.uploads c.loop.number _ (c.record_after.ensures sure w represents)
    (c.loop.invariant sure w represents order) (record_line c.args.long) (record_is c.args.long w.store.indexes)
    c.in-Some.record (string_bytes c.push_line.new.lines) order.rising c.in-Some.is c.in_ok-push_line.ensures
