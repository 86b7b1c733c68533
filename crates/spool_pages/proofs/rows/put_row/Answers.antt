use Rattle.std.proofs.Common.{◌+◌, arith}
use Rattle.spool_journal.specs.Image.{byte_of}
use Rattle.spool_pages.proofs.RowBytes.{number_there}
use Rattle.spool_pages.proofs.Encodes.{at_same}
use Rattle.spool_pages.proofs.rows.put_row.Goals as goal

pub returns-clause-are_at : goal.returns-clause-are_at
returns-clause-are_at c =
    let slot = number_there c.put.new.page _ c.args.at _ c.to_be_bytes.ensures c.put.ensures.inside in
    let ordinal = number_there c.put-2.new.page _ (c.args.at + 4) _ c.to_be_bytes-2.ensures c.put-2.ensures.inside in
    c.fields_of-slot.ensures (byte_of c.put-2.new.page) c.args.at
    (at_same (λ i lt. c.put-2.ensures.outside (c.args.at + i) (λ within. omega (arith, lt, within.from))) slot)
    ordinal
