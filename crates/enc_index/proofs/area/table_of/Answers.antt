use Rattle.std.proofs.Common.{ℕ, ◌+◌}
use Rattle.enc_index.specs.Area.{word_of}
use Rattle.enc_index.proofs.Reading.{table_ascends}
use Rattle.enc_index.proofs.Areas.{codes_scalar, file_back}
use Rattle.enc_index.proofs.area.table_of.Goals as goal

pub returns-clause-valid : goal.returns-clause-valid
returns-clause-valid c =
    let codes = c.in_ok-codes.codes.items in
    let word : ℕ → ℕ = λ k. word_of c.args.area.now (c.args.start + k) in
    let long = c.in_ok-codes.ensures.long in
    rw c.in_ok-table.ensures (table_ascends c.args.pointers codes long
    (codes_scalar codes c.args.pointers word long c.in_ok-codes.ensures.codes))

pub returns-clause-given_back : goal.returns-clause-given_back
returns-clause-given_back c =
    λ index f. file_back c.args.area.now c.args.file c.args.start c.args.pointers c.in_ok-codes.codes.items
    c.in_ok-table.table index
    c.if-area-file-ne1.false c.in_ok-table.ensures c.in_ok-codes.ensures.long c.in_ok-codes.ensures.codes f
