use Rattle.std.proofs.Common.{arith}
use Rattle.enc_legacy.proofs.EucBytes.{are_rows, pointer_of, sum_fits}
use Rattle.enc_legacy.proofs.euc_bytes.row_pointer.Goals as goal

pub overflow_add-result-2 : goal.overflow_add-result-2
overflow_add-result-2 c =
    let h = sum_fits c.args.lead c.args.b c.ranges.lead.fits c.ranges.b.fits in
    grind (arith, h)

pub returns-clause-rows : goal.returns-clause-rows
returns-clause-rows c = are_rows c.args.lead c.args.b c.ranges.lead.fits c.ranges.b.fits

pub returns-clause-pointer : goal.returns-clause-pointer
returns-clause-pointer c = pointer_of c.args.lead c.args.b c.ranges.lead.fits c.ranges.b.fits
