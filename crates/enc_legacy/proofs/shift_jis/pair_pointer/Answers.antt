use Rattle.std.proofs.Common.{arith}
use Rattle.enc_legacy.proofs.SjisBytes.{lead_of, pair_of, sum_fits}
use Rattle.enc_legacy.proofs.shift_jis.pair_pointer.Goals as goal

pub overflow_add-result-2 : goal.overflow_add-result-2
overflow_add-result-2 c =
    let h = sum_fits c.args.lead c.args.b c.ranges.lead.fits c.ranges.b.fits in
    grind (arith, h)

pub returns-clause-lead : goal.returns-clause-lead
returns-clause-lead c = lead_of c.args.lead c.args.b c.ranges.lead.fits

pub returns-clause-pair : goal.returns-clause-pair
returns-clause-pair c = pair_of c.args.lead c.args.b c.ranges.lead.fits c.ranges.b.fits
