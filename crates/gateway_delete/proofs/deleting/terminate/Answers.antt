use Rattle.gateway_delete.proofs.Deletions.{refused_stays}
use Rattle.gateway_delete.proofs.deleting.terminate.Goals as goal

pub returns-in-Err-Refused-clause-represents : goal.returns-in-Err-Refused-clause-represents
returns-in-Err-Refused-clause-represents g c sure w represents =
    refused_stays (λ v. g.U.Uploads.represents c.terminate.new.self sure v) w c.args.number _ c.in-Err-Refused.field-0
    c.in-Err-Refused.field-0-0 c.in-Err-Refused.field-0-is (c.in-Err-Refused.ensures.answer sure w represents)
