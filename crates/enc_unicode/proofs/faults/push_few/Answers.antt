use Rattle.enc_unicode.proofs.FaultRuns.{none_read, none_state}
use Rattle.enc_unicode.proofs.faults.push_few.Goals as goal

pub returns-in-194-to-244-clause-text : goal.returns-in-194-to-244-clause-text
returns-in-194-to-244-clause-text c = none_read c.args.bytes.now c.args.batch.now

pub returns-in-194-to-244-clause-state : goal.returns-in-194-to-244-clause-state
returns-in-194-to-244-clause-state c = none_state c.args.bytes.now
