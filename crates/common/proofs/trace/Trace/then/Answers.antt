use Rattle.common.proofs.Lives.{live_within}
use Rattle.common.proofs.trace.Trace.then.Goals as goal

pub chosen-requires : goal.chosen-requires
chosen-requires g c κs within = (within.1.0, live_within _ _ _ _ within.0.0 within.0.1.0 within.1.1.0)
