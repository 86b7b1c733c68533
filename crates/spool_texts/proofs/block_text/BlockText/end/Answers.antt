use Rattle.spool_texts.proofs.Reserves.{takes_none}
use Rattle.spool_texts.proofs.block_text.BlockText.end.Goals as goal

pub returns-in_err-open-clause-takes : goal.returns-in_err-open-clause-takes
returns-in_err-open-clause-takes g c = takes_none _ _ _ c.open.ensures.list
