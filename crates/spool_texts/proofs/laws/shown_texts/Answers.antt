use Rattle.spool_texts.proofs.Shown.{shown, text_joined}
use Rattle.spool_texts.proofs.laws.shown_texts.Goals as goal

pub returns-clause-shown : goal.returns-clause-shown
returns-clause-shown c = shown

pub returns-clause-joined : goal.returns-clause-joined
returns-clause-joined c = text_joined
