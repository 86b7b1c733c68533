use Rattle.spool_image.proofs.Crashed.{text_shown}
use Rattle.spool_image.proofs.laws.shown_texts.Goals as goal

pub returns : goal.returns
returns c n image m k u shows is = text_shown n image m k u shows is
