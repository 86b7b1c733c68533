use Rattle.std.proofs.Common.{rules, tests}
use Rattle.std.specs.Prelude.{not}
use Rattle.std.proofs.lemmas.Iterator.{YieldsList-from_chars}
use Rattle.std.proofs.lemmas.Iterator.Search.{all_from_yields_List}
use Rattle.gateway_texts.specs.Naming.{is_barred}
use Rattle.gateway_texts.proofs.naming.is_clean.Goals as goal

pub returns : goal.returns
returns c =
    all_from_yields_List (λ x. not (is_barred x)) _ _ _ c.all.ensures.ran
    (YieldsList-from_chars c.args.name.now c.utf8.name cc) (λ x b q k. search (rules, tests))
