use Rattle.std.proofs.Common.{rules, tests}
use Rattle.std.specs.Prelude.{◌==◌}
use Rattle.std.proofs.lemmas.Iterator.Search.{find_from_yields_List}
use Rattle.std.proofs.lemmas.Iterator.Splits.{YieldsList-from_slice_split}
use Rattle.gateway_texts.specs.Naming.{is_named}
use Rattle.gateway_texts.proofs.naming.named_part.Goals as goal

pub returns : goal.returns
returns c =
    find_from_yields_List is_named _ _ _ c.find.ensures.ran
    (YieldsList-from_slice_split _ (λ b. b == 44) c.args.metadata.now c.split.ensures.rest c.split.ensures.done
    c.split.ensures.closure (λ x r q k. search (rules, tests)))
    (λ x b q k. search (rules, tests))
