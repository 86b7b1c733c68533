use Rattle.std.proofs.Common.{not, rules, tests}
use Rattle.std.proofs.lemmas.Fn.{filter_same}
use Rattle.gateway_delete.specs.Deleting.{is_among}
use Rattle.gateway_delete.proofs.incomplete.take_out.Goals as goal

pub returns : goal.returns
returns c =
    filter_same _ (λ n. not (is_among c.args.but.now n)) _ (λ x b q r. search (rules, tests)) _ _
    c.retain.ensures.filtered
