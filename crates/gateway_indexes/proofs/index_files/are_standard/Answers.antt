use Rattle.std.proofs.Common.{rules, tests}
use Rattle.std.proofs.lemmas.Iterator.{YieldsList-from_slice}
use Rattle.std.proofs.lemmas.Iterator.Search.{all_from_yields_List}
use Rattle.gateway_indexes.specs.Digests.{is_as_standard}
use Rattle.gateway_indexes.proofs.index_files.are_standard.Goals as goal

pub returns : goal.returns
returns c =
    all_from_yields_List (λ file. is_as_standard file.found) _ _ c.all.result c.all.ensures.ran
    (YieldsList-from_slice c.args.files.now cc) (λ x b q k. search (rules, tests))
