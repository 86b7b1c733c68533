use Rattle.std.proofs.Common.{rules, tests, ◌∷◌, []}
use Rattle.std.specs.Prelude.{◌==◌}
use Rattle.std.proofs.lemmas.Iterator.Search.{any_from_yields_List}
use Rattle.std.proofs.lemmas.Iterator.Splits.{YieldsList-from_slice_split}
use Rattle.tus_request.specs.Texts.{any_case, trimmed}
use Rattle.tus_request.proofs.texts.lists_word.Goals as goal

pub returns : goal.returns
returns c =
    any_from_yields_List (λ part. any_case c.args.word.now (trimmed (32 ∷ 9 ∷ []) part)) _ _ _ c.any.ensures.ran
    (YieldsList-from_slice_split _ (λ b. b == 44) c.args.text.now c.split.ensures.rest c.split.ensures.done
    c.split.ensures.closure (λ x r q k. search (rules, tests)))
    (λ x b q k. search (rules, tests))
