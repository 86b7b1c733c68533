use Rattle.std.proofs.Common.{◌∙◌, ◌+◌, ap, sym, arith, drop}
use Rattle.std.proofs.lemmas.List.{take_all, length-drop}
use Rattle.tus_request.specs.Searches.{after_bytes}
use Rattle.tus_request.specs.declared.search.Search.TheVariants.{Start}
use Rattle.tus_request.proofs.SearchLemmas.{after_none, after_some}
use Rattle.tus_request.proofs.search.after_line.Goals as goal

pub returns-in-Some-clause-same : goal.returns-in-Some-clause-same
returns-in-Some-clause-same c =
    ap (after_bytes Start) (take_all _ (drop (c.in-Some.at + 1) c.args.bytes.now)
    (omega (arith, length-drop (c.in-Some.at + 1) c.args.bytes.now)))
    ∙ (after_some c.args.bytes.now c.in-Some.at (sym c.line_feed.ensures ∙ c.in-Some.is)).1

pub returns-in-None-clause-same : goal.returns-in-None-clause-same
returns-in-None-clause-same c = sym (after_none c.args.bytes.now (sym c.line_feed.ensures ∙ c.in-None.is))
