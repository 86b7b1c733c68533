use Rattle.std.proofs.Common.{◌∙◌, ap, refl, replicate, rules}
use Rattle.common.specs.declared.limits.TheConstants.{SLOTS}
use Rattle.spool_blocks.proofs.Links.{unlinked}
use Rattle.spool_blocks.proofs.chains.Chains.new.Goals as goal

pub returns : goal.returns
returns c = c.in_ok-rows.ensures.items_if_clones_equal (λ y same. search rules)

pub invariant_of-result : goal.invariant_of-result
invariant_of-result c =
    unlinked c.args.blocks SLOTS c.requires refl (c.in_ok-rows.ensures.items_if_clones_equal (λ y same. search rules))
    (c.in_ok-below.ensures.items_if_clones_equal (λ y same. search rules) ∙ ap (replicate c.args.blocks) c.none.ensures)
    (c.in_ok-tops.ensures.items_if_clones_equal (λ y same. search rules))
    (c.in_ok-counts.ensures.items_if_clones_equal (λ y same. same))
