use Rattle.std.proofs.Common.{◌≡◌, ℕ, ◌<◌, ◌≤◌, List, Bool, true, false, None, length, get_or, replicate, rules, arith}
use Rattle.std.proofs.lemmas.Bool.{cases_lt}
use Rattle.std.proofs.lemmas.Grind.{common_steps}
use Rattle.common.specs.declared.limits.TheConstants.{MOST_BLOCKS}
use Rattle.spool_blocks.specs.Blocks.{Row, Valid}
use Rattle.spool_blocks.proofs.blocks.Blocks.of.Goals as goal

-- the rows under four names
valid_new : (rows a b chains : List Row) (reserved : List Bool) {free : List Bool} (n : ℕ) → length rows ≤ MOST_BLOCKS
    → chains ≡ a → a ≡ rows → b ≡ rows → n ≡ length rows → reserved ≡ replicate n false → length free ≡ length b
    → ((k : ℕ) → k < length b → get_or free k false ≡ true → get_or b k None ≡ None)
    → ((k : ℕ) → k < length b → get_or b k None ≡ None → get_or free k false ≡ true)
    → Valid chains reserved free
valid_new rows a b chains reserved n few chains_is a_is b_is size none free_size no_owner all = record {
  few = grind arith;
  reserved_size = grind (arith, common_steps);
  free_size = grind arith;
  no_owner = grind arith;
  not_reserved = λ k lt is. grind (arith, common_steps, cases_lt);
  all = λ k lt is flag. grind (arith, all k);
  unowned = λ k lt flag. absurd (grind (arith, common_steps, cases_lt));
}

pub invariant_of-result : goal.invariant_of-result
invariant_of-result c =
    valid_new c.args.rows.items _ _ _ _ c.len-bound.result c.requires.few c.in_ok-chains.ensures c.deref.ensures.value
    c.deref-2.ensures.value (omega arith)
    (c.in_ok-reserved.ensures.items_if_clones_equal (λ y same. search rules))
    c.in_ok-free.ensures.size c.in_ok-free.ensures.no_owner c.in_ok-free.ensures.all
