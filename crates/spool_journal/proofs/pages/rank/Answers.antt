use Rattle.std.proofs.Common.{◌≡◌, ℕ, List, [], ltb, true, false, rules, arith}
use Rattle.std.proofs.lemmas.Bool.{ltb-true, ltb-false}
use Rattle.std.specs.List.Sorted.{IsPartitionPoint}
use Rattle.std.proofs.lemmas.List.Sorted.{IsPartitionPoint-from_clause, IsPartitionedBy-ltb}
use Rattle.spool_journal.proofs.Ranks.{not_falling}
use Rattle.spool_journal.proofs.pages.rank.Goals as goal
use Rattle.spool_journal.proofs.pages.rank.Goals.{After-partition_point}

point : (c : After-partition_point) → IsPartitionPoint (λ (p : ℕ × List ℕ). ltb p.0 c.args.page ≡ true)
    (λ (p : ℕ × List ℕ). ltb p.0 c.args.page ≡ false) c.args.items.now c.partition_point.result
point c = IsPartitionPoint-from_clause (λ (p : ℕ × List ℕ). ltb p.0 c.args.page) c.args.items.now
    c.partition_point.result c.partition_point.ensures.partitioned
    (IsPartitionedBy-ltb (λ (p : ℕ × List ℕ). p.0) c.args.items.now c.args.page
    (not_falling c.args.items.now c.requires)) (λ a r q k. search rules)

pub returns-clause-below : goal.returns-clause-below
returns-clause-below c k lt =
    ltb-true _ c.args.page
    ((point c).0 k (0, []) (omega (arith, lt, c.partition_point.ensures.bound)) (omega (arith, lt)))

pub returns-clause-above : goal.returns-clause-above
returns-clause-above c k le lt = ltb-false _ c.args.page ((point c).1 k (0, []) (omega (arith, le)) lt)
