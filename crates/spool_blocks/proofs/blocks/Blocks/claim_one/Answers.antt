use Rattle.std.proofs.Common.{◌≡◌, ap, arith}
use Rattle.spool_blocks.specs.Blocks.{Held}
use Rattle.spool_blocks.proofs.Counts.{within}
use Rattle.spool_blocks.proofs.blocks.Blocks.claim_one.Goals as goal

pub push-requires-clause-above : goal.push-requires-clause-above
push-requires-clause-above c b i own =
    let same : c.self.inside.chains ≡ c.args.self.now.rows = ap (λ (h : Held). h.rows) c.self.view_is in
    omega (
      arith,
      c.requires.above b i (rw same at own),
      within c.self.inside.chains b (c.args.slot, i) own,
      c.self.invariant.few,
    )
