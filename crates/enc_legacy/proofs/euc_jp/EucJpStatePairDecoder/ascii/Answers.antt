use Rattle.enc_model.specs.Indexes.{tables}
use Rattle.enc_legacy.proofs.Prefixes.{euc_prefix}
use Rattle.enc_legacy.proofs.euc_jp.EucJpStatePairDecoder.ascii.Goals as goal

pub returns-then-is_at_start : goal.returns-then-is_at_start
returns-then-is_at_start c =
    let t = tables c.args._indexes.now in
    euc_prefix t.jis0208 t.jis0212 c.args.self.now c.args.bytes.now c.ascii_front.result
    (c.is_at_start.ensures.0 c.if-is_at_start.true)
    c.ascii_front.ensures
