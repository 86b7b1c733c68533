use Rattle.enc_model.specs.Indexes.{tables}
use Rattle.enc_legacy.proofs.PairPointers.{some_both}
use Rattle.enc_legacy.proofs.Strides.{euc_pair_steps}
use Rattle.enc_legacy.proofs.euc_jp.EucJpStatePairDecoder.ready.Goals as goal

pub returns : goal.returns
returns c =
    let t = tables c.args.indexes.now in
    let start = c.is_at_start.ensures.0 c.if-not-is_at_start.false in
    let is = c.ready_rows.ensures in
    some_both c.ready_rows.result _ _ _
    (λ r few codes. euc_pair_steps t.jis0208 t.jis0212 c.args.self.now r.now start few codes) is.few is.codes
