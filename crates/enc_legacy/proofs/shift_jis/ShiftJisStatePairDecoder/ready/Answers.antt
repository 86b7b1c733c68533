use Rattle.enc_model.specs.Indexes.{tables}
use Rattle.enc_legacy.proofs.PairPointers.{some_both}
use Rattle.enc_legacy.proofs.Strides.{sjis_pair_steps}
use Rattle.enc_legacy.proofs.shift_jis.ShiftJisStatePairDecoder.ready.Goals as goal

pub returns : goal.returns
returns c =
    let is = c.ready_rows.ensures in
    some_both c.ready_rows.result _ _ _
    (λ r few codes. sjis_pair_steps (tables c.args.indexes.now).jis0208 c.args.self.now r.now
    (c.is_at_start.ensures.0 c.if-not-is_at_start.false) few codes) is.few is.codes
