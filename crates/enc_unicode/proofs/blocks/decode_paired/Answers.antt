use Rattle.std.proofs.Common.{ℕ, ◌≡◌, ◌<◌, List, length, subst, sym, ap, ap₂, ◌∙◌, arith}
use Rattle.enc_feed.specs.Batches.{BatchTook}
use Rattle.enc_model.specs.Stream.{DecoderRun}
use Rattle.enc_model.specs.Utf16.{Utf16}
use Rattle.lane_kernels.specs.Orders.{is_big}
use Rattle.lane_kernels.specs.Steps.{scalars_of}
use Rattle.enc_unicode.proofs.Scalars.{on_true}
use Rattle.enc_unicode.proofs.blocks.decode_paired.Goals as goal

-- the units are some
some_units : (units are : List ℕ) → length units ≡ 32 → units ≡ are → 0 < length are
some_units units are long is = let same = ap length is in omega (arith, long, same)

pub returns-then-is_paired-clause-text : goal.returns-then-is_paired-clause-text
returns-then-is_paired-clause-text c =
    let e = c.block-is_paired.ensures in
    let run = c.paired_units_decode.ensures (is_big c.args.order) c.args.pairing.now c.args.bytes.now
    (e.paired.0 c.if-is_paired.true) (some_units _ _ c.block-is_paired.array_long e.units) in
    on_true c.block-is_paired.result _
    (subst (λ z. BatchTook c.args.batch.now z c.push_units.new.batch)
    (ap₂ scalars_of c.lead-carried.ensures.value e.units ∙ sym (ap (λ (z : DecoderRun Utf16). z.text) run))
    c.push_units.ensures)

pub returns-then-is_paired-clause-state : goal.returns-then-is_paired-clause-state
returns-then-is_paired-clause-state c =
    let e = c.block-is_paired.ensures in
    on_true c.block-is_paired.result _ (c.if-is_paired.ensures.carried ∙ sym (ap (λ (z : DecoderRun Utf16). z.state)
    (c.paired_units_decode.ensures (is_big c.args.order) c.args.pairing.now c.args.bytes.now
    (e.paired.0 c.if-is_paired.true) (some_units _ _ c.block-is_paired.array_long e.units))))
