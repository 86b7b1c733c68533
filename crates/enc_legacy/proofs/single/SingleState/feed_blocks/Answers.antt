use Rattle.std.proofs.Common.{refl, take, arith}
use Rattle.std.proofs.lemmas.Grind.{common_steps}
use Rattle.enc_model.specs.Indexes.{tables}
use Rattle.enc_feed.proofs.Feeding.{feed_begins}
use Rattle.enc_model.proofs.Sinks.{given_err}
use Rattle.enc_feed.proofs.Parts.{part_taken, part_refused}
use Rattle.enc_legacy.specs.Singles.{single_in}
use Rattle.enc_legacy.specs.SinglesCalm.{single_in_calm}
use Rattle.enc_legacy.proofs.SinglesSteps.{single_state}
use Rattle.enc_legacy.proofs.single.SingleState.feed_blocks.Goals as goal

pub loop-at-init : goal.loop-at-init
loop-at-init g c =
    let t = tables c.args.indexes.now in record {
      taken = feed_begins g.S.Sink.takes g.S.Sink.refuses g.met.S.Sink.is_sink (single_in t) (single_in_calm t)
          c.args.self.now c.args.sink.now;
      at = omega arith;
    }

pub returns-in_err-at : goal.returns-in_err-at
returns-in_err-at g c =
    let t = tables c.args.indexes.now in
    let why = c.in_err-at.field-0.0 in
    given_err g.S.Sink.takes g.S.Sink.refuses c.args.sink.now c.advance.new.sink _ c.from_residual.result why
    c.from_residual.ensures.1
    (part_refused (single_in t) (single_in_calm t) g.S.Sink.takes g.S.Sink.refuses g.met.S.Sink.is_sink c.args.self.now
    c.args.self.now c.args.piece.now _ c.loop-at.at c.args.sink.now c.loop-at.sink c.advance.new.sink why refl
    (single_state t c.args.self.now (take c.loop-at.at c.args.piece.now)) c.loop-at.invariant.taken
    c.in_err-at.ensures.refused)

pub loop-at-preserved : goal.loop-at-preserved
loop-at-preserved g c =
    let t = tables c.args.indexes.now in
    let s = c.args.self.now in
    let some = c.in_ok-at.ensures.some in record {
      taken = part_taken (single_in t) (single_in_calm t) g.S.Sink.takes g.S.Sink.refuses g.met.S.Sink.is_sink s s
          c.args.piece.now _ c.loop-at.at c.in_ok-at.field-0 c.args.sink.now c.loop-at.sink c.advance.new.sink refl
          (single_state t s (take c.loop-at.at c.args.piece.now)) c.loop-at.invariant.taken c.in_ok-at.ensures.taken;
      at = grind (arith, common_steps);
    }
