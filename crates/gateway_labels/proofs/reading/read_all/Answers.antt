use Rattle.std.proofs.Common.{◌∙◌, ℕ, arith, inl}
use Rattle.std.proofs.lemmas.List.{length-take}
use Rattle.std.proofs.lemmas.Result.{err_from_is_err_and}
use Rattle.enc_model.specs.Indexes.{tables}
use Rattle.gateway_outside.specs.Counted.{unfailed}
use Rattle.gateway_labels.proofs.Fed.{read_more}
use Rattle.gateway_labels.proofs.reading.read_all.Goals as goal

pub loop-bytes-preserved : goal.loop-bytes-preserved
loop-bytes-preserved g c = record {
  most = omega (arith, c.in_ok-count.ensures.within, c.room_for.ensures.within, length-take {A = ℕ});
  same = c.in_ok-feed_all.ensures.same ∙ c.loop-bytes.invariant.same;
  have = λ all.
      read_more (tables c.args.set.now) c.loop-bytes.trials.items c.feed_all.new.trials.items
      (g.I.Input.remaining c.args.input.now) (g.I.Input.remaining c.loop-bytes.input)
      (g.I.Input.remaining c.read_piece.new.self) c.loop-bytes.bytes c.in_ok-count.count c.read_piece.new.piece
      c.front.result.now (c.loop-bytes.invariant.have all) c.in_ok-count.ensures.ok c.front.ensures
      (omega (arith, c.in_ok-count.ensures.within, c.in_ok-count.ensures.same)) c.in_ok-feed_all.ensures.bytes
      c.in_ok-feed_all.ensures.fed;
  unrefused =
      unfailed _ _ _ (λ never. absurd (cc)) c.in_ok-count.ensures.counts ∙ c.loop-bytes.invariant.unrefused;
}

pub returns-in_err-feed_all-clause-told : goal.returns-in_err-feed_all-clause-told
returns-in_err-feed_all-clause-told g c valid all =
    let err = err_from_is_err_and c.from_residual-in_err-feed_all.result c.from_residual-in_err-feed_all.ensures.1 in
    let have = c.loop-bytes.invariant.have all in
    rw err.1 (inl (err.2 ∙ c.in_err-feed_all.ensures.told have.input valid have.bytes_are have.have))
