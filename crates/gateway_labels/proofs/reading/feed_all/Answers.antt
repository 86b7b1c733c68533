use Rattle.std.proofs.Common.{◌∙◌, ◌++◌, List, ap, arith, map, subst, sym}
use Rattle.std.proofs.lemmas.List.{take_at}
use Rattle.std.proofs.lemmas.Result.{err_from_is_err_and}
use Rattle.std.specs.List.{All}
use Rattle.enc_model.specs.Indexes.{tables}
use Rattle.gateway_labels.specs.Trials.{IsTrialOf, tried}
use Rattle.gateway_labels.specs.declared.trial.Trial.{Trial}
use Rattle.gateway_labels.proofs.Fed.{fed_all, fed_more, fed_none, same_mapped}
use Rattle.gateway_labels.proofs.Told.{bytes_of}
use Rattle.gateway_labels.proofs.reading.feed_all.Goals as goal

pub loop-trial-init : goal.loop-trial-init
loop-trial-init c = record {
  same = ap (map tried) c.deref_mut-trial-items.ensures.value;
  fed = λ input all.
      let Q : Trial → Type 0 = λ trial. IsTrialOf (tables c.args.set.now) trial input in
      fed_none (λ trial. IsTrialOf (tables c.args.set.now) trial (input ++ c.args.piece.now)) Q
      c.deref_mut-trial-items.result.now
      (subst (λ (xs : List Trial). All Q xs) (sym c.deref_mut-trial-items.ensures.value) all);
}

pub loop-trial-preserved : goal.loop-trial-preserved
loop-trial-preserved c = record {
  same =
      same_mapped tried c.loop-trial.trial-items c.loop-trial.trial-index c.feed.new.self c.trial-item.result
      c.in_ok-feed.ensures.encoding
      ∙ c.loop-trial.invariant.same;
  fed = λ input all.
      let are = c.loop-trial.invariant.fed input all in
      let Q : Trial → Type 0 = λ trial. IsTrialOf (tables c.args.set.now) trial input in
      fed_more (λ trial. IsTrialOf (tables c.args.set.now) trial (input ++ c.args.piece.now)) Q
      c.loop-trial.trial-items c.loop-trial.trial-index c.feed.new.self (omega arith) are
      (c.in_ok-feed.ensures.read input
      (are.left c.loop-trial.trial-index c.trial-item.result (omega arith) (omega arith)));
}

pub returns-clause-same : goal.returns-clause-same
returns-clause-same c =
    ap (map tried) (take_at c.loop-trial.trial-items _ _ (omega arith)) ∙ c.loop-trial.invariant.same

pub returns-clause-fed : goal.returns-clause-fed
returns-clause-fed c input all =
    let P : Trial → Type 0 = λ trial. IsTrialOf (tables c.args.set.now) trial (input ++ c.args.piece.now) in
    let Q : Trial → Type 0 = λ trial. IsTrialOf (tables c.args.set.now) trial input in
    subst (λ (xs : List Trial). All P xs) (sym (take_at c.loop-trial.trial-items _ _ (omega arith)))
    (fed_all P Q c.loop-trial.trial-items c.loop-trial.trial-index (c.loop-trial.invariant.fed input all)
    (omega arith))

pub returns-in_err-feed-clause-told : goal.returns-in_err-feed-clause-told
returns-in_err-feed-clause-told c input valid bytes all =
    let err = err_from_is_err_and c.from_residual.result c.from_residual.ensures.1 in
    let are = c.loop-trial.invariant.fed input all in
    rw err.1 (err.2 ∙ c.in_err-feed.ensures.told input valid bytes
    (are.left c.loop-trial.trial-index c.trial-item.result (omega arith) (omega arith)))

pub returns-clause-bytes : goal.returns-clause-bytes
returns-clause-bytes c = bytes_of c.args.piece.now c.type_inv.piece
