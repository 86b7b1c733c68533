use Rattle.std.proofs.Common.{◌≤◌, ◌∙◌, List, [], ap, arith, length, map, subst, sym, take_all}
use Rattle.std.proofs.lemmas.List.Elements.{All-push}
use Rattle.std.specs.List.{All, filter}
use Rattle.enc_model.specs.declared.Encoding.{Encoding}
use Rattle.enc_model.specs.declared.Encoding.TheVariants.{Utf8}
use Rattle.enc_model.specs.Indexes.{offers}
use Rattle.gateway_labels.specs.Trials.{IsTrialOf, tried}
use Rattle.gateway_labels.specs.declared.trial.Trial.{Trial}
use Rattle.gateway_labels.proofs.Fed.{kept_more, passed_more}
use Rattle.gateway_labels.proofs.reading.trials_of.Goals as goal
use Rattle.gateway_labels.proofs.reading.trials_of.Goals.{then-offers+in_ok-push, else-offers}

pub loop-encoding-preserved : goal.loop-encoding-preserved
loop-encoding-preserved c =
    let i = c.loop-encoding.encoding-index in
    let old = c.loop-encoding.trials.items in
    let all = c.args.encodings.now in
    let set = c.args.set.now in
    record {
      trials = λ t.
          let P : Trial → Type 0 = λ trial. IsTrialOf t trial [] in
          elim c.if-offers.branch [
            | then-offers+in_ok-push w ↦
                subst (λ v. All P v.items) (sym w.trials-is)
                (subst (λ (xs : List Trial). All P xs) (sym w.in_ok-push.ensures.items)
                (All-push P old w.new.result (c.loop-encoding.invariant.trials t) (w.new.ensures.nothing t)))
            | else-offers w ↦
                subst (λ v. All P v.items) (sym w.trials-is) (c.loop-encoding.invariant.trials t)
          ];
      offered =
          elim c.if-offers.branch [
            | then-offers+in_ok-push w ↦
                ap (λ v. map tried v.items) w.trials-is ∙ ap (map tried) w.in_ok-push.ensures.items
                ∙ kept_more tried (offers set) old all w.new.result i Utf8 c.loop-encoding.invariant.offered
                c.loop-encoding-test.true w.new.ensures.encoding (sym c.offers.ensures ∙ w.if-offers.true)
            | else-offers w ↦
                ap (λ v. map tried v.items) w.trials-is
                ∙ passed_more (offers set) (map tried old) all i Utf8 c.loop-encoding.invariant.offered
                c.loop-encoding-test.true (sym c.offers.ensures ∙ w.if-offers.false)
          ];
    }

pub returns-clause-offered : goal.returns-clause-offered
returns-clause-offered c =
    let all = c.args.encodings.now in
    let past : length all ≤ c.loop-encoding.encoding-index = omega arith in
    c.loop-encoding.invariant.offered
    ∙ ap (λ (xs : List Encoding). filter (offers c.args.set.now) xs)
    (take_all c.loop-encoding.encoding-index all past)
