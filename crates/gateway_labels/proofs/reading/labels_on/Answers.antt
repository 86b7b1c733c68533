use Rattle.std.proofs.Common.{◌∙◌, List, ap, map, rules, subst}
use Rattle.std.proofs.lemmas.List.Sorted.{All-permutation, IsPermutation-map}
use Rattle.std.specs.List.{filter}
use Rattle.std.specs.List.Sorted.{IsPermutation}
use Rattle.enc_model.specs.declared.Encoding.{Encoding}
use Rattle.enc_model.specs.Indexes.{offers, tables}
use Rattle.gateway_labels.specs.Trials.{IsChoiceOf}
use Rattle.gateway_labels.specs.declared.choice.Choice.{Choice}
use Rattle.gateway_labels.proofs.reading.labels_on.Goals as goal

pub returns-clause-labels : goal.returns-clause-labels
returns-clause-labels g c =
    let have = c.in_ok-bytes.ensures.read (c.in_ok-trials.ensures.trials (tables c.args.set.now)) in
    record {
      input = have.input;
      read = have.read;
      many = have.many;
      end = c.in_ok-bytes.ensures.end;
      choices =
          All-permutation
          (λ choice. IsChoiceOf (tables c.args.set.now) choice have.input c.in_ok-bytes.is_whole)
          c.in_ok-choices.choices.items c.put_in_order.new.choices.items c.in_ok-put_in_order.ensures.same
          (c.in_ok-choices.ensures.choices have.input have.have);
    }

pub returns-clause-offered : goal.returns-clause-offered
returns-clause-offered g c =
    let encoding_of : Choice → Encoding = λ choice. choice.encoding in
    subst (λ (xs : List Encoding). IsPermutation xs (map encoding_of c.put_in_order.new.choices.items))
    (c.in_ok-choices.ensures.same ∙ c.in_ok-bytes.ensures.same ∙ c.in_ok-trials.ensures.offered
    ∙ ap (λ (xs : List Encoding). filter (offers c.args.set.now) xs) c.encodings.ensures)
    (IsPermutation-map encoding_of c.in_ok-choices.choices.items c.put_in_order.new.choices.items
    c.in_ok-put_in_order.ensures.same)

pub returns-in_err-bytes-clause-refused : goal.returns-in_err-bytes-clause-refused
returns-in_err-bytes-clause-refused g c =
    let told = c.in_err-bytes.ensures.told c.to_area.ensures.valid
    (c.in_ok-trials.ensures.trials (tables c.args.set.now)) in
    search rules

pub returns-in_err-choices-clause-refused : goal.returns-in_err-choices-clause-refused
returns-in_err-choices-clause-refused g c =
    let have = c.in_ok-bytes.ensures.read (c.in_ok-trials.ensures.trials (tables c.args.set.now)) in
    let told = c.in_err-choices.ensures.told have.input c.to_area.ensures.valid have.bytes_are have.have in
    search rules
