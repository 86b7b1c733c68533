use Rattle.std.proofs.Common.{◌∙◌, ◌++◌, ℕ, List, ap, chars, subst, sym}
use Rattle.std.proofs.lemmas.Str.{IsUtf8-append, chars-append}
use Rattle.gateway_labels.specs.Counted.{IsCounted}
use Rattle.gateway_labels.proofs.measure.Measure.add.Goals as goal

pub returns-clause-known : goal.returns-clause-known
returns-clause-known c before is =
    let bytes = c.args.bytes.now in
    let read = c.in-Ok.ensures.cases in
    record {
      utf8 = IsUtf8-append before bytes is.utf8 read.1;
      counts =
          subst (λ (x : List ℕ). IsCounted c.add-2.new.self x)
          (ap (λ (text : List ℕ). chars before ++ chars text) read.0 ∙ sym (chars-append before bytes is.utf8))
          (c.add-2.ensures (chars before) is.counts);
      digest = c.update.ensures before is.digest;
    }
