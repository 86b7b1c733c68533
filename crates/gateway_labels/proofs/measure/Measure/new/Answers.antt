use Rattle.std.proofs.Common.{ℕ, List, subst, sym}
use Rattle.std.proofs.lemmas.Str.{IsUtf8-nil, chars-nil}
use Rattle.gateway_labels.specs.Counted.{IsCounted}
use Rattle.gateway_labels.proofs.measure.Measure.new.Goals as goal

pub returns : goal.returns
returns c = record {
  utf8 = IsUtf8-nil;
  counts = subst (λ (x : List ℕ). IsCounted c.new.result x) (sym chars-nil) c.new.ensures;
  digest = c.new-2.ensures;
}
