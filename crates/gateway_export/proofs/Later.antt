-- What the reads of a disk gave, some after others.
use Rattle.std.proofs.Common.{◌≡◌, ◌∙◌, [], ◌++◌, List, ap, sym}
use Rattle.std.proofs.lemmas.List.{append_assoc}
use Rattle.common.specs.Given.{MoreReads}
use Rattle.common.specs.declared.given.GivenRead.{GivenRead}

-- no reads
pub no_more : {old new : List GivenRead} → new ≡ old → MoreReads old new
no_more same = record { added = []; grown = same }

pub more_on : {a b c : List GivenRead} → MoreReads a b → MoreReads b c → MoreReads a c
more_on {a = a} first next = record {
  added = next.added ++ first.added;
  grown =
      next.grown ∙ ap (λ (reads : List GivenRead). next.added ++ reads) first.grown
      ∙ sym (append_assoc next.added first.added a);
}
