-- What an opening's reads gave, and what follows from its answer.
use Rattle.std.proofs.Common.{◌≡◌, refl, ℕ, List, Result, Ok, Err, OnOk}
use Rattle.common.specs.Given.{MoreReads}
use Rattle.common.specs.declared.given.GivenRead.{GivenRead}
use Rattle.spool_disk.proofs.Gave.{grew_none, grew_on}
use Rattle.spool_image.specs.Opening.{OpeningReadsBy, ReadsBy}
use Rattle.spool_load.proofs.ReadBys.{by_same}

-- others follow
pub more_reads : {a b c : List GivenRead} → MoreReads a b → MoreReads b c → MoreReads a c
more_reads f g = grew_on f g

-- none follows
pub given_same : {a b c : List GivenRead} {So So' : (before after : ℕ → ℕ) → Type 0} → ReadsBy a b So' → c ≡ b
    → ((before after : ℕ → ℕ) → So' before after → So before after) → ReadsBy a c So
given_same is same more = by_same is same more

pub given_none : {a b : List GivenRead} {So So' : (before after : ℕ → ℕ) → Type 0} → ReadsBy a b So'
    → ((before after : ℕ → ℕ) → So' before after → So before after) → OpeningReadsBy a b So
given_none is more = record { opened = _; by = by_same is refl more; others = grew_none refl }

-- those of texts follow, and the disk is handed back
pub given_then : {a b c d : List GivenRead} {So So' : (before after : ℕ → ℕ) → Type 0} → ReadsBy a b So'
    → ((before after : ℕ → ℕ) → So' before after → So before after) → MoreReads b c → d ≡ c → OpeningReadsBy a d So
given_then is more reads same = record {
  opened = _;
  by = by_same is refl more;
  others = grew_on reads (grew_none same);
}

-- nothing is said of it
pub ok_unit : {T E : Type 0} (r : Result T E) → OnOk r (Unit {0})
ok_unit (Ok t) = tt
ok_unit (Err e) = tt
