-- The counts of a text.
use Rattle.std.specs.Prelude.{◌≡◌, ℕ, List}
use Rattle.gateway_labels.specs.Rule.{capped, last_of, lost_in, strangeness}
use Rattle.gateway_labels.specs.declared.counts.Counts.{Counts}

-- the counts are those of a text, and the last character is its last one
pub record IsCounted (counts : Counts) (text : List ℕ) : Type 0 where
  pub lost : counts.lost ≡ capped (lost_in text)
  pub strangeness : counts.strangeness ≡ capped (strangeness text)
  pub last : counts.last ≡ last_of 32 text
