-- What is known of a text.
use Rattle.std.specs.Prelude.{ℕ, List, chars}
use Rattle.std.specs.Str.{IsUtf8}
use Rattle.sha2.specs.Hashers.{Holds256}
use Rattle.gateway_labels.specs.Counted.{IsCounted}
use Rattle.gateway_labels.specs.declared.measure.Measure.{Measure}

-- it is known of the text that these bytes are in UTF-8
pub record IsMeasured (measure : Measure) (bytes : List ℕ) : Type 0 where
  pub utf8 : IsUtf8 bytes
  pub counts : IsCounted measure.counts (chars bytes)
  pub digest : Holds256 measure.hasher bytes
