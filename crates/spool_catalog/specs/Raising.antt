-- The uploads with a later next number.
use Rattle.std.specs.Prelude.{ℕ}
use Rattle.upload_rules.specs.Store.{Store}

-- the same uploads; the next one gets this number
abbrev pub raised : Store → ℕ → Store
raised m next = record m { next = next }
