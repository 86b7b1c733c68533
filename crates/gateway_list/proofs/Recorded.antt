-- An upload's line, by its record.
use Rattle.std.proofs.Common.{◌≡◌, refl, ℕ, Bool}
use Rattle.enc_model.specs.Indexes.{IndexSet}
use Rattle.upload_rules.specs.Records.{Represents}
use Rattle.upload_rules.specs.Store.{Upload}
use Rattle.upload_rules.specs.declared.records.Record.{Record}
use Rattle.gateway_list.specs.Lines.{record_line, upload_line}

-- the line of a record is that of its upload
pub record_is : (long : Bool) (x : IndexSet) (r : Record) (entry : ℕ × Upload) → Represents x entry.0 r entry.1
    → record_line long r ≡ upload_line long x entry
record_is long x r entry t = rw (t.number_is, t.accepted, t.declared, t.text_len, t.from, t.to, t.mode, t.metadata) refl
