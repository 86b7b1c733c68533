-- Whether there is an upload, and whether it is complete, by its record.
use Rattle.std.proofs.Common.{◌≡◌, refl, sym, ℕ, Option, Some, None}
use Rattle.enc_model.specs.Indexes.{IndexSet}
use Rattle.upload_rules.specs.Records.{Represents, RepresentsOf, with_number}
use Rattle.upload_rules.specs.Store.{Upload}
use Rattle.upload_rules.specs.World.{is_there}
use Rattle.upload_rules.specs.declared.records.Record.{Record}
use Rattle.gateway_delete.specs.Deleting.{has_all, incomplete_one, incomplete_record, is_whole}

-- its number, where it isn't
pub incomplete_is : (x : IndexSet) (r : Record) (entry : ℕ × Upload) → Represents x entry.0 r entry.1
    → incomplete_record r ≡ incomplete_one entry
incomplete_is x r entry t = rw (t.number_is, t.accepted, t.declared) refl

-- there is one
pub there_is : (x : IndexSet) (n : ℕ) (o : Option Upload) (r : Option Record) → RepresentsOf x (with_number n o) r
    → is_there o ≡ is_there r
there_is x n None None t = refl
there_is x n None (Some r) t = absurd t
there_is x n (Some u) None t = absurd t
there_is x n (Some u) (Some r) t = refl

-- and it is complete
pub whole_is : (x : IndexSet) (n : ℕ) (o : Option Upload) (r : Option Record) → RepresentsOf x (with_number n o) r
    → has_all r ≡ is_whole o
whole_is x n None None t = refl
whole_is x n None (Some r) t = absurd t
whole_is x n (Some u) None t = absurd t
whole_is x n (Some u) (Some r) t = rw (t.accepted, t.declared) refl
