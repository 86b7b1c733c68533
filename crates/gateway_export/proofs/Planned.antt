-- The jobs of the uploads, made one after the other.
use Rattle.std.proofs.Common.{◌≡◌, ap, refl, ℕ, List, [], ◌∷◌, Bool, flat_map, map}
use Rattle.enc_model.specs.Indexes.{IndexSet}
use Rattle.upload_rules.specs.Lengths.{is_length}
use Rattle.upload_rules.specs.Records.{Represents}
use Rattle.upload_rules.specs.Store.{Upload}
use Rattle.upload_rules.specs.declared.records.Record.{Record}
use Rattle.gateway_export.specs.Planning.{Job, job_for, job_of}

-- the job of an upload, as what is made of it
abbrev pub jobs_one : (List ℕ → Bool) → Bool → ℕ × Upload → List Job
jobs_one takes all e = job_of takes all e ∷ []

pub one_each : (takes : List ℕ → Bool) (all : Bool) (xs : List (ℕ × Upload))
    → flat_map (jobs_one takes all) xs ≡ map (job_of takes all) xs
one_each takes all [] = refl
one_each takes all (x ∷ xs) = ap (λ jobs. job_of takes all x ∷ jobs) (one_each takes all xs)

abbrev pub jobs_record : (List ℕ → Bool) → Bool → Record → List Job
jobs_record takes all r = job_for takes all r.number (is_length r.declared r.accepted) r.metadata.bytes.items ∷ []

-- that of a record is that of its upload
pub job_is : (takes : List ℕ → Bool) (all : Bool) (x : IndexSet) (r : Record) (entry : ℕ × Upload)
    → Represents x entry.0 r entry.1 → jobs_record takes all r ≡ jobs_one takes all entry
job_is takes all x r entry t = rw (t.number_is, t.accepted, t.declared, t.metadata) refl
