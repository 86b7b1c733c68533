-- An answer, with its claims replaced by some that follow from them.
use Rattle.std.proofs.Common.{Result, Ok, Err, Option}
use Rattle.upload_rules.specs.Answers.{Answers, DoesOrStops}
use Rattle.upload_rules.specs.declared.errors.UploadError.{UploadError}
use Rattle.upload_rules.specs.declared.errors.UploadError.TheVariants.{Stop, Refused}
use Rattle.common.specs.declared.stop.Stop as errors
use Rattle.common.specs.declared.stop.Stop.TheVariants.{NoMemory, DiskFault}
use Rattle.upload_rules.specs.declared.errors.UploadRefusal.{UploadRefusal}

pub does_more : {T : Type 0} (r : Result T errors.Stop) {done done' : T → Type 0} (same : Type 0)
    → ((t : T) → done t → done' t) → DoesOrStops r done same → DoesOrStops r done' same
does_more (Ok t) same ok a = ok t a
does_more (Err NoMemory) same ok a = a
does_more (Err DiskFault) same ok a = a

-- an answer, with more claims about what was done under a premise
pub answers_known : {T K : Type 0} (refusal : Option UploadRefusal) (r : Result T UploadError)
    {done more done' : T → Type 0} {same same' : Type 0} → ((t : T) → done t → (K → more t) → done' t) → (same → same')
    → Answers refusal r done same → (K → Answers refusal r more (Unit {0})) → Answers refusal r done' same'
answers_known refusal (Ok t) ok err a b = (a.0, ok t a.1 (λ k. (b k).1))
answers_known refusal (Err (Stop NoMemory)) ok err a b = (a.0, err a.1)
answers_known refusal (Err (Stop DiskFault)) ok err a b = a
answers_known refusal (Err (Refused e)) ok err a b = (a.0, err a.1)
