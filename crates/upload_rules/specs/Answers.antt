-- The results of calls on a store.
use Rattle.std.specs.Prelude.{◌≡◌, ◌⊎◌, ◌<◌, ◌≤◌, ◌+◌, ◌^◌, ℕ, List, [], ◌∷◌, Option, Some, None, Result, Ok, Err}
use Rattle.upload_rules.specs.declared.errors.UploadError.{UploadError}
use Rattle.upload_rules.specs.declared.errors.UploadError.TheVariants as errors
use Rattle.common.specs.declared.stop.Stop.{Stop}
use Rattle.common.specs.declared.stop.Stop.TheVariants.{NoMemory, DiskFault}
use Rattle.upload_rules.specs.declared.errors.UploadRefusal.{UploadRefusal}
use Rattle.upload_rules.specs.declared.errors.UploadRefusal.TheVariants.{Unencodable, Full}
use Rattle.upload_rules.specs.Store.{Upload, Store}
use Rattle.upload_rules.specs.World.{Patch}
use Rattle.upload_rules.specs.Calls.{first_patch}
pub use Rattle.common.specs.Counts.{Counts}

-- Out of memory or a disk fault may come instead of these refusals. The other refusals are found before either.
abbrev pub IsLate : Option UploadRefusal → Type 0
IsLate None = Unit {0}
IsLate (Some Unencodable) = Unit {0}
IsLate (Some Full) = Unit {0}
IsLate (Some e) = ⊥

-- The result is the refusal of the rules, if they give one. Otherwise the call is done, or it was out of memory, or it
-- met a disk fault.
abbrev pub Answers : {T : Type 0} → Option UploadRefusal → Result T UploadError → (T → Type 0) → Type 0 → Type 0
Answers refusal (Ok t) done same = (refusal ≡ None) × done t
Answers refusal (Err (errors.Stop NoMemory)) done same = IsLate refusal × same
Answers refusal (Err (errors.Stop DiskFault)) done same = IsLate refusal
Answers refusal (Err (errors.Refused e)) done same = (refusal ≡ Some e) × same

-- The call that the rules can't refuse is done, or it was out of memory, or it met a disk fault.
abbrev pub DoesOrStops : {T : Type 0} → Result T Stop → (T → Type 0) → Type 0 → Type 0
DoesOrStops (Ok t) done same = done t
DoesOrStops (Err NoMemory) done same = same
DoesOrStops (Err DiskFault) done same = Unit {0}

-- The draft represents the first patch of the upload.
abbrev pub BeginsWith : (Patch → Type 0) → ℕ → ℕ → Option ℕ → Option Upload → Type 0
BeginsWith holds number count declare None = Unit {0}
BeginsWith holds number count declare (Some u) = holds (first_patch number count declare u)

-- The store is one of these.
abbrev pub Among : Store → List Store → Type 0
Among m [] = ⊥
Among m (x ∷ xs) = (m ≡ x) ⊎ Among m xs

-- Crash images that were limited to stores including these two still are, and still have as many blocks.
pub record Limits (moment moment' : ℕ) (left_only left_only' : Option ℕ → ℕ → List Store → Type 0)
    (before after : Store) : Type 0 where
  pub later : moment ≤ moment'
  pub limits : (blocks : Option ℕ) (t : ℕ) (ms : List Store) → t ≤ moment → left_only blocks t ms
      → Among before ms → Among after ms → left_only' blocks t ms

-- A call that changes no upload: crash images are limited as before.
pub record Quiet (moment moment' : ℕ) (left_only left_only' : Option ℕ → ℕ → List Store → Type 0) : Type 0 where
  pub later : moment ≤ moment'
  pub limits : (blocks : Option ℕ) (t : ℕ) (ms : List Store) → t ≤ moment → left_only blocks t ms
      → left_only' blocks t ms
