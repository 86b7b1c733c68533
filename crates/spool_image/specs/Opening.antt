-- Opening a disk, whatever is on it.
use Rattle.std.specs.Prelude.{◌≡◌, ◌⊎◌, ℕ, Option, None, Some, IfOk, IfSome, Result, Ok, Err}
use Rattle.common.specs.declared.stop.Stop.TheVariants.{NoMemory, DiskFault}
use Rattle.spool_journal.specs.Image.{overlaid}
use Rattle.spool_catalog.specs.Loads.{LoadsAs}
use Rattle.spool_catalog.specs.Shows.{IsValid}
use Rattle.spool_catalog.specs.declared.error.OpenFault.{OpenFault}
use Rattle.spool_catalog.specs.declared.error.OpenFault.TheVariants.{NotASpool, Damaged, Version, Stop}
use Rattle.spool_load.specs.Loaded.{EncodesBy, ReadsView}
pub use Rattle.spool_load.specs.ReadBy.{OpeningReadsBy, ReadsBy}
pub use Rattle.spool_load.specs.Recovered.{ReadsSame, Unwritten}
use Rattle.spool_load.specs.Refusals.{IsNoSpool, ReadsDamage, ReadsOtherVersion, RefusedBy}
use Rattle.spool_pages.specs.View.{View}

-- The results.

-- The error of an opening, if it failed.
abbrev pub open_refusal_of : {D S : Type 0} → Result S (D × OpenFault) → Option OpenFault
open_refusal_of (Ok s) = None
open_refusal_of (Err e) = Some e.1

-- It is opened, or refused when out of memory or at a disk fault.
abbrev pub OpensAs : {D S : Type 0} → Result S (D × OpenFault) → (S → Type 0) → Type 0
OpensAs (Ok s) done = done s
OpensAs {S = S} (Err e) done = LoadsAs {T = S} (Err e.1) done

-- The error is this one, or out of memory, or a disk fault.
abbrev pub IsRefusedAs : Option OpenFault → OpenFault → Type 0
IsRefusedAs None fault = ⊥
IsRefusedAs (Some e) fault = (e ≡ fault) ⊎ (e ≡ Stop NoMemory) ⊎ (e ≡ Stop DiskFault)

-- What an opening's reads gave is a valid spool if it is opened. Each error has its reason in them, and each reason
-- leads to its error, unless memory or the disk refuses.
pub record AnswersBy (size : ℕ) (before after : ℕ → ℕ) (refusal : Option OpenFault) : Type 0 where
  pub valid : refusal ≡ None → ReadsView size before after (λ v. Unit {0})
  pub refused : IfSome refusal (RefusedBy size before after)
  pub not_a_spool : IsNoSpool size before → IsRefusedAs refusal NotASpool
  pub version : ReadsOtherVersion size before after → IsRefusedAs refusal Version
  pub damaged : ReadsDamage size before after → IsRefusedAs refusal Damaged

-- The same of what a read gives before it.
abbrev pub OpensExactly : ℕ → (ℕ → ℕ) → Option OpenFault → Type 0
OpensExactly size current = AnswersBy size current (overlaid current)

-- And what is opened has the view in memory that the reads gave; a valid one is opened, unless memory or the disk
-- refuses.
pub record OpensBy {D S : Type 0} (Has : S → View → Type 0) (size : ℕ) (result : Result S (D × OpenFault))
    (before after : ℕ → ℕ) : Type 0
  where
    pub exact : AnswersBy size before after (open_refusal_of result)
    pub memory : IfOk result (λ s. ReadsView size before after (Has s))
    pub opened : (v : View) → IsValid v → EncodesBy size before after v → OpensAs result (λ s. Has s v)
