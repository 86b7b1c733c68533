-- A spool is made on a disk of zeros.
use Rattle.std.proofs.Common.{◌≡◌, ◌*◌, arith, inl, inr, ℕ, Result, Err}
use Rattle.common.specs.Counts.{Counts}
use Rattle.spool_disk.specs.Disk.{span}
use Rattle.spool_journal.specs.Image.{all_pages}
use Rattle.spool_journal.specs.declared.TheConstants.{PAGE}
use Rattle.spool_image.specs.Format.{FitsSpool, HasMagic}
use Rattle.spool_image.specs.declared.error.FormatError.{FormatError}
use Rattle.spool_image.specs.declared.error.FormatError.TheVariants as formats

no_magic : (size : ℕ) (bytes : ℕ → ℕ) → ((p : ℕ) → bytes p ≡ 0) → HasMagic size bytes → ⊥
no_magic size bytes zeros has = unfold span in (let prefix = has.prefix in let first = zeros 0 in cc)

fits : (size : ℕ) → size ≡ PAGE * all_pages 64 → FitsSpool 64 size
fits size is = record { least = omega arith; most = omega arith; room = omega (arith, is) }

-- `format` has no reason to refuse it
pub no_refusal : (size : ℕ) (bytes : ℕ → ℕ) (result : Result (Unit {0}) FormatError) → ((p : ℕ) → bytes p ≡ 0)
    → size ≡ PAGE * all_pages 64 → Counts (result ≡ Err formats.DiskFault) 0 0
    → (result ≡ Err formats.AlreadySpool → HasMagic size bytes)
    → (result ≡ Err formats.Size → FitsSpool 64 size → ⊥)
    → (error : FormatError) → result ≡ Err error → ⊥
no_refusal size bytes result zeros is counts already too_long formats.AlreadySpool same =
    no_magic size bytes zeros (already same)
no_refusal size bytes result zeros is counts already too_long formats.Size same = too_long same (fits size is)
no_refusal size bytes result zeros is counts already too_long formats.DiskFault same =
    elim (counts.counted same) [ inl less ↦ omega (arith, less) | inr most ↦ omega (arith, most) ]
