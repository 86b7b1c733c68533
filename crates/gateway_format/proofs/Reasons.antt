-- Why no spool is made.
use Rattle.std.proofs.Common.{◌≡◌, ◌⊎◌, ◌≤◌, ◌<◌, ◌*◌, arith, inl, inr, subst, sym, ℕ, Bool, List, Option, Result}
use Rattle.std.proofs.Common.{Ok, Err}
use Rattle.std.specs.Prelude.{◌↔◌, IfErr, IsNone, Some}
use Rattle.std.specs.IoError.{error_kind}
use Rattle.common.specs.declared.limits.TheConstants.{LEAST_BLOCKS, MOST_BLOCKS}
use Rattle.spool_disk.specs.Disk.{Preserves}
use Rattle.spool_disk.specs.declared.disk.Disk.{Ghosts}
use Rattle.spool_disk.specs.declared.file.CreateError.{CreateError}
use Rattle.spool_disk.specs.declared.file.CreateError.TheVariants as creates
use Rattle.spool_journal.specs.Image.{all_pages}
use Rattle.spool_journal.specs.declared.TheConstants.{PAGE}
use Rattle.spool_image.specs.Format.{FitsSpool, HasMagic}
use Rattle.spool_image.specs.declared.error.FormatError.{FormatError}
use Rattle.spool_image.specs.declared.error.FormatError.TheVariants as formats
use Rattle.gateway_outside.specs.Faults.{creating_fault, format_fault}
use Rattle.gateway_outside.specs.Held.{leaves_again}
use Rattle.gateway_outside.specs.SpoolFiles.{Disks, Leaves, OnlyRead, with_disk}
use Rattle.gateway_outside.specs.declared.faults.Fault.{Fault}
use Rattle.gateway_format.specs.Blanks.{IsBlank}
use Rattle.gateway_format.specs.Formatting.{IsReason, IsRefusedFor, failed, foreign, full, size, spool, unlengthened}
use Rattle.gateway_format.specs.Formatting.{unopened}

-- a number of blocks that has pages is in range
pub in_range : (blocks pages : ℕ) (o : Option ℕ) → o ≡ Some pages
    → (IsNone o ↔ ((blocks < LEAST_BLOCKS) ⊎ (MOST_BLOCKS < blocks)))
    → (LEAST_BLOCKS ≤ blocks) × (blocks ≤ MOST_BLOCKS)
in_range blocks pages o is none =
    let out : (blocks < LEAST_BLOCKS) ⊎ (MOST_BLOCKS < blocks) → ⊥ =
    λ so. let never = rw is at (none.1 so) in absurd (cc) in
    let low : blocks < LEAST_BLOCKS → ⊥ = λ l. out (inl l) in
    let high : MOST_BLOCKS < blocks → ⊥ = λ h. out (inr h) in (omega (arith, low), omega (arith, high))

-- a failure, where there is one
pub if_err_more : {T E : Type 0} (r : Result T E) (P Q : E → Type 0) → IfErr r P → ((e : E) → P e → Q e) → IfErr r Q
if_err_more (Ok t) P Q is so = tt
if_err_more (Err e) P Q is so = so e is

-- where the same bytes are read, a spool is still one, and so is what isn't blank
pub still_magic : (n n' : ℕ) (current current' : ℕ → ℕ) → n' ≡ n → ((p : ℕ) → current' p ≡ current p)
    → HasMagic n current → HasMagic n' current'
still_magic n n' current current' same bytes magic =
    subst (λ k. HasMagic k current') (sym same) (subst (λ c. HasMagic n c) (sym (λ i p. bytes p i)) magic)

pub still_foreign : (n n' : ℕ) (current current' : ℕ → ℕ) → n' ≡ n → ((p : ℕ) → current' p ≡ current p)
    → (IsBlank n current → ⊥) → IsBlank n' current' → ⊥
still_foreign n n' current current' same bytes filled blank =
    filled (subst (λ k. IsBlank k current) same (subst (λ c. IsBlank n' c) (λ i p. bytes p i) blank))

module _ {D : Type 0} (disk : Ghosts D) (holds : Disks D → Type 0) (disks : Disks D) (path : List ℕ) (blocks : ℕ)
    (overwrite : Bool) where
  -- a file that is there, of which this was read
  pub of_bytes : (d d' : D) (fault : Fault) → disk.honest d → OnlyRead disk d d'
      → ((P : D → Type 0) → P d' → Leaves holds disks path P)
      → IsRefusedFor (disk.size d) (disk.current d) overwrite fault
      → IsReason disk holds disks path blocks overwrite fault
  of_bytes d d' fault honest read leaves is =
      let same = (read.preserves honest).same in elim is [
        | inl magic ↦ rw magic.0 (spool (leaves _ (still_magic (disk.size d) (disk.size d') (disk.current d)
            (disk.current d') read.size same magic.1)))
        | inr other ↦ elim other [
          | inl bytes ↦ rw bytes.0 (foreign bytes.1 (leaves _ (still_foreign (disk.size d) (disk.size d')
              (disk.current d) (disk.current d') read.size same bytes.2)))
          | inr fails ↦ rw fails failed
        ]
      ]

  -- one that couldn't be made
  pub of_creating : (error : CreateError) → IsReason disk holds disks path blocks overwrite (creating_fault error)
  of_creating (creates.Open error) = unopened (error_kind error)
  of_creating (creates.Lengthen error) = unlengthened (error_kind error)

  -- one that was made, of which no spool could be
  pub of_formatting : {T : Type 0} (d d' : D) (error : FormatError) (answer : Result T FormatError) → answer ≡ Err error
      → disk.honest d → disk.size d' ≡ disk.size d → disk.size d ≡ PAGE * all_pages blocks → LEAST_BLOCKS ≤ blocks
      → blocks ≤ MOST_BLOCKS → (answer ≡ Err formats.AlreadySpool → HasMagic (disk.size d) (disk.current d))
      → (answer ≡ Err formats.AlreadySpool
      → Preserves (disk.current d) (disk.current d') (disk.unsynced d) (disk.unsynced d'))
      → (answer ≡ Err formats.Size → FitsSpool blocks (disk.size d) → ⊥)
      → ((P : D → Type 0) → P d' → Leaves holds disks path P)
      → IsReason disk holds disks path blocks overwrite (format_fault error)
  of_formatting d d' formats.AlreadySpool answer is honest same room least most magic kept fits leaves =
      spool (leaves _ (still_magic (disk.size d) (disk.size d') (disk.current d) (disk.current d') same (kept is).same
      (magic is)))
  of_formatting d d' formats.Size answer is honest same room least most magic kept fits leaves =
      absurd (fits is (record { least = least; most = most; room = omega (arith, room) }))
  of_formatting d d' formats.DiskFault answer is honest same room least most magic kept fits leaves = failed

  -- of files that hold the same but for what is at this path
  pub reason_again : (x : Option D) (fault : Fault)
      → IsReason disk holds (with_disk disks path x) path blocks overwrite fault
      → IsReason disk holds disks path blocks overwrite fault
  reason_again x fault (size out) = size out
  reason_again x fault (spool left) = spool (leaves_again holds disks path x _ _ left (λ d is. is))
  reason_again x fault (foreign keeps left) = foreign keeps (leaves_again holds disks path x _ _ left (λ d is. is))
  reason_again x fault (unopened kind) = unopened kind
  reason_again x fault (unlengthened kind) = unlengthened kind
  reason_again x fault failed = failed
  reason_again x fault full = full
