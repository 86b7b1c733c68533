-- The reasons why a disk can't be opened: it isn't a spool, its version is unknown, or it is damaged. No two of these
-- hold, and none holds if a valid view is read.
--
-- A reason lies in what the opening's reads gave: `before` up to the end of the recovery, `after` from then on. Where
-- the disk is honest these are what a read gives and the plain reading of it.
use Rattle.std.specs.Prelude.{◌≡◌, ℕ}
use Rattle.std.specs.Int.{to_be_bytes, w32}
use Rattle.common.specs.declared.stop.Stop.TheVariants.{NoMemory, DiskFault}
use Rattle.spool_journal.specs.declared.TheConstants.{PAGE}
use Rattle.spool_journal.specs.Image.{journal_pages, InForm, count, journal_number, overlaid}
use Rattle.spool_catalog.specs.declared.error.OpenFault.{OpenFault}
use Rattle.spool_catalog.specs.declared.error.OpenFault.TheVariants.{NotASpool, Damaged, Version, Stop}
use Rattle.spool_catalog.specs.Shows.{IsValid}
use Rattle.spool_pages.specs.View.{View, Encodes, AreAt, state_place, version_number}
use Rattle.spool_pages.specs.declared.version.Version as code_version
use Rattle.spool_load.specs.Reads.{EncodesBlocks}

-- If the gate is open, the journal's head is valid.
abbrev pub HasJournal : ℕ → (ℕ → ℕ) → Type 0
HasJournal n current = current PAGE ≡ 165 → InForm (journal_pages n) (count current) (journal_number current)

-- The number of this version is at the place.
abbrev pub EncodesVersion : (ℕ → ℕ) → ℕ → code_version.Version → Type 0
EncodesVersion bytes place version = AreAt bytes place 4 (to_be_bytes w32 (version_number version))

-- The number of a known version is there.
pub record EncodesKnownVersion (bytes : ℕ → ℕ) (place : ℕ) : Type 0 where
  pub version : code_version.Version
  pub decoded : EncodesVersion bytes place version

-- The state page of a spool of n blocks has this version.
abbrev pub NamesVersion : ℕ → (ℕ → ℕ) → code_version.Version → Type 0
NamesVersion n bytes version = EncodesVersion bytes (state_place n) version

abbrev pub HasKnownVersion : ℕ → (ℕ → ℕ) → Type 0
HasKnownVersion n bytes = EncodesKnownVersion bytes (state_place n)

-- The disk doesn't begin as a spool, or is too short for it.
abbrev pub IsNoSpool : ℕ → (ℕ → ℕ) → Type 0
IsNoSpool size before = (n : ℕ) → EncodesBlocks size before n → ⊥

-- A spool whose journal is valid and whose version is unknown.
pub record ReadsOtherVersion (size : ℕ) (before after : ℕ → ℕ) : Type 0 where
  pub blocks : ℕ
  pub encodes : EncodesBlocks size before blocks
  pub journal : HasJournal blocks before
  pub other : HasKnownVersion blocks after → ⊥

-- A spool without a valid view. Its version is known, unless its journal is invalid.
pub record ReadsDamage (size : ℕ) (before after : ℕ → ℕ) : Type 0 where
  pub blocks : ℕ
  pub encodes : EncodesBlocks size before blocks
  pub version : HasJournal blocks before → HasKnownVersion blocks after
  pub no_view : (v : View) → IsValid v → HasJournal v.blocks before → Encodes after v → v.blocks ≡ blocks → ⊥

-- A spool whose journal is invalid.
pub record HasBadJournal (size : ℕ) (before : ℕ → ℕ) : Type 0 where
  pub blocks : ℕ
  pub encodes : EncodesBlocks size before blocks
  pub bad : HasJournal blocks before → ⊥

-- The reason for an error, on a disk that begins as a spool of n blocks.
abbrev pub RefusedHere : ℕ → (ℕ → ℕ) → (ℕ → ℕ) → OpenFault → Type 0
RefusedHere n before after NotASpool = ⊥
RefusedHere n before after Version = HasJournal n before × (HasKnownVersion n after → ⊥)
RefusedHere n before after Damaged = HasJournal n before → ⊥
RefusedHere n before after (Stop NoMemory) = ⊥
RefusedHere n before after (Stop DiskFault) = Unit {0}

-- The reason for an error of `find`.
abbrev pub NotFoundBy : ℕ → (ℕ → ℕ) → (ℕ → ℕ) → OpenFault → Type 0
NotFoundBy size before after NotASpool = IsNoSpool size before
NotFoundBy size before after Version = ReadsOtherVersion size before after
NotFoundBy size before after Damaged = HasBadJournal size before
NotFoundBy size before after (Stop NoMemory) = ⊥
NotFoundBy size before after (Stop DiskFault) = Unit {0}

-- The reason for an error of `load`.
abbrev pub RefusedBy : ℕ → (ℕ → ℕ) → (ℕ → ℕ) → OpenFault → Type 0
RefusedBy size before after NotASpool = IsNoSpool size before
RefusedBy size before after Version = ReadsOtherVersion size before after
RefusedBy size before after Damaged = ReadsDamage size before after
RefusedBy size before after (Stop stop) = Unit {0}

-- The same of what a read gives now.

abbrev pub HasOtherVersion : ℕ → (ℕ → ℕ) → Type 0
HasOtherVersion size current = ReadsOtherVersion size current (overlaid current)

abbrev pub IsDamaged : ℕ → (ℕ → ℕ) → Type 0
IsDamaged size current = ReadsDamage size current (overlaid current)

abbrev pub RefusedAt : ℕ → (ℕ → ℕ) → OpenFault → Type 0
RefusedAt n current = RefusedHere n current (overlaid current)

abbrev pub NotFoundFor : ℕ → (ℕ → ℕ) → OpenFault → Type 0
NotFoundFor size current = NotFoundBy size current (overlaid current)

abbrev pub RefusedFor : ℕ → (ℕ → ℕ) → OpenFault → Type 0
RefusedFor size current = RefusedBy size current (overlaid current)
