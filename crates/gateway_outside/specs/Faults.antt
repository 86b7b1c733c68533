-- Why the program ends before its work is done: what it prints of that, and its status.
use Rattle.std.specs.Prelude.{ℕ, List, [], ◌∷◌, ◌++◌, codes, decimal, Option, Some, None}
use Rattle.std.specs.Borrow.{Bor}
use Rattle.std.specs.IoError.{error_kind}
use Rattle.std.specs.declared.io.ErrorKind.{ErrorKind}
use Rattle.std.specs.declared.io.ErrorKind.TheVariants as kinds
use Rattle.common.specs.declared.stop.Stop.TheVariants as stops
use Rattle.enc_index.specs.declared.kind.ReadError.TheVariants as lines
use Rattle.enc_stream.specs.declared.error.TranscodeError.{TranscodeError}
use Rattle.enc_stream.specs.declared.error.TranscodeError.TheVariants as transcodes
use Rattle.spool_disk.specs.declared.file.CreateError.{CreateError}
use Rattle.spool_disk.specs.declared.file.CreateError.TheVariants as creates
use Rattle.spool_catalog.specs.declared.error.OpenFault.{OpenFault}
use Rattle.spool_catalog.specs.declared.error.OpenFault.TheVariants as opens
use Rattle.spool_image.specs.declared.error.FormatError.{FormatError}
use Rattle.spool_image.specs.declared.error.FormatError.TheVariants as formats
use Rattle.spool_image.specs.declared.error.RaiseError.{RaiseError}
use Rattle.spool_image.specs.declared.error.RaiseError.TheVariants as raises
use Rattle.spool_image.specs.declared.error.UpgradeError.{UpgradeError}
use Rattle.spool_image.specs.declared.error.UpgradeError.TheVariants as upgrades
use Rattle.gateway_outside.specs.declared.faults.Fault.{Fault}
use Rattle.gateway_outside.specs.declared.faults.Fault.TheVariants as faults

-- THE PROGRAM'S REFUSALS, each with its number and its name. A disk fault is none
abbrev pub numbered_refusal_of : Fault → Option (ℕ × List ℕ)
numbered_refusal_of (faults.Stop stops.NoMemory) = Some (0, codes "NoMemory")
numbered_refusal_of (faults.Stop stops.DiskFault) = None
numbered_refusal_of faults.Damaged = Some (2, codes "Damaged")
numbered_refusal_of (faults.Index file (lines.Line line)) = Some (3, codes "Line")
numbered_refusal_of (faults.Index file (lines.Range line)) = Some (4, codes "Range")
numbered_refusal_of (faults.Index file (lines.Twice line)) = Some (5, codes "Twice")
numbered_refusal_of (faults.Index file lines.NoMemory) = Some (0, codes "NoMemory")
numbered_refusal_of (faults.Unencodable c) = Some (6, codes "Unencodable")
numbered_refusal_of faults.NoSuch = Some (8, codes "NoSuch")
numbered_refusal_of faults.AlreadySpool = Some (13, codes "AlreadySpool")
numbered_refusal_of faults.Size = Some (14, codes "Size")
numbered_refusal_of faults.NotASpool = Some (15, codes "NotASpool")
numbered_refusal_of faults.Version = Some (16, codes "Version")
numbered_refusal_of faults.BadLabel = Some (28, codes "BadLabel")
numbered_refusal_of (faults.Script line) = Some (32, codes "Script")
numbered_refusal_of faults.Io = Some (33, codes "Io")
numbered_refusal_of faults.AlreadyNew = Some (35, codes "AlreadyNew")
numbered_refusal_of faults.FileDiffers = Some (37, codes "FileDiffers")
numbered_refusal_of faults.InUse = Some (38, codes "InUse")
numbered_refusal_of faults.CannotOpen = Some (39, codes "CannotOpen")
numbered_refusal_of faults.NotEmpty = Some (40, codes "NotEmpty")
numbered_refusal_of faults.OtherIndexes = Some (41, codes "OtherIndexes")
numbered_refusal_of faults.NumberTooLarge = Some (42, codes "NumberTooLarge")
numbered_refusal_of faults.Lost = Some (43, codes "Lost")

-- a number and a name, as the code gives them
abbrev pub row : ℕ × Bor (List ℕ) → ℕ × List ℕ
row refusal = (refusal.0, refusal.1.now)

-- after them the index file and its line, or the script's line: each with a space before it
abbrev pub fault_place : Fault → List ℕ
fault_place (faults.Index file (lines.Line line)) = 32 ∷ (file.now ++ (32 ∷ decimal line))
fault_place (faults.Index file (lines.Range line)) = 32 ∷ (file.now ++ (32 ∷ decimal line))
fault_place (faults.Index file (lines.Twice line)) = 32 ∷ (file.now ++ (32 ∷ decimal line))
fault_place (faults.Script line) = 32 ∷ decimal line
fault_place fault = []

abbrev pub refusal_line_of : Option (ℕ × List ℕ) → List ℕ → List ℕ
refusal_line_of None place = codes "device fault"
refusal_line_of (Some refusal) place = codes "refused: " ++ (decimal refusal.0 ++ (32 ∷ (refusal.1 ++ place)))

-- the line that the program ends with
abbrev pub failure_line : Fault → List ℕ
failure_line fault = refusal_line_of (numbered_refusal_of fault) (fault_place fault)

-- and its status: 3 for the disk, 4 for a file that differs, 2 for each other refusal
abbrev pub exit_status_of : Fault → ℕ
exit_status_of (faults.Stop stops.DiskFault) = 3
exit_status_of faults.FileDiffers = 4
exit_status_of fault = 2

-- why a file isn't opened or made as a spool, by the system's error
abbrev pub opening_fault : ErrorKind → Fault
opening_fault kinds.ResourceBusy = faults.InUse
opening_fault kinds.OutOfMemory = faults.Stop stops.NoMemory
opening_fault kind = faults.CannotOpen

-- why a folder isn't found, or a file or a stream isn't read
abbrev pub reading_fault : ErrorKind → Fault
reading_fault kinds.OutOfMemory = faults.Stop stops.NoMemory
reading_fault kind = faults.Io

-- why one that is open isn't lengthened or synced
abbrev pub lengthening_fault : ErrorKind → Fault
lengthening_fault kinds.OutOfMemory = faults.Stop stops.NoMemory
lengthening_fault kind = faults.Stop stops.DiskFault

abbrev pub creating_fault : CreateError → Fault
creating_fault (creates.Open error) = opening_fault (error_kind error)
creating_fault (creates.Lengthen error) = lengthening_fault (error_kind error)

-- WHAT THE CALLS BELOW REFUSE, as the program's fault
abbrev pub open_fault : OpenFault → Fault
open_fault opens.NotASpool = faults.NotASpool
open_fault opens.Damaged = faults.Damaged
open_fault opens.Version = faults.Version
open_fault (opens.Stop stop) = faults.Stop stop

abbrev pub format_fault : FormatError → Fault
format_fault formats.AlreadySpool = faults.AlreadySpool
format_fault formats.Size = faults.Size
format_fault formats.DiskFault = faults.Stop stops.DiskFault

abbrev pub upgrade_fault : UpgradeError → Fault
upgrade_fault (upgrades.Open fault) = open_fault fault
upgrade_fault upgrades.AlreadyNew = faults.AlreadyNew

abbrev pub raise_fault : RaiseError → Fault
raise_fault (raises.Open fault) = open_fault fault
raise_fault raises.TooLarge = faults.NumberTooLarge

-- by the transcoder: which character that is, if the call met it
abbrev pub transcode_fault : TranscodeError → Fault
transcode_fault transcodes.NoMemory = faults.Stop stops.NoMemory
transcode_fault (transcodes.Unencodable c) = faults.Unencodable (Some c)
transcode_fault transcodes.Spent = faults.Unencodable None
