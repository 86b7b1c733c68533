-- What the writer and the folder of an export refused.
use Rattle.std.specs.Prelude.{◌≡◌, ◌⊎◌, ◌<◌, ◌≤◌, ◌+◌, ◌^◌, ℕ, true, Result, Ok, Err}
use Rattle.common.specs.Counts.{Counts}
use Rattle.common.specs.declared.stop.Stop as stops
use Rattle.gateway_outside.specs.Changing.{IsChangeFault}
use Rattle.gateway_outside.specs.declared.faults.Fault.{Fault}
use Rattle.gateway_outside.specs.declared.faults.Fault.TheVariants.{Stop}
use Rattle.gateway_export.specs.declared.exporting.ExportTally.{ExportTally}

-- out of memory, or the disk failed
abbrev pub IsStop : Fault → Type 0
IsStop fault = (stop : stops.Stop) × (fault ≡ Stop stop)

-- a count rose, up to the greatest u64
abbrev pub Rises : ℕ → ℕ → Type 0
Rises before now = (before < now) ⊎ (2 ^ 64 ≤ before + 1)

-- WHAT THE WRITER AND THE FOLDER REFUSED, by their counts: one of them refused exactly where that is answered. But
-- where memory or the disk stopped the export, the writer may have refused the line that tells which text failed
pub record RefusedAs (refused stopped : Type 0) (writer writer' folder folder' : ℕ) : Type 0 where
  pub later : (writer ≤ writer') × (folder ≤ folder')
  pub counted : refused → Rises writer writer' ⊎ Rises folder folder'
  pub by_writer : writer < writer' → refused ⊎ stopped
  pub by_folder : folder < folder' → refused

-- WHICH FILES THE FOLDER DIDN'T READ or sync, by its count of these: some exactly where that is told, if it came so far
abbrev pub UnreadAs : Result ExportTally Fault → ℕ → ℕ → Type 0
UnreadAs (Ok done) before now = Counts (done.unread ≡ true) before now
UnreadAs (Err fault) before now = before < now → IsChangeFault fault
