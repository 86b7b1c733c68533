-- Uploads that are changed, one change after the other.
use Rattle.std.specs.Prelude.{◌≡◌, ◌⊎◌, ◌≤◌, ℕ, List, Option, Result, Ok, Err}
use Rattle.common.specs.declared.stop.Stop.TheVariants.{NoMemory, DiskFault}
use Rattle.upload_rules.specs.Answers.{Among}
use Rattle.upload_rules.specs.Store.{Store}
use Rattle.gateway_outside.specs.declared.faults.Fault.{Fault}
use Rattle.gateway_outside.specs.declared.faults.Fault.TheVariants.{Stop, Io}

-- each of the first stores is one of the second
abbrev pub AreAllAmong : List Store → List Store → Type 0
AreAllAmong stores ms = (m : Store) → Among m stores → Among m ms

-- whatever stores all images since some moment were limited to, they still are, once these stores are among them
pub record LimitsToAll (moment moment' : ℕ) (left_only left_only' : Option ℕ → ℕ → List Store → Type 0)
    (stores : List Store) : Type 0 where
  pub later : moment ≤ moment'
  pub limits : (blocks : Option ℕ) (t : ℕ) (ms : List Store) → t ≤ moment → left_only blocks t ms
      → AreAllAmong stores ms
      → left_only' blocks t ms

-- what isn't the disk's: out of memory, or refused by a writer or a folder
abbrev pub IsStreamFault : Fault → Type 0
IsStreamFault f = (f ≡ Stop NoMemory) ⊎ (f ≡ Io)

-- why uploads aren't changed: out of memory, or refused by the writer or the disk
abbrev pub IsChangeFault : Fault → Type 0
IsChangeFault f = (f ≡ Stop NoMemory) ⊎ (f ≡ Io) ⊎ (f ≡ Stop DiskFault)

-- done, or refused for one of these
abbrev pub IsChangeResult : {T : Type 0} → Result T Fault → Type 0
IsChangeResult (Ok t) = Unit {0}
IsChangeResult (Err f) = IsChangeFault f
